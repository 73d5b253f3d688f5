-- What importing leaves of a capture, and that exporting and importing again leaves it equal. Assumes nothing.
use Rattle.std.proofs.Common.{◌≡◌, ℕ, List, map, length, take, drop, Some, Ok, Err, Result, sym, refl, ap, ◌∙◌, subst, take_at}
use lib.ListN.{length-map}
use lib.Ieee.{Float}
use Rattle.polar.specs.declared.refusal.Refusal.{Refusal}
use Rattle.levels.specs.Level.{level_of, count_of}
use Rattle.levels.specs.Rows.{AllWithin, RowImported, RowsReturn}
use Rattle.captures.specs.Tops.{WithinTop}
use Rattle.captures.specs.Captures.{Captured, with_counts}
use Rattle.captures.specs.Calls.{Answer, Exported, Imported}
use Rattle.captures.specs.Promises.{Returns}
use Rattle.captures.proofs.Counts.{all_from_within}

module _ (top k : ℕ) (rows : RowsReturn top k) where
  -- what comes back of a capture's own levels
  back : (c : Captured) → c.scale_exponent ≡ k → AllWithin top c.count_row → (again : Answer) (after : Captured)
      → Imported top c (map (level_of k) c.count_row) again after → (again ≡ Ok tt) × (after ≡ c)
  back c is all (Ok u) after done =
      let row : RowImported top k (map (level_of k) c.count_row) c.count_row after.count_row (Ok u) =
      (done.0, subst (λ j. map Some after.count_row ≡ map (count_of top j) (map (level_of k) c.count_row)) is done.1.1) in
      let same = rows c.count_row c.count_row after.count_row (Ok u) all refl row in
      (same.0, done.1.0 ∙ ap (with_counts c) same.1)
  back c is all (Err e) after done =
      let never : ◌≡◌ {A = Answer} (Err e) (Ok tt) = (rows c.count_row c.count_row c.count_row (Err e) all refl (done.0, refl)).0 in absurd cc

  pub export_returns : (c : Captured) (before row : List Float) (answer : Result ℕ Refusal) → c.scale_exponent ≡ k → WithinTop top c.count_row
      → Exported top c before answer row → Returns top c answer row
  export_returns c before row (Err e) is within done = tt
  export_returns c before row (Ok n) is within done = λ again after imported.
      let levels : take n row ≡ map (level_of k) c.count_row =
      ap (take n) done.1.1 ∙ take_at (map (level_of c.scale_exponent) c.count_row) (drop (length c.count_row) before) n (length-map c.count_row (level_of c.scale_exponent) ∙ sym done.1.0) ∙ ap (λ j. map (level_of j) c.count_row) is in
      back c is (all_from_within top c.count_row within) again after (subst (λ xs. Imported top c xs again after) levels imported)
