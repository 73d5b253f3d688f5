use Rattle.std.proofs.Common.{◌≡◌, true, false, get_or, refl, ap, ◌∙◌, arith, rules}
use lib.Ieee.{nan}
use Rattle.levels.specs.Rows.{all_are_numbers}
use Rattle.levels.proofs.Rows.{numbers_all, numbers_not, tested, seen_if, seen_and}
use Rattle.levels.proofs.scale.rows.all_numbers.Goals as goal

pub returns : goal.returns
returns c =
    let r = c.all.ensures.runs in
    let xs = r.0.from.rest.now in
    let m = c.iter.ensures.runs r.0 r.0.seen in
    let same : xs ≡ c.args.levels.now = ap (λ s. s.rest.now) r.1 ∙ c.iter.ensures.rest in
    tested c.all.result xs r.2
    (λ w. numbers_all xs (λ k d l. seen_if (get_or xs k d) false (λ x called. search rules) (r.0.at k) (m.2 k d (omega (arith, m.1 w.0))) (w.1 (λ a s f called. refl) k)))
    (λ w. let h = w (λ a s f called. refl) in
    numbers_not xs h.0 nan (omega (arith, m.0, h.1)) (seen_and _ true (λ x called. search rules) (r.0.at h.0) (m.2 h.0 _ h.1) h.2))
    ∙ ap all_are_numbers same
