-- What every list of calls keeps of a capture: its plan and exponent, its range, and that it is no further from the
-- sender's word than the charges of the list. Assumes nothing.
use Rattle.std.proofs.Common.{◌≡◌, ℕ, ◌+◌, ◌<◌, ◌≤◌, Bool, true, ltb, List, ◌∷◌, length, get_or, take, drop, ℤ, pos, None, Ok, Err, Result, sym, ap, ◌∙◌, subst, ⊎_elim, arith, length-set, take_at}
use lib.Ieee.{Float}
use Rattle.std.proofs.lemmas.Bool.{ltb-true}
use Rattle.polar.specs.declared.refusal.Refusal.{Refusal}
use Rattle.polar.specs.declared.refusal.Refusal.TheVariants.{Place, Range}
use Rattle.polar.specs.Refusals.{refused_unless}
use Rattle.polar.proofs.Dues.{unless_none}
use Rattle.levels.specs.Rows.{RowsReturn}
use Rattle.storage.specs.Contents.{Sound}
use Rattle.storage.specs.Laws.{LoadsWhatIsStored}
use Rattle.captures.specs.declared.edit.Edit.{Edit}
use Rattle.captures.specs.Tops.{WithinTop}
use Rattle.captures.specs.Captures.{Captured, capture_of, content_in, with_counts, shortfall}
use Rattle.captures.specs.Calls.{allowed, charge, count_after, edited_at, edit_due, Exported, Imported, Saved, saved_bytes, Loaded}
use Rattle.captures.proofs.Counts.{within_set, edit_within}
use Rattle.captures.proofs.Shortfalls.{charged}
use Rattle.captures.proofs.Imports.{export_returns}
use Rattle.captures.proofs.Storing.{small_from_within, loads_back}
use Rattle.analyser.specs.Histories.{Call, edit, export, import, save, load, charges, Earlier, written, Writes, Step, History, none, then}
use Rattle.analyser.specs.Assurance.{Planned}

module _ (top : ℕ) (ms : List Bool) (k : ℕ) (word : List Bool) where
  pub record Kept (budget : ℕ) (c : Captured) : Type 0 where
    pub same_plan : c.marks_row ≡ ms
    pub same_scale : c.scale_exponent ≡ k
    pub whole : length c.count_row ≡ length ms
    pub within : WithinTop top c.count_row
    pub near : shortfall top c.count_row word ≤ budget

  kept_more : {b : ℕ} {c : Captured} (b' : ℕ) → b ≤ b' → Kept b c → Kept b' c
  kept_more b' more kept = record {
    same_plan = kept.same_plan;
    same_scale = kept.same_scale;
    whole = kept.whole;
    within = kept.within;
    near = omega (arith, kept.near);
  }

  -- what a call wrote brings a capture back that was kept
  abbrev Wrote : ℕ → Call → Type 0
  Wrote budget (edit place e r) = Unit {0}
  Wrote budget (export (Ok levels)) = (c : Captured) × Kept budget c × ((after : Captured) → Imported top c levels (Ok tt) after → after ≡ c)
  Wrote budget (export (Err why)) = Unit {0}
  Wrote budget (import levels r) = Unit {0}
  Wrote budget (save (Ok bytes)) = (c : Captured) × Kept budget c × ((place after : Captured) → Loaded top place bytes (Ok tt) after → after ≡ c)
  Wrote budget (save (Err why)) = Unit {0}
  Wrote budget (load bytes r) = Unit {0}

  wrote_more : {b : ℕ} (b' : ℕ) → b ≤ b' → (call : Call) → Wrote b call → Wrote b' call
  wrote_more b' more (edit place e r) w = tt
  wrote_more b' more (export (Ok levels)) w = (w.0, kept_more b' more w.1, w.2)
  wrote_more b' more (export (Err why)) w = tt
  wrote_more b' more (import levels r) w = tt
  wrote_more b' more (save (Ok bytes)) w = (w.0, kept_more b' more w.1, w.2)
  wrote_more b' more (save (Err why)) w = tt
  wrote_more b' more (load bytes r) w = tt

  -- the capture after a list of calls, with all that they wrote
  record State (past : List Call) (c : Captured) : Type 0 where
    kept : Kept (charges top past) c
    recall : (call : Call) → Earlier call past → Wrote (charges top past) call

  next : (past : List Call) (before after : Captured) (call : Call) → State past before → Kept (charges top (call ∷ past)) after → Wrote (charges top (call ∷ past)) call → State (call ∷ past) after
  next past before after call state kept wrote = record {
    kept = kept;
    recall = λ c. ⊎_elim (λ same. subst (Wrote (charges top (call ∷ past))) same wrote) (λ old. wrote_more (charges top (call ∷ past)) (omega arith) c (state.recall c old));
  }

  -- a call that leaves the capture as it was
  idle : (past : List Call) (before after : Captured) (call : Call) → State past before → after ≡ before → Kept (charges top (call ∷ past)) after
  idle past before after call state same = subst (Kept (charges top (call ∷ past))) (sym same) (kept_more (charges top (call ∷ past)) (omega arith) state.kept)

  kept_edit : (budget : ℕ) (before : Captured) (place : ℕ) (e : Edit) → Kept budget before → edit_due top before place e ≡ None → Kept (charge top e + budget) (edited_at top before place e)
  kept_edit budget before place e kept due =
      let counts = before.count_row in
      let tests = unless_none (ltb place (length counts)) Place (refused_unless (allowed top e) Range None) due in
      let here : place < length counts = ltb-true place (length counts) tests.0 in
      let ok : allowed top e ≡ true = (unless_none (allowed top e) Range None tests.1).0 in
      let old = get_or counts place (pos 0) in
      let new = count_after top before.scale_exponent e old in
      record {
        same_plan = kept.same_plan;
        same_scale = kept.same_scale;
        whole = length-set counts place new ∙ kept.whole;
        within = within_set top counts place new here kept.within (edit_within top before.scale_exponent e old ok (kept.within place here));
        near = omega (arith, kept.near, charged top before place e here kept.within ok word);
      }

  -- two kept captures differ in their counts alone
  same_but_counts : (b b' : ℕ) (c c' : Captured) → Kept b c → Kept b' c' → (counts : List ℤ) → with_counts c counts ≡ with_counts c' counts
  same_but_counts b b' c c' kept kept' counts =
      ap (λ m. capture_of m counts c.scale_exponent) (kept.same_plan ∙ sym kept'.same_plan)
      ∙ ap (capture_of c'.marks_row counts) (kept.same_scale ∙ sym kept'.same_scale)

  -- what is imported into a kept capture might as well be imported into another
  import_elsewhere : (b b' : ℕ) (c c' after : Captured) (levels : List Float) → Kept b c → Kept b' c' → Imported top c levels (Ok tt) after → Imported top c' levels (Ok tt) after
  import_elsewhere b b' c c' after levels kept kept' done =
      let long : length c.count_row ≡ length c'.count_row = kept.whole ∙ sym kept'.whole in
      let scale : c.scale_exponent ≡ c'.scale_exponent = kept.same_scale ∙ sym kept'.same_scale in
      (rw (sym long) done.0, (done.1.0 ∙ same_but_counts b b' c c' kept kept' after.count_row, rw (sym scale) done.1.1))

  module _ (plan : Planned ms) (small : k ≤ 6) (rows : RowsReturn top k) (stores : LoadsWhatIsStored top) where
    sound : (budget : ℕ) (c : Captured) → Kept budget c → Sound top (content_in c)
    sound budget c kept = record {
      some = subst (λ m. 1 ≤ length m) (sym kept.same_plan) plan.some;
      short = subst (λ m. length m ≤ 4096) (sym kept.same_plan) plan.short;
      active = rw kept.same_plan plan.active;
      paired = kept.whole ∙ ap length (sym kept.same_plan);
      small = small_from_within top c.count_row kept.within;
      scaled = subst (λ j. j ≤ 6) (sym kept.same_scale) small;
    }

    exported : (budget : ℕ) (c : Captured) (levels : List Float) → Kept budget c → Writes (Exported top c) (Ok levels) → Wrote budget (export (Ok levels))
    exported budget c levels kept writes = (c, kept, λ after done. brought writes.answer after writes.done writes.is done)
      where
        brought : (answer : Result ℕ Refusal) (after : Captured) → Exported top c writes.lent answer writes.row → Ok levels ≡ written answer writes.row → Imported top c levels (Ok tt) after → after ≡ c
        brought (Ok n) after done is imported =
            let same : levels ≡ take n writes.row = cc in
            (export_returns top k rows c writes.lent writes.row (Ok n) kept.same_scale kept.within done (Ok tt) after (subst (λ xs. Imported top c xs (Ok tt) after) same imported)).1
        brought (Err e) after done is imported = absurd cc

    saved : (budget : ℕ) (c : Captured) (bytes : List ℕ) → Kept budget c → Writes (Saved top c) (Ok bytes) → Wrote budget (save (Ok bytes))
    saved budget c bytes kept writes = (c, kept, λ place after done. brought writes.answer place after writes.done writes.is done)
      where
        brought : (answer : Result ℕ Refusal) (place after : Captured) → Saved top c writes.lent answer writes.row → Ok bytes ≡ written answer writes.row → Loaded top place bytes (Ok tt) after → after ≡ c
        brought (Ok n) place after done is loaded =
            let same : bytes ≡ take n writes.row = cc in
            let front : take n writes.row ≡ saved_bytes top c = ap (take n) done.1.1 ∙ take_at (saved_bytes top c) (drop n writes.lent) n (sym done.1.0) in
            (loads_back top c place bytes (Ok tt) after (same ∙ front) (stores (content_in c) (sound budget c kept)) loaded).1
        brought (Err e) place after done is loaded = absurd cc

    step : (past : List Call) (before after : Captured) (call : Call) → State past before → Step top past before call after → State (call ∷ past) after
    step past before after (edit place e (Ok u)) state did =
        next past before after (edit place e (Ok u)) state (subst (Kept _) (sym did.1) (kept_edit (charges top past) before place e state.kept did.0)) tt
    step past before after (edit place e (Err why)) state did = next past before after _ state (idle past before after (edit place e (Err why)) state did.1) tt
    step past before after (export (Ok levels)) state did =
        let call = export (Ok levels) in
        let kept = kept_more (charges top (call ∷ past)) (omega arith) state.kept in
        next past before after call state (idle past before after call state did.1) (exported (charges top (call ∷ past)) before levels kept did.0)
    step past before after (export (Err why)) state did = next past before after _ state (idle past before after (export (Err why)) state did.1) tt
    step past before after (import levels (Ok u)) state did =
        let call = import levels (Ok u) in
        let w = state.recall (export (Ok levels)) did.1 in
        let back : after ≡ w.0 = w.2 after (import_elsewhere _ _ before w.0 after levels state.kept w.1 did.0) in
        next past before after call state (subst (Kept _) (sym back) (kept_more (charges top (call ∷ past)) (omega arith) w.1)) tt
    step past before after (import levels (Err why)) state did = next past before after _ state (idle past before after (import levels (Err why)) state did.0.1) tt
    step past before after (save (Ok bytes)) state did =
        let call = save (Ok bytes) in
        let kept = kept_more (charges top (call ∷ past)) (omega arith) state.kept in
        next past before after call state (idle past before after call state did.1) (saved (charges top (call ∷ past)) before bytes kept did.0)
    step past before after (save (Err why)) state did = next past before after _ state (idle past before after (save (Err why)) state did.1) tt
    step past before after (load bytes (Ok u)) state did =
        let call = load bytes (Ok u) in
        let w = state.recall (save (Ok bytes)) did.1 in
        next past before after call state (subst (Kept _) (sym (w.2 before after did.0)) (kept_more (charges top (call ∷ past)) (omega arith) w.1)) tt
    step past before after (load bytes (Err why)) state did = next past before after _ state (idle past before after (load bytes (Err why)) state did.0.1) tt

    whole_list : (start : Captured) (past : List Call) (now : Captured) → Kept 0 start → History top start past now → State past now
    whole_list start past now kept none = record { kept = kept; recall = λ call earlier. absurd earlier }
    whole_list start past now kept (then {past = p} {before = b} {call = c} h s) = step p b now c (whole_list start p b kept h) s

    -- any list of calls keeps the capture within its charges
    pub keeps : (start : Captured) (past : List Call) (now : Captured) → Kept 0 start → History top start past now → Kept (charges top past) now
    keeps start past now kept history = (whole_list start past now kept history).kept
