use Rattle.std.proofs.Common.{◌&&◌, Bool, true, leb, ℤ, nat_abs, ap, ◌∙◌, rules}
use denote.Ref.{Bor}
use Rattle.storage.specs.Contents.{top_count, all_small}
use Rattle.storage.proofs.Turns.{small_fold}
use Rattle.storage.proofs.storing.are_small.Goals as goal

pub returns : goal.returns
returns c =
    let r = c.fold.ensures.runs in
    let h : Bool → Bor ℤ → Bool = λ all v. all && leb (nat_abs v.now) top_count in
    let folded = r.3 h (λ all v b f called. let k = called in search rules) in
    let items = (c.iter.ensures.runs r.0 r.0.seen).4 r.2 in
    folded ∙ small_fold top_count true r.0.items ∙ ap (all_small top_count) (items ∙ ap (λ s. s.rest.now) r.1 ∙ c.iter.ensures.rest)
