use Rattle.std.proofs.Common.{◌≡◌, true, false, [], ◌∷◌, ◌++◌, map, pos, vec_items, ap, ◌∙◌, ap₂, rules}
use Rattle.polar.specs.Labels.{label}
use Rattle.polar.specs.Plans.{marks_of}
use Rattle.polar.specs.Codewords.{codeword}
use Rattle.polar.proofs.Shapes.{balanced_one}
use Rattle.captures.specs.Tops.{top_count}
use Rattle.captures.specs.Captures.{full}
use Rattle.captures.proofs.capture.Capture.new.Goals as goal

pub returns : goal.returns
returns c =
    let word : codeword (true ∷ []) (false ∷ []) ≡ false ∷ [] = ap (λ s. label s (false ∷ [])) balanced_one in
    let counts : map (full top_count) (codeword (true ∷ []) (false ∷ [])) ≡ pos 127 ∷ [] = ap (map (full top_count)) word in
    let marks : marks_of c.in_ok-plan.plan ≡ true ∷ [] = c.in_ok-plan.ensures in
    let held : vec_items c.push_reserved.new.self ≡ pos 127 ∷ [] = c.push_reserved.ensures.items ∙ ap₂ (λ z v. z ++ v ∷ []) c.in_ok-counts.ensures.items (search (rules, c.full_count.ensures)) in
    cc
