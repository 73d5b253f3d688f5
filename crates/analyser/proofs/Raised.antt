-- For every plan some two data words are confused by erasures charged the bound. Assumes nothing.
use Rattle.std.proofs.Common.{ℕ, Bool, List, length, sym}
use Rattle.polar.specs.Codewords.{tree_of, codeword}
use Rattle.polar.proofs.Shapes.{leaves_balanced, left_heavy_balanced}
use Rattle.polar.proofs.Minimum.{least_weight}
use Rattle.analyser.specs.Assurance.{Planned, BoundCannotBeRaised}
use Rattle.analyser.specs.Worst.{zero_word, leaf_word, places_of}
use Rattle.analyser.proofs.Turns.{some_first}
use Rattle.analyser.proofs.Confusion.{tight}

pub cannot_be_raised : (top : ℕ) (ms : List Bool) → Planned ms → BoundCannotBeRaised top ms
cannot_be_raised top ms plan =
    let n = length ms in
    let least = least_weight (tree_of ms) ms (left_heavy_balanced n plan.some) (sym (leaves_balanced n plan.some)) plan.active in
    let first = some_first ms least in
    (zero_word ms, leaf_word ms first.0, places_of (codeword ms (leaf_word ms first.0)), tight top ms first.0 first.1)
