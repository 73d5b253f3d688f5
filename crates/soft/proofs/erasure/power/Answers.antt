-- A shift by at most 12 is exact.
use Rattle.std.proofs.Common.{◌≡◌, ◌*◌, ◌%◌, ◌^◌, ◌≤◌, ap, ◌∙◌, mod-eq_of_lt, one-mul, arith, w32, to_z}
use Rattle.std.proofs.lemmas.Int.{to_z_pos}
use Rattle.soft.specs.ErasuresLemmas.{power_most}
use Rattle.soft.proofs.erasure.power.Goals as goal

pub returns : goal.returns
returns c =
    let power = 2 ^ c.args.turns in
    let most : power ≤ 4096 = power_most c.args.turns c.requires in
    let kept : 1 * power % 4294967296 ≡ power = rw one-mul (mod-eq_of_lt (omega arith)) in
    (ap (to_z w32) kept ∙ to_z_pos w32 power (omega arith), most)
