use Rattle.std.proofs.Common.{◌≡◌, drop, refl, ◌∙◌, arith}
use Rattle.std.proofs.lemmas.Bool.{ne_eqb}
use Rattle.polar.specs.Words.{plus}
use Rattle.polar.proofs.InPlace.{passed}
use Rattle.polar.proofs.labels.+pass.Goals as goal
use Rattle.polar.proofs.labels.+pass.Goals.{then-this-ne0, else-this-ne0}

pub returns-then-not-this : goal.returns-then-not-this
returns-then-not-this g t c =
    let bits = c.args.bits.now in
    let before : c.if-this-ne0.bits ≡ bits =
    elim c.if-this-ne0.branch [
      | then-this-ne0 w ↦ absurd (w.if-this-ne0.true c.if-not-this.true)
      | else-this-ne0 w ↦ w.bits-is
    ] in
    passed _ bits c.if-this-ne0.bits c.pass.new.bits c.pass-2.new.bits _ c.children-left.result.0 (omega arith) (omega arith)
    (rw c.if-not-this.true before) c.pass.ensures c.pass-2.ensures (rw c.if-not-this.true c.add_right-then-not-this.ensures)

pub returns-else-not-this : goal.returns-else-not-this
returns-else-not-this g t c =
    let bits = c.args.bits.now in
    let inverse = ne_eqb g.row.INVERSE 0 c.if-not-this.false in
    let before : c.if-this-ne0.bits ≡ plus bits (drop c.children-left.result.0 bits) =
    elim c.if-this-ne0.branch [
      | then-this-ne0 w ↦ w.bits-is ∙ w.add_right.ensures
      | else-this-ne0 w ↦ absurd (c.if-not-this.false w.if-this-ne0.false)
    ] in
    passed _ bits c.if-this-ne0.bits c.pass.new.bits c.pass-2.new.bits _ c.children-left.result.0 (omega arith) (omega arith)
    (rw inverse before) c.pass.ensures c.pass-2.ensures (rw inverse refl)
