use Rattle.std.proofs.Common.{length, ap, append_assoc, arith, length-append}
use Rattle.storage.proofs.Forms.{in_one, in_two, in_three, number_some}
use Rattle.storage.proofs.form.Form.push_number.Goals as goal

pub push-requires : goal.push-requires
push-requires c = omega (arith, number_some c.args.n)

pub returns-then-n-lt128 : goal.returns-then-n-lt128
returns-then-n-lt128 c = rw (in_one c.args.n (omega arith)) c.push.ensures

pub push-requires-2 : goal.push-requires-2
push-requires-2 c = omega (arith, number_some c.args.n)

pub push-requires-then-n-lt16384 : goal.push-requires-then-n-lt16384
push-requires-then-n-lt16384 c = rw c.push-2.ensures (simp length-append (omega (arith, ap length (in_two c.args.n (omega arith) (omega arith)))))

pub returns-then-n-lt16384 : goal.returns-then-n-lt16384
returns-then-n-lt16384 c = rw (c.push-then-n-lt16384.ensures, c.push-2.ensures, in_two c.args.n (omega arith) (omega arith)) (simp append_assoc)

pub push-requires-3 : goal.push-requires-3
push-requires-3 c = rw c.push-2.ensures (simp length-append (omega (arith, ap length (in_three c.args.n (omega arith) (omega arith)))))

pub push-requires-4 : goal.push-requires-4
push-requires-4 c = rw (c.push-3.ensures, c.push-2.ensures) (simp length-append (omega (arith, ap length (in_three c.args.n (omega arith) (omega arith)))))

pub returns : goal.returns
returns c = rw (c.push-4.ensures, c.push-3.ensures, c.push-2.ensures, in_three c.args.n (omega arith) (omega arith)) (simp append_assoc)
