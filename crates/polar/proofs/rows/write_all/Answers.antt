use Rattle.std.proofs.Common.{◌≡◌, length, arith}
use Rattle.std.proofs.lemmas.List.{drop_all, append-nil}
use Rattle.polar.proofs.rows.write_all.Goals as goal

pub returns : goal.returns
returns g c =
    let w = c.write_front.ensures.runs in
    let size : w.0.len ≡ length c.args.out.now = c.requires.full w.0 w.0.seen w.1 w.2 in
    let all = rw (drop_all w.0.len c.args.out.now (omega arith), append-nil) at w.3.1 in
    record { runs = (w.0, w.1, w.2, (omega (arith, c.write_front.auto.out), all)) }
