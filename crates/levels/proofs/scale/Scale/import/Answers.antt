use Rattle.std.proofs.Common.{◌≡◌, map, Some, sym, ap, ◌∙◌, rules}
use Rattle.std.proofs.lemmas.List.{drop_all, append-nil}
use Rattle.std.proofs.iter.runs.Made.{chains}
use Rattle.levels.specs.Conversion.{nearest_or_zero}
use Rattle.levels.specs.Level.{largest_count, exponent_of, count_of}
use Rattle.levels.proofs.Rows.{counts_taken, all_within}
use Rattle.levels.proofs.scale.Scale.import.Goals as goal

pub returns : goal.returns
returns c =
    let k = exponent_of c.args.self.now.step in
    let nearest : c.write_front.new.out ≡ map (nearest_or_zero largest_count k) c.args.levels.now = search (rules, chains, drop_all, append-nil) in
    let taken : map Some c.write_front.new.out ≡ map (count_of largest_count k) c.args.levels.now =
    ap (map Some) nearest ∙ counts_taken largest_count k c.args.levels.now (sym c.if-not-all_numbers.ensures) in
    record { read = (search rules, taken); within = λ _. all_within largest_count k c.args.levels.now c.write_front.new.out taken }
