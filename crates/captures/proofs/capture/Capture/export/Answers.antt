use Rattle.std.proofs.Common.{sym, rules}
use Rattle.levels.specs.Level.{exponent_of}
use Rattle.captures.specs.Tops.{top_count}
use Rattle.captures.specs.Views.{captured}
use Rattle.captures.proofs.Imports.{export_returns}
use Rattle.captures.proofs.capture.Capture.export.Goals as goal

pub returns-clause-returns : goal.returns-clause-returns
returns-clause-returns c =
    let s = c.args.self.now in
    export_returns top_count (exponent_of c.scale.result.step) c.export.ensures.returns (captured s) c.args.out.now c.export.new.out c.export.result (sym c.scale.ensures) s.within (search rules)
