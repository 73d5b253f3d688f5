use Rattle.readers.specs.SplitSteps.{split_ready}
use Rattle.readers.proofs.split.SplitReader.read.Goals as goal

pub read_by_halves-requires : goal.read_by_halves-requires
read_by_halves-requires g c =
    split_ready g.K.Soft.kind g.met.K.Soft.rules _ (g.met.R.Reader.rules c.args.self.now.below) _ _ _ _ c.args.question.now.posed.some c.requires
