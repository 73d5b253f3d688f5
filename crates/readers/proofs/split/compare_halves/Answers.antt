use Rattle.readers.specs.Node.{posed_turns}
use Rattle.readers.proofs.split.compare_halves.Goals as goal

pub compare_onto-requires-clause-few : goal.compare_onto-requires-clause-few
compare_onto-requires-clause-few g c = posed_turns c.args.question.now.posed
