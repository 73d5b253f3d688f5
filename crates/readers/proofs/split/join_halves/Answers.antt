use Rattle.readers.specs.Node.{posed_few}
use Rattle.readers.proofs.split.join_halves.Goals as goal

pub join_into-requires-clause-few : goal.join_into-requires-clause-few
join_into-requires-clause-few g c = posed_few c.args.question.now.posed c.requires.two
