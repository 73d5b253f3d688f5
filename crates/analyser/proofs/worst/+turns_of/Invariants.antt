use Rattle.analyser.proofs.worst.+turns_of.Given as goal

abbrev pub decreases-turns_of : goal.decreases-turns_of
decreases-turns_of l = l.len
