use Rattle.partition_moves.specs.Roomy.{AreSparesOf}
use Rattle.partition_moves.proofs.spares.spares_of.Given as goal

abbrev pub invariant-loop-c : goal.invariant-loop-c
invariant-loop-c l = AreSparesOf l.rules l.plan l.spares.items l.c
