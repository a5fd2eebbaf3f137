use Rattle.verify_command.specs.Steps.{AreCounted}
use Rattle.verify_command.proofs.places.count_in.Given as goal

abbrev pub invariant-loop-done : goal.invariant-loop-done
invariant-loop-done l = AreCounted l.pattern l.fn.patterns l._done l.count l.patterns
