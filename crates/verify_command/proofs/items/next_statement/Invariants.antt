use Rattle.same_files.proofs.Passed.{items_left}
use Rattle.verify_command.specs.Steps.{Passes}
use Rattle.verify_command.proofs.items.next_statement.Given as goal

abbrev pub invariant-loop-item : goal.invariant-loop-item
invariant-loop-item l = Passes l.fn.patterns l.patterns

abbrev pub decreases-loop-item : goal.decreases-loop-item
decreases-loop-item l = items_left l.patterns
