use Rattle.std.proofs.Common.{length}
use Rattle.failmap_command.specs.Passing.{ArePassed}
use Rattle.failmap_command.proofs.pairs.pass_pairs.Given as goal

abbrev pub invariant-loop-a : goal.invariant-loop-a
invariant-loop-a l = ArePassed l.map.0 l.map.1 l.fn.old l.fn.new l.fn.mapping l.old l.new l.mapping

abbrev pub decreases-loop-a : goal.decreases-loop-a
decreases-loop-a l = length l.old.statements
