use Rattle.std.proofs.Common.{◌≡◌, ◌++◌, length}
use Rattle.stil_writer.specs.Loops.{loop_from, written_loop}
use Rattle.stil_writer.proofs.loops.stil_loop.Given as goal

abbrev pub invariant-loop-statement : goal.invariant-loop-statement
invariant-loop-statement l = l.out.items ++ loop_from l.head.chains l.text l.at l.rest l.left ≡ written_loop l.head.chains l.text l.body l.calls

abbrev pub decreases-loop-statement : goal.decreases-loop-statement
decreases-loop-statement l = length l.rest
