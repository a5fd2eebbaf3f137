use Rattle.std.proofs.Common.{◌≡◌, ◌++◌, drop}
use Rattle.bound_command.specs.Bounds.{trees_from}
use Rattle.bound_command.proofs.report.push_trees.Given as goal

abbrev pub invariant-loop-number : goal.invariant-loop-number
invariant-loop-number l = l.text.items ++ trees_from l.bounds l.number (drop l.number l.chains) ≡ l.fn.text.items ++ trees_from l.bounds 0 l.chains
