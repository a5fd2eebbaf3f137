use Rattle.std.proofs.Common.{◌≡◌, ◌++◌, drop}
use Rattle.bound_command.specs.Bounds.{lines_from}
use Rattle.bound_command.proofs.report.push_chains.Given as goal

abbrev pub invariant-loop-number : goal.invariant-loop-number
invariant-loop-number l = l.text.items ++ lines_from l.bounds l.number (drop l.number l.chains) ≡ l.fn.text.items ++ lines_from l.bounds 0 l.chains
