use Rattle.std.proofs.Common.{◌≡◌, ◌++◌, drop}
use Rattle.check_command.specs.Checks.{lines_from}
use Rattle.check_command.proofs.report.push_lines.Given as goal

abbrev pub invariant-loop-number : goal.invariant-loop-number
invariant-loop-number l =
    l.text.items ++ lines_from l.rules l.ends l.number (drop l.number l.chains) ≡ l.fn.text.items ++ lines_from l.rules l.ends 0 l.chains
