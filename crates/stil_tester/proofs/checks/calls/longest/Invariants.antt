use Rattle.std.proofs.Common.{◌≡◌, max, drop}
use Rattle.stil_types.specs.Calls.{longest_string}
use Rattle.stil_tester.proofs.checks.calls.longest.Given as goal

abbrev pub invariant-loop-string : goal.invariant-loop-string
invariant-loop-string l = max l.most (longest_string (drop l.string-index l.strings)) ≡ longest_string l.strings
