use Rattle.std.proofs.Common.{take}
use Rattle.std.specs.Prelude.{All}
use Rattle.stil_types.specs.Calls.{IsStringOf, is_compare_character}
use Rattle.stil_tester.proofs.checks.calls.are_compares.Given as goal

abbrev pub invariant-loop-string : goal.invariant-loop-string
invariant-loop-string l = All (IsStringOf is_compare_character) (take l.string-index l.strings)
