use Rattle.std.proofs.Common.{take}
use Rattle.std.specs.Prelude.{All}
use Rattle.stil_types.specs.Calls.{IsStringOf, is_load_character}
use Rattle.stil_tester.proofs.checks.calls.are_loads.Given as goal

abbrev pub invariant-loop-string : goal.invariant-loop-string
invariant-loop-string l = All (IsStringOf is_load_character) (take l.string-index l.strings)
