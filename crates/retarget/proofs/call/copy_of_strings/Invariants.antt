use Rattle.std.proofs.Common.{◌≡◌, take}
use Rattle.retarget.proofs.call.copy_of_strings.Given as goal

abbrev pub invariant-loop-string : goal.invariant-loop-string
invariant-loop-string l = l.copies ≡ take l.string-index l.strings
