use Rattle.std.proofs.Common.{◌≡◌, map, take}
use Rattle.std.specs.Prelude.{option_copied}
use Rattle.stil_calls.specs.Scans.{written_in}
use Rattle.stil_calls.proofs.strings.strings_of.Given as goal

abbrev pub invariant-loop-given : goal.invariant-loop-given
invariant-loop-given l = l.strings.items ≡ map (λ d. written_in (option_copied d)) (take l.given-index l.each)
