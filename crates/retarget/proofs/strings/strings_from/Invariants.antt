use Rattle.std.proofs.Common.{◌≡◌, ◌++◌, drop, length}
use Rattle.stil_tester.specs.Shifting.{numbers_of}
use Rattle.retarget.specs.Exits.{strings_from}
use Rattle.retarget.proofs.strings.strings_from.Given as goal

-- what is left gives the rest
abbrev pub invariant-loop-number : goal.invariant-loop-number
invariant-loop-number l = record {
  left : length l.rest ≡ length (numbers_of (drop l.number l.chains));
  strings : l.strings ++ strings_from l.side l.shifts (drop l.number l.chains) (drop l.number l.given) l.rest ≡ strings_from l.side l.shifts l.chains l.given l.characters;
}
