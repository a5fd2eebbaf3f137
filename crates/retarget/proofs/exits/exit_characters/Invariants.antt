use Rattle.std.proofs.Common.{◌≡◌, ◌++◌, drop}
use Rattle.retarget.specs.Exits.{exit_characters}
use Rattle.retarget.proofs.exits.exit_characters.Given as goal

-- what is left gives the rest
abbrev pub invariant-loop-number : goal.invariant-loop-number
invariant-loop-number l = l.characters.items ++ exit_characters l.side (drop l.number l.chains) (drop l.number l.strings) ≡ exit_characters l.side l.chains l.strings
