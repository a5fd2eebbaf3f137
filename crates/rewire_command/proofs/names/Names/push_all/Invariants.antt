use Rattle.std.proofs.Common.{◌≡◌, ◌++◌, take}
use Rattle.rewire_command.proofs.names.Names.push_all.Given as goal

abbrev pub invariant-loop-name : goal.invariant-loop-name
invariant-loop-name l = l.self ≡ l.fn.self ++ take l.name-index l.names
