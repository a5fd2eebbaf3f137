use Rattle.std.proofs.Common.{◌≡◌, List, ℕ, take, Bor}
use Rattle.std.specs.Str.{bytes_eq}
use Rattle.std.specs.HashSet.{contains}
use Rattle.rewire_command.specs.Names.{now_of}
use Rattle.rewire_command.specs.Faults.{has}
use Rattle.rewire_command.proofs.names.set_of.Given as goal

abbrev pub invariant-loop-name : goal.invariant-loop-name
invariant-loop-name l = (q : Bor (List ℕ)) → contains (λ x y. bytes_eq x.now y.now) l.set q ≡ has (now_of (take l.name-index l.names)) q.now
