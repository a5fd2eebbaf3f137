use Rattle.std.proofs.Common.{◌≡◌, List, ℕ, take, drop, Bor}
use Rattle.std.specs.Str.{bytes_eq}
use Rattle.std.specs.HashSet.{contains}
use Rattle.rewire_command.specs.Names.{now_of, are_new, are_distinct}
use Rattle.rewire_command.specs.Faults.{has}
use Rattle.rewire_command.proofs.names.are_distinct.Given as goal

abbrev pub invariant-loop-name : goal.invariant-loop-name
invariant-loop-name l = record {
  same : are_new (now_of (take l.name-index l.names)) (now_of (drop l.name-index l.names)) ≡ are_distinct (now_of l.names);
  seen : (q : Bor (List ℕ)) → contains (λ x y. bytes_eq x.now y.now) l.seen q ≡ has (now_of (take l.name-index l.names)) q.now;
}
