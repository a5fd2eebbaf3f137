use Rattle.std.proofs.Common.{◌≡◌, ◌++◌, map, drop}
use Rattle.desk_io.proofs.names.Names.of.Given as goal

abbrev pub invariant-loop-slot : goal.invariant-loop-slot
invariant-loop-slot l = l.copies ++ map (λ u. (u.0, u.1.now)) (drop l.slot-index l.uses) ≡ map (λ u. (u.0, u.1.now)) l.uses
