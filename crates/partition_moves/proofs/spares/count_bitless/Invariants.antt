use Rattle.std.proofs.Common.{◌≡◌, ◌≤◌, count_by, nat_eq, take}
use Rattle.partition_moves.proofs.spares.count_bitless.Given as goal

abbrev pub invariant-loop-unit : goal.invariant-loop-unit
invariant-loop-unit l = record {
  counted : l.count ≡ count_by (λ u. nat_eq u.bits 0) (take l.unit-index l.rules.units);
  small : l.count ≤ l.unit-index;
}
