use Rattle.std.proofs.Common.{◌≡◌, ◌≤◌, ◌==◌, count_by, take}
use Rattle.lane_kernels.proofs.plain.count_byte.Given as goal

abbrev pub invariant-loop-x : goal.invariant-loop-x
invariant-loop-x l = record {
  counted : l.total ≡ count_by (λ x. x == l.b) (take l.x-index l.bytes);
  small : l.total ≤ l.x-index;
}
