use Rattle.std.proofs.Common.{◌≡◌, ◌≤◌, ◌*◌, ◌^◌}
use Rattle.wire_cost.specs.Lengths.{chain_ends, forward_sum}
use Rattle.wire_cost.proofs.lengths.wire_of.Given as goal

abbrev pub invariant-loop-i : goal.invariant-loop-i
invariant-loop-i l = record {
  value : l.total ≡ forward_sum (chain_ends l.ends l.chain) l.units l.i;
  small : l.total ≤ 2 ^ 43 * l.i;
}
