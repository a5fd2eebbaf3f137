use Rattle.std.proofs.Common.{◌≡◌, ◌≤◌, ◌*◌, ◌^◌, take}
use Rattle.std.specs.Prelude.{sum_by}
use Rattle.chain_picture.proofs.totals.bits_of.Given as goal

abbrev pub invariant-loop-chain : goal.invariant-loop-chain
invariant-loop-chain l = record {
  value : l.sum ≡ sum_by (λ c. c.bits) (take l.chain-index l.chains);
  small : l.sum ≤ 2 ^ 64 * l.chain-index;
}
