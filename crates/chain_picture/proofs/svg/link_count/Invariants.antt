use Rattle.std.proofs.Common.{◌≡◌, ◌≤◌, ◌*◌, ◌^◌, length, take}
use Rattle.std.specs.Prelude.{sum_by}
use Rattle.chain_picture.proofs.svg.link_count.Given as goal

abbrev pub invariant-loop-chain : goal.invariant-loop-chain
invariant-loop-chain l = record {
  value : l.count ≡ sum_by (λ c. length c.links) (take l.chain-index l.chains);
  small : l.count ≤ 2 ^ 64 * l.chain-index;
}
