use Rattle.std.proofs.Common.{◌≡◌, ◌≤◌, ◌*◌, ◌^◌, take}
use Rattle.std.specs.Prelude.{sum_by}
use Rattle.bound_command.proofs.report.length_of.Given as goal

abbrev pub invariant-loop-chain : goal.invariant-loop-chain
invariant-loop-chain l = record {
  value : l.sum ≡ sum_by (λ b. b.length) (take l.chain-index l.bounds);
  small : l.sum ≤ 2 ^ 64 * l.chain-index;
}
