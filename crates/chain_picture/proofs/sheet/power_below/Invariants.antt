use Rattle.std.proofs.Common.{◌≡◌, ◌≤◌, ◌+◌}
use Rattle.chain_picture.specs.Sizes.{power_below}
use Rattle.chain_picture.proofs.sheet.power_below.Given as goal

abbrev pub invariant-loop-zeros : goal.invariant-loop-zeros
invariant-loop-zeros l = record {
  value : l.power ≡ power_below l.n l._zeros;
  small : l.power ≤ l.n + 1;
}
