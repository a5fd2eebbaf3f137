use Rattle.std.proofs.Common.{◌≡◌, ◌≤◌, take, length}
use Rattle.fail_map.specs.Blocks.{calls_among}
use Rattle.fail_map.proofs.block.count_among.Given as goal

abbrev pub invariant-loop-statement : goal.invariant-loop-statement
invariant-loop-statement l = record {
  value : l.count ≡ length (calls_among (take l.statement-index l.body));
  within : l.count ≤ l.statement-index;
}
