use Rattle.std.proofs.Common.{◌≡◌, take}
use Rattle.fail_map.specs.Blocks.{calls_among, read_calls}
use Rattle.fail_map.proofs.block.calls_among.Given as goal

abbrev pub invariant-loop-statement : goal.invariant-loop-statement
invariant-loop-statement l = read_calls l.calls.items ≡ calls_among (take l.statement-index l.body)
