use Rattle.std.proofs.Common.{◌≡◌, replicate, None}
use Rattle.fail_map.proofs.mapping.nothing_found.Given as goal

abbrev pub invariant-loop-place : goal.invariant-loop-place
invariant-loop-place l = l.mapped.items ≡ replicate l._place None
