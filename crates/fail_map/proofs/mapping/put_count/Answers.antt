use Rattle.std.proofs.Common.{length, ◌≤◌, arith}
use Rattle.fail_map.proofs.mapping.put_count.Goals as goal

pub push_reserved-requires : goal.push_reserved-requires
push_reserved-requires c =
    let short : length c.loop-counts.counts.items ≤ c.args.pattern = omega (arith, c.loop-counts-test.true, c.len.ensures, c.loop-counts.counts.ok.0) in
    omega (arith, short, c.loop-counts.invariant.room short, c.loop-counts.counts.ok.0)
