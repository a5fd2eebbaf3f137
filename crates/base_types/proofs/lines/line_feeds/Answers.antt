use Rattle.std.proofs.Common.{arith}
use Rattle.memchr.specs.Find.{is_byte}
use Rattle.base_types.proofs.CountedPlaces.{places-count}
use Rattle.base_types.proofs.lines.line_feeds.Goals as goal

pub returns-clause-value : goal.returns-clause-value
returns-clause-value c =
    let none = c.in-None.ensures.steps.0 in
    let all = places-count (is_byte 10) c.args.bytes.now in
    let counted = rw none at c.loop-place.invariant.counted in
    omega (arith, counted, all)
