use Rattle.std.proofs.Common.{◌≡◌, length, ◌+◌}
use Rattle.memchr.specs.Find.{is_byte, places}
use Rattle.base_types.proofs.lines.line_feeds.Given as goal

abbrev pub invariant-loop-place : goal.invariant-loop-place
invariant-loop-place l = record {
  counted : l.count + length l._place-iterator ≡ length (places (is_byte 10) l.bytes);
  next : (goal.iterator-loop-place).can_next l._place-iterator;
  finite : (goal.iterator-loop-place).is_finite l._place-iterator;
}
