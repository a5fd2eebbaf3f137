use Rattle.std.proofs.Common.{arith}
use Rattle.stil_head.proofs.HeadWalk.{gap_turn, here_turn, part_turn, open_turn}
use Rattle.stil_head.proofs.Begins.{resumes_begin}
use Rattle.stil_parts.specs.declared.gap.Place.TheVariants.{Pattern}
use Rattle.stil_head.proofs.ends.head_turn.Goals as goal

pub search_part-requires : goal.search_part-requires
search_part-requires c = record { resumes = resumes_begin (Pattern 0) c.args.bytes.now c.begin_at.result c.begin_at.ensures.value }

pub returns-then-gap-gt0-clause-value : goal.returns-then-gap-gt0-clause-value
returns-then-gap-gt0-clause-value c = gap_turn c.args.comment c.args.bytes.now c.gap_at-gap.result c.gap_at-gap.ensures.value (omega (arith, c.if-gap-gt0.true))

pub returns-then-begins_pattern-clause-value : goal.returns-then-begins_pattern-clause-value
returns-then-begins_pattern-clause-value c =
    here_turn c.args.comment c.args.bytes.now c.gap_at-gap.result c.begins_pattern.result c.gap_at-gap.ensures.value (omega (arith, c.if-gap-gt0.false)) c.begins_pattern.ensures.value c.if-begins_pattern.true

pub returns-in-Part-clause-value : goal.returns-in-Part-clause-value
returns-in-Part-clause-value c =
    part_turn c.args.comment c.args.bytes.now c.gap_at-gap.result c.begins_pattern.result c.in-Part.part c.part_len.result c.gap_at-gap.ensures.value (omega (arith, c.if-gap-gt0.false)) c.begins_pattern.ensures.value c.if-begins_pattern.false c.in-Part.ensures.value.0 c.part_len.ensures.value

pub returns-in-Part-clause-within : goal.returns-in-Part-clause-within
returns-in-Part-clause-within c = let len = c.part_len.ensures.value in let h = c.in-Part.ensures.value in (rw len h.2, rw len h.1)

pub returns-in-Open-clause-value : goal.returns-in-Open-clause-value
returns-in-Open-clause-value c =
    open_turn c.args.comment c.args.bytes.now c.gap_at-gap.result c.begins_pattern.result c.gap_at-gap.ensures.value (omega (arith, c.if-gap-gt0.false)) c.begins_pattern.ensures.value c.if-begins_pattern.false c.in-Open.ensures.value.0
