use Rattle.std.proofs.Common.{arith}
use Rattle.stil_blocks.specs.Callees.{begins_shift}
use Rattle.stil_blocks.proofs.Holds.{walk_holds, found_holds, none_holds}
use Rattle.stil_blocks.proofs.callee.holds_shift.Goals as goal

pub returns-then-shift_begins : goal.returns-then-shift_begins
returns-then-shift_begins c = record {
  value = found_holds begins_shift c.loop-rest.begins c.shift_begins.result c.loop-rest.rest _ (omega (arith, c.len.ensures.value)) c.shift_begins.ensures.value c.if-shift_begins.true
      c.loop-rest.invariant;
}

pub loop-rest-preserved : goal.loop-rest-preserved
loop-rest-preserved c =
    walk_holds begins_shift c.loop-rest.begins c.begins_behind-begins.result c.shift_begins.result c.loop-rest.rest c.take_text.new.tokens c.take_text.result.now _
    (omega (arith, c.len.ensures.value)) c.shift_begins.ensures.value c.if-shift_begins.false c.take_text.ensures.text
    c.take_text.ensures.rest c.begins_behind-begins.ensures.value c.loop-rest.invariant

pub returns : goal.returns
returns c = record {
  value = none_holds begins_shift c.loop-rest.begins c.loop-rest.rest _ (omega (arith, c.len.ensures.value)) c.loop-rest.invariant;
}
