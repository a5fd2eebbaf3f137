use Rattle.std.proofs.Common.{◌∙◌, arith}
use Rattle.stil_blocks.specs.Callees.{begins_shift}
use Rattle.stil_head.proofs.Walks.{walk_places, walk_ends}
use Rattle.stil_head.proofs.shift.inner_shift.Goals as goal

pub loop-rest-preserved : goal.loop-rest-preserved
loop-rest-preserved c =
    walk_places begins_shift c.loop-rest.begins c.begins_behind-begins.result c.loop-rest.rest c.take_text.new.tokens c.take_text.result.now c.loop-rest.least c.lesser_place-least.result c.found_if.result c.shift_begins.result c.start_of.result
    (omega (arith, c.len.ensures.value)) c.shift_begins.ensures.value c.start_of.ensures.value c.found_if.ensures.value c.lesser_place-least.ensures.value c.take_text.ensures.text c.take_text.ensures.rest c.begins_behind-begins.ensures.value
    ∙ c.loop-rest.invariant

pub returns : goal.returns
returns c = record {
  value = walk_ends begins_shift c.loop-rest.begins c.loop-rest.rest c.loop-rest.least _ (omega (arith, c.len.ensures.value)) c.loop-rest.invariant;
}
