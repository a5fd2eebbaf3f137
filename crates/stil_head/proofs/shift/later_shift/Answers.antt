use Rattle.token_forms.specs.Tokens.{Token}
use Rattle.std.proofs.Common.{◌∙◌, sym, ap, arith, List}
use Rattle.stil_blocks.proofs.Holds.{no_tokens}
use Rattle.list_laws.proofs.Leasts.{lesser_none}
use Rattle.list_laws.specs.Leasts.{lesser, least_of}
use Rattle.stil_head.specs.Unsupported.{later_shifts}
use Rattle.stil_head.proofs.Walks.{walk_later}
use Rattle.stil_head.proofs.shift.later_shift.Goals as goal

pub loop-rest-preserved : goal.loop-rest-preserved
loop-rest-preserved c =
    walk_later c.loop-rest.seen c.either-seen.result c.loop-rest.begins c.begins_behind-begins.result c.loop-rest.rest c.take_text.new.tokens c.take_text.result.now c.loop-rest.least c.lesser_place-least.result c.found_if.result c.shift_begins-here.result c.both.result c.start_of.result
    (omega (arith, c.len.ensures.value)) c.shift_begins-here.ensures.value c.both.ensures.value c.start_of.ensures.value c.found_if.ensures.value c.lesser_place-least.ensures.value c.either-seen.ensures.value c.take_text.ensures.text c.take_text.ensures.rest c.begins_behind-begins.ensures.value
    ∙ c.loop-rest.invariant

pub returns : goal.returns
returns c = record {
  value = sym (lesser_none c.loop-rest.least) ∙ ap (λ (ts : List Token). lesser c.loop-rest.least (least_of (later_shifts c.loop-rest.seen c.loop-rest.begins ts))) (sym (no_tokens c.loop-rest.rest (omega (arith, c.len.ensures.value)))) ∙ c.loop-rest.invariant;
}
