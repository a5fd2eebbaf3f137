use Rattle.std.proofs.Common.{◌∙◌, arith}
use Rattle.stil_head.specs.Unsupported.{is_barred, is_name_of}
use Rattle.stil_head.proofs.Walks.{walk_places, walk_ends}
use Rattle.stil_head.proofs.unsupported.barred_place.Goals as goal

pub loop-rest-preserved : goal.loop-rest-preserved
loop-rest-preserved c =
    walk_places (is_barred (is_name_of c.args.names.now.procedures) (is_name_of c.args.names.now.macros) c.args.scan) c.loop-rest.begins c.begins_behind-begins.result c.loop-rest.rest c.take_text.new.tokens c.take_text.result.now c.loop-rest.least c.lesser_place-least.result c.found_if.result c.in_ok-bad.bad c.start_of.result
    (omega (arith, c.len.ensures.value)) c.in_ok-bad.ensures.value c.start_of.ensures.value c.found_if.ensures.value c.lesser_place-least.ensures.value c.take_text.ensures.text c.take_text.ensures.rest c.begins_behind-begins.ensures.value
    ∙ c.loop-rest.invariant

pub returns : goal.returns
returns c = record {
  value = walk_ends (is_barred (is_name_of c.args.names.now.procedures) (is_name_of c.args.names.now.macros) c.args.scan) c.loop-rest.begins c.loop-rest.rest c.loop-rest.least _ (omega (arith, c.len.ensures.value)) c.loop-rest.invariant;
}
