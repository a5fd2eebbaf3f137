use Rattle.token_forms.specs.Tokens.{Token}
use Rattle.std.proofs.Common.{◌∙◌, ap, List}
use Rattle.stil_syntax.specs.Shapes.{body_statements, in_block}
use Rattle.list_laws.proofs.Leasts.{more_places, no_more}
use Rattle.stil_head.specs.Unsupported.{body_places, is_name_of}
use Rattle.list_laws.specs.Leasts.{least_of}
use Rattle.stil_head.proofs.unsupported.bodies_place.Goals as goal

pub loop-s-preserved : goal.loop-s-preserved
loop-s-preserved c = more_places (λ (p : List Token). body_places (is_name_of c.args.names.now.procedures) (is_name_of c.args.names.now.macros) (in_block p)) c.loop-s.least c.lesser_place-least.result c.in_ok-place.place c.in-Some.s (body_statements c.body_statement.new.tokens) (body_statements c.loop-s.rest) c.in-Some.ensures.value (c.in_ok-place.ensures.value ∙ ap (λ (b : List Token). least_of (body_places (is_name_of c.args.names.now.procedures) (is_name_of c.args.names.now.macros) b)) c.in_block.ensures.value) c.lesser_place-least.ensures.value ∙ c.loop-s.invariant

pub returns : goal.returns
returns c = record {
  value = no_more (λ (p : List Token). body_places (is_name_of c.args.names.now.procedures) (is_name_of c.args.names.now.macros) (in_block p)) c.loop-s.least _ (body_statements c.loop-s.rest) c.in_default.ensures.value c.loop-s.invariant;
}
