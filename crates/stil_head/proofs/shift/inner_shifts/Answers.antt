use Rattle.token_forms.specs.Tokens.{Token}
use Rattle.std.proofs.Common.{◌∙◌, List, false}
use Rattle.stil_syntax.specs.Shapes.{body_statements}
use Rattle.list_laws.proofs.Leasts.{more_places, no_more}
use Rattle.stil_head.specs.Unsupported.{places_at}
use Rattle.stil_blocks.specs.Callees.{begins_shift}
use Rattle.stil_head.proofs.shift.inner_shifts.Goals as goal

pub loop-s-preserved : goal.loop-s-preserved
loop-s-preserved c = more_places (λ (s : List Token). places_at begins_shift false s) c.loop-s.least c.lesser_place-least.result c.inner_shift.result c.in-Some.s (body_statements c.body_statement.new.tokens) (body_statements c.loop-s.rest) c.in-Some.ensures.value c.inner_shift.ensures.value c.lesser_place-least.ensures.value ∙ c.loop-s.invariant

pub returns : goal.returns
returns c = record {
  value = no_more (λ (s : List Token). places_at begins_shift false s) c.loop-s.least _ (body_statements c.loop-s.rest) c.in_default.ensures.value c.loop-s.invariant;
}
