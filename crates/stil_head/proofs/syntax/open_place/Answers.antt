use Rattle.token_forms.specs.Tokens.{Token}
use Rattle.std.proofs.Common.{◌∙◌, ap, not, List}
use Rattle.stil_syntax.specs.Shapes.{body_statements}
use Rattle.stil_blocks.specs.Statements.{start_of, is_whole}
use Rattle.list_laws.proofs.Leasts.{more_if, no_more}
use Rattle.list_laws.specs.Leasts.{place_if}
use Rattle.stil_head.proofs.syntax.open_place.Goals as goal

pub loop-s-preserved : goal.loop-s-preserved
loop-s-preserved c = more_if (λ (s : List Token). not (is_whole s)) start_of c.loop-s.least c.lesser_place-least.result c.found_if.result (not c.is_whole.result) c.start_of.result c.in-Some.s (body_statements c.body_statement.new.tokens) (body_statements c.loop-s.rest) c.in-Some.ensures.value (ap not c.is_whole.ensures.value) c.start_of.ensures.value c.found_if.ensures.value c.lesser_place-least.ensures.value ∙ c.loop-s.invariant

pub returns : goal.returns
returns c = record {
  value = no_more (λ (s : List Token). place_if ((λ (s : List Token). not (is_whole s)) s) (start_of s)) c.loop-s.least _ (body_statements c.loop-s.rest) c.in_default.ensures.value c.loop-s.invariant;
}
