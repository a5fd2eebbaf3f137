use Rattle.token_forms.specs.Tokens.{Token}
use Rattle.std.proofs.Common.{◌∙◌, List}
use Rattle.stil_syntax.specs.Shapes.{body_statements}
use Rattle.stil_blocks.specs.Statements.{start_of}
use Rattle.list_laws.proofs.Leasts.{more_if, no_more}
use Rattle.stil_head.specs.Unsupported.{is_unlisted}
use Rattle.list_laws.specs.Leasts.{place_if}
use Rattle.stil_head.proofs.unsupported.unlisted_from.Goals as goal

pub loop-s-preserved : goal.loop-s-preserved
loop-s-preserved c = more_if is_unlisted start_of c.loop-s.least c.lesser_place-least.result c.found_if.result c.is_unlisted.result c.start_of.result c.in-Some.s (body_statements c.body_statement.new.tokens) (body_statements c.loop-s.rest) c.in-Some.ensures.value c.is_unlisted.ensures.value c.start_of.ensures.value c.found_if.ensures.value c.lesser_place-least.ensures.value ∙ c.loop-s.invariant

pub returns : goal.returns
returns c = record {
  value = no_more (λ (s : List Token). place_if (is_unlisted s) (start_of s)) c.loop-s.least _ (body_statements c.loop-s.rest) c.in_default.ensures.value c.loop-s.invariant;
}
