use Rattle.token_forms.specs.Tokens.{Token}
use Rattle.std.proofs.Common.{◌∙◌, ap, List, ℕ}
use Rattle.stil_syntax.specs.Shapes.{body_statements}
use Rattle.stil_blocks.specs.Statements.{start_of}
use Rattle.list_laws.proofs.Leasts.{more_if, no_more}
use Rattle.stil_head.specs.Faults.{is_bad_item}
use Rattle.list_laws.specs.Leasts.{place_if}
use Rattle.stil_head.proofs.syntax.item_place.Goals as goal

pub loop-s-preserved : goal.loop-s-preserved
loop-s-preserved c = record { text = c.is_bad_item.ensures.same ∙ c.loop-s.invariant.text; same = more_if (is_bad_item c.args.lines.now) start_of c.loop-s.least c.lesser_place-least.result c.found_if.result c.in_ok-bad.bad c.start_of.result c.in-Some.s (body_statements c.body_statement.new.tokens) (body_statements c.loop-s.rest) c.in-Some.ensures.value (c.in_ok-bad.ensures.value ∙ ap (λ (l : List ℕ). is_bad_item l c.in-Some.s) c.loop-s.invariant.text) c.start_of.ensures.value c.found_if.ensures.value c.lesser_place-least.ensures.value ∙ c.loop-s.invariant.same }

pub returns-clause-value : goal.returns-clause-value
returns-clause-value c = no_more (λ (s : List Token). place_if ((is_bad_item c.args.lines.now) s) (start_of s)) c.loop-s.least _ (body_statements c.loop-s.rest) c.in_default.ensures.value c.loop-s.invariant.same
