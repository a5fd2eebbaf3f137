use Rattle.std.proofs.Common.{◌∙◌, ap, List, ℕ}
use Rattle.stil_syntax.specs.Shapes.{body_statements}
use Rattle.list_laws.proofs.Leasts.{more_places, no_more}
use Rattle.stil_head.specs.Faults.{statement_faults}
use Rattle.list_laws.specs.Leasts.{least_of}
use Rattle.stil_head.proofs.syntax.statements_fault.Goals as goal

pub loop-s-preserved : goal.loop-s-preserved
loop-s-preserved c = record { text = c.statement_fault.ensures.same ∙ c.loop-s.invariant.text; same = more_places (statement_faults c.args.lines.now) c.loop-s.least c.lesser_place-least.result c.in_ok-place.place c.in-Some.s (body_statements c.body_statement.new.tokens) (body_statements c.loop-s.rest) c.in-Some.ensures.value (c.in_ok-place.ensures.value ∙ ap (λ (l : List ℕ). least_of (statement_faults l c.in-Some.s)) c.loop-s.invariant.text) c.lesser_place-least.ensures.value ∙ c.loop-s.invariant.same }

pub returns : goal.returns
returns c = record {
  value = no_more (statement_faults c.args.lines.now) c.loop-s.least _ (body_statements c.loop-s.rest) c.in_default.ensures.value c.loop-s.invariant.same;
}
