use Rattle.std.proofs.Common.{◌∙◌}
use Rattle.stil_syntax.specs.Shapes.{body_statements}
use Rattle.list_laws.proofs.Leasts.{more_places, no_more}
use Rattle.stil_head.specs.Faults.{callee_faults}
use Rattle.stil_head.proofs.syntax.callees_fault.Goals as goal

pub loop-s-preserved : goal.loop-s-preserved
loop-s-preserved c = more_places callee_faults c.loop-s.least c.lesser_place-least.result c.callee_fault.result c.in-Some.s (body_statements c.body_statement.new.tokens) (body_statements c.loop-s.rest) c.in-Some.ensures.value c.callee_fault.ensures.value c.lesser_place-least.ensures.value ∙ c.loop-s.invariant

pub returns : goal.returns
returns c = record {
  value = no_more callee_faults c.loop-s.least _ (body_statements c.loop-s.rest) c.in_default.ensures.value c.loop-s.invariant;
}
