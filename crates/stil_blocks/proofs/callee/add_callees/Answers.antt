use Rattle.token_forms.specs.Tokens.{Token}
use Rattle.std.proofs.Common.{◌∙◌, List}
use Rattle.stil_syntax.specs.Shapes.{body_statements}
use Rattle.stil_blocks.specs.Chains.{listed}
use Rattle.stil_blocks.specs.Callees.{callee_at}
use Rattle.stil_blocks.proofs.Fronts.{more_values, last_value}
use Rattle.stil_blocks.proofs.callee.add_callees.Goals as goal

pub loop-s-preserved : goal.loop-s-preserved
loop-s-preserved c = more_values (λ (p : List Token). listed (callee_at p)) c.loop-s.callees c.add_callee.new.callees c.in-Some.s (body_statements c.body_statement.new.tokens)
    (body_statements c.loop-s.rest) c.in-Some.ensures.value c.in_ok-add_callee.ensures.value ∙ c.loop-s.invariant

pub returns : goal.returns
returns c = record {
  value = last_value (λ (p : List Token). listed (callee_at p)) c.loop-s.callees _ (body_statements c.loop-s.rest) c.in_default.ensures.value c.loop-s.invariant;
}
