use Rattle.std.proofs.Common.{◌∙◌}
use Rattle.stil_syntax.specs.Shapes.{body_statements}
use Rattle.stil_blocks.specs.Callees.{statement_keywords}
use Rattle.stil_blocks.proofs.Fronts.{more_values, last_value}
use Rattle.stil_blocks.proofs.keywords.read_keywords.Goals as goal

pub loop-s-preserved : goal.loop-s-preserved
loop-s-preserved c = more_values statement_keywords c.loop-s.names c.add_keywords.new.names c.in-Some.s (body_statements c.body_statement.new.tokens) (body_statements c.loop-s.rest)
    c.in-Some.ensures.value c.in_ok-add_keywords.ensures.value ∙ c.loop-s.invariant

pub returns : goal.returns
returns c = record {
  value = last_value statement_keywords c.loop-s.names _ (body_statements c.loop-s.rest) c.in_default.ensures.value c.loop-s.invariant;
}
