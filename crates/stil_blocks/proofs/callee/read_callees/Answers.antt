use Rattle.std.proofs.Common.{◌∙◌}
use Rattle.stil_syntax.specs.Shapes.{body_statements}
use Rattle.stil_blocks.specs.Callees.{block_callees}
use Rattle.stil_blocks.proofs.Fronts.{more_values, last_value}
use Rattle.stil_blocks.proofs.callee.read_callees.Goals as goal

pub loop-s-preserved : goal.loop-s-preserved
loop-s-preserved c = more_values (block_callees c.args.word.now) c.loop-s.callees c.add_block.new.callees c.in-Some.s (body_statements c.body_statement.new.tokens)
    (body_statements c.loop-s.rest) c.in-Some.ensures.value c.in_ok-add_block.ensures.value ∙ c.loop-s.invariant

pub returns : goal.returns
returns c = record {
  value = last_value (block_callees c.args.word.now) c.loop-s.callees _ (body_statements c.loop-s.rest) c.in_default.ensures.value c.loop-s.invariant;
}
