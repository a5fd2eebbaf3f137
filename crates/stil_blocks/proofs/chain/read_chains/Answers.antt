use Rattle.std.proofs.Common.{◌∙◌, ap, List, ℕ}
use Rattle.stil_syntax.specs.Shapes.{body_statements}
use Rattle.stil_blocks.specs.Chains.{structure_chains}
use Rattle.std.proofs.Common.{◌++◌}
use Rattle.stil_blocks.proofs.Fronts.{more_values, last_value}
use Rattle.stil_blocks.proofs.chain.read_chains.Goals as goal

pub loop-s-preserved : goal.loop-s-preserved
loop-s-preserved c = record {
  text = c.add_structure.ensures.same ∙ c.loop-s.invariant.text;
  same =
      more_values (structure_chains c.args.lines.now) c.loop-s.chains c.add_structure.new.chains c.in-Some.s (body_statements c.body_statement.new.tokens) (body_statements c.loop-s.rest)
      c.in-Some.ensures.value (c.in_ok-add_structure.ensures.value ∙ ap (λ (l : List ℕ). c.loop-s.chains ++ structure_chains l c.in-Some.s) c.loop-s.invariant.text) ∙ c.loop-s.invariant.same;
}

pub returns : goal.returns
returns c = record {
  value = last_value (structure_chains c.args.lines.now) c.loop-s.chains _ (body_statements c.loop-s.rest) c.in_default.ensures.value c.loop-s.invariant.same;
}
