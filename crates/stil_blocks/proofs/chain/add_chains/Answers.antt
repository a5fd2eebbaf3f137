use Rattle.std.proofs.Common.{◌∙◌, ap, List, ℕ}
use Rattle.stil_syntax.specs.Shapes.{body_statements}
use Rattle.stil_blocks.specs.Chains.{chain_in}
use Rattle.std.proofs.Common.{◌++◌}
use Rattle.stil_blocks.proofs.Fronts.{more_values, last_value}
use Rattle.stil_blocks.proofs.chain.add_chains.Goals as goal

pub loop-s-preserved : goal.loop-s-preserved
loop-s-preserved c = record {
  text = c.add_chain.ensures.same ∙ c.loop-s.invariant.text;
  same =
      more_values (chain_in c.args.lines.now) c.loop-s.chains c.add_chain.new.chains c.in-Some.s (body_statements c.body_statement.new.tokens) (body_statements c.loop-s.rest)
      c.in-Some.ensures.value (c.in_ok-add_chain.ensures.value ∙ ap (λ (l : List ℕ). c.loop-s.chains ++ chain_in l c.in-Some.s) c.loop-s.invariant.text) ∙ c.loop-s.invariant.same;
}

pub returns-clause-value : goal.returns-clause-value
returns-clause-value c = last_value (chain_in c.args.lines.now) c.loop-s.chains _ (body_statements c.loop-s.rest) c.in_default.ensures.value c.loop-s.invariant.same
