use Rattle.stil_blocks.proofs.chain.read_chains.Given as goal
use Rattle.std.proofs.Common.{◌≡◌, ◌++◌, length}
use Rattle.std.specs.List.{flat_map}
use Rattle.stil_syntax.specs.Shapes.{body_statements}
use Rattle.stil_blocks.specs.Chains.{structure_chains}

abbrev pub invariant-loop-s : goal.invariant-loop-s
invariant-loop-s l = record {
  text : l.lines ≡ l.fn.lines;
  same : l.chains ++ flat_map (structure_chains l.fn.lines) (body_statements l.rest) ≡ flat_map (structure_chains l.fn.lines) (body_statements l.tokens);
}

abbrev pub decreases-loop-s : goal.decreases-loop-s
decreases-loop-s l = length l.rest
