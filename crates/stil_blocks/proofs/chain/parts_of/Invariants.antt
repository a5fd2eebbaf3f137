use Rattle.stil_blocks.proofs.chain.parts_of.Given as goal
use Rattle.std.proofs.Common.{◌≡◌, length, map}
use Rattle.stil_syntax.specs.Shapes.{body_statements}
use Rattle.token_forms.specs.Forms.{put_all}
use Rattle.stil_blocks.specs.Chains.{put_clause, clause_of, parts_of}

abbrev pub invariant-loop-statement : goal.invariant-loop-statement
invariant-loop-statement l = put_all put_clause l.parts (map clause_of (body_statements l.rest)) ≡ parts_of (body_statements l.block)

abbrev pub decreases-loop-statement : goal.decreases-loop-statement
decreases-loop-statement l = length l.rest
