use Rattle.std.proofs.Common.{◌∙◌, ap, map, List}
use Rattle.token_forms.specs.Tokens.{Token}
use Rattle.token_forms.specs.Forms.{put_all}
use Rattle.stil_syntax.specs.Shapes.{body_statements}
use Rattle.stil_blocks.specs.declared.chain.ChainParts.{ChainParts}
use Rattle.stil_blocks.specs.Chains.{put_clause, clause_of, parts_of}
use Rattle.stil_blocks.proofs.Fronts.{put_more, put_none, put_last, parts_begin}
use Rattle.stil_blocks.proofs.chain.parts_of.Goals as goal

pub loop-statement-init : goal.loop-statement-init
loop-statement-init c = ap (λ (p : ChainParts). put_all put_clause p (map clause_of (body_statements c.again-rest.result))) c.new-parts.ensures.value
    ∙ parts_begin (body_statements c.again-rest.result) ∙ ap (λ (ts : List Token). parts_of (body_statements ts)) c.again-rest.ensures.value

pub loop-statement-preserved : goal.loop-statement-preserved
loop-statement-preserved c =
    put_more c.loop-statement.parts c.in_ok-clause.clause c.in-Some.statement (body_statements c.body_statement.new.tokens) (body_statements c.loop-statement.rest) _ c.in-Some.ensures.value
    c.in_ok-clause.ensures.value c.loop-statement.invariant c.in-Some-put.more c.in-Some-put.ensures.value

pub returns-in-None : goal.returns-in-None
returns-in-None c = record {
  value =
      put_none c.loop-statement.parts c.in_ok-clause.clause c.in-Some.statement (body_statements c.body_statement.new.tokens) (body_statements c.loop-statement.rest) _
      c.in-Some.ensures.value c.in_ok-clause.ensures.value c.loop-statement.invariant c.in-None.ensures.value;
}

pub returns : goal.returns
returns c = record {
  value = put_last c.loop-statement.parts (body_statements c.loop-statement.rest) _ c.in_default.ensures.value c.loop-statement.invariant;
}
