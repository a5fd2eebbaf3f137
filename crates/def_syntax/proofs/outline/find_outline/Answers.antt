use Rattle.std.proofs.Common.{◌≡◌, sym, ap, ◌∙◌, refl}
use Rattle.token_forms.specs.Tokens.{tokens_left}
use Rattle.def_tokens.specs.DefStatements.{def_statements}
use Rattle.def_syntax.specs.Reading.{outline_from}
use Rattle.def_syntax.specs.declared.outline.Outline.{Outline}
use Rattle.def_syntax.proofs.Cuts.{next_is, none_next}
use Rattle.def_syntax.proofs.StatementCuts.{outline_ends, outline_goes_on, outline_none}
use Rattle.def_syntax.proofs.outline.find_outline.Goals as goal

pub loop-spans-init : goal.loop-spans-init
loop-spans-init c = record { same = rw c.of-source.ensures.value refl }

pub returns-then-is_end : goal.returns-then-is_end
returns-then-is_end c = record {
  value = outline_ends c.loop-spans.outline c.tokens-tokens.result (def_statements (tokens_left c.loop-spans.source)) (def_statements (tokens_left c.take_statement.new.source))
      (next_is c.loop-spans.source.source c.take_statement.new.source.source c.take_statement.new.spans.items c.deref.result.now c.tokens-tokens.result (def_statements (tokens_left c.loop-spans.source))
      (def_statements (tokens_left c.take_statement.new.source)) c.in_ok-take_statement.field-0 c.in_ok-take_statement.ensures.value c.if-branch.true c.tokens-tokens.ensures.value c.in_ok-take_statement.ensures.source
      c.deref.ensures.value)
      (sym c.is_end.ensures.value ∙ c.if-is_end.true) ∙ c.loop-spans.invariant.same;
}

pub loop-spans-smaller : goal.loop-spans-smaller
loop-spans-smaller c = c.in_ok-take_statement.ensures.shorter c.if-branch.true

pub loop-spans-preserved : goal.loop-spans-preserved
loop-spans-preserved c = record {
  same = ap (λ (o : Outline). outline_from o (def_statements (tokens_left c.take_statement.new.source))) c.in_ok-turn.ensures.value
      ∙ outline_goes_on c.loop-spans.outline c.tokens-tokens.result (def_statements (tokens_left c.loop-spans.source)) (def_statements (tokens_left c.take_statement.new.source))
      (next_is c.loop-spans.source.source c.take_statement.new.source.source c.take_statement.new.spans.items c.deref.result.now c.tokens-tokens.result (def_statements (tokens_left c.loop-spans.source))
      (def_statements (tokens_left c.take_statement.new.source)) c.in_ok-take_statement.field-0 c.in_ok-take_statement.ensures.value c.if-branch.true c.tokens-tokens.ensures.value c.in_ok-take_statement.ensures.source
      c.deref.ensures.value)
      (sym c.is_end.ensures.value ∙ c.if-is_end.false)
      ∙ c.loop-spans.invariant.same;
}

pub returns : goal.returns
returns c = record { value = outline_none c.loop-spans.outline (def_statements (tokens_left c.loop-spans.source)) (none_next (def_statements (tokens_left c.loop-spans.source)) _ c.in_ok-take_statement.field-0 c.in_ok-take_statement.ensures.value c.if-branch.false) ∙ c.loop-spans.invariant.same }
