use Rattle.std.proofs.Common.{◌≡◌, sym, ap, ◌∙◌, refl, List, ℕ}
use Rattle.token_forms.specs.Tokens.{tokens_left}
use Rattle.def_tokens.specs.DefStatements.{def_statements}
use Rattle.def_syntax.proofs.AtOnce.{wanted_ends, wanted_goes_on, wanted_stops, wanted_none}
use Rattle.def_syntax.proofs.Cuts.{next_is, none_next}
use Rattle.def_syntax.proofs.at_once.read_wanted.Goals as goal

pub loop-found-init : goal.loop-found-init
loop-found-init c = record { text = c.of-lines.ensures.value; same = rw (c.new-found.ensures.value, c.of-source.ensures.value) refl }

pub returns-then-is_end : goal.returns-then-is_end
returns-then-is_end c = record {
  value = sym (wanted_ends c.args.components c.args.text.now c.loop-found.found c.tokens-tokens.result (def_statements (tokens_left c.loop-found.source)) (def_statements (tokens_left c.take_statement.new.source))
      (next_is c.loop-found.source.source c.take_statement.new.source.source c.take_statement.new.spans.items c.deref.result.now c.tokens-tokens.result (def_statements (tokens_left c.loop-found.source))
      (def_statements (tokens_left c.take_statement.new.source)) c.in_ok-take_statement.field-0 c.in_ok-take_statement.ensures.value c.if-branch.true c.tokens-tokens.ensures.value c.in_ok-take_statement.ensures.source
      c.deref.ensures.value)
      (sym c.is_end.ensures.value ∙ c.if-is_end.true)) ∙ c.loop-found.invariant.same;
}

pub loop-found-smaller : goal.loop-found-smaller
loop-found-smaller c = c.in_ok-take_statement.ensures.shorter c.if-branch.true

pub loop-found-preserved : goal.loop-found-preserved
loop-found-preserved c =
    let turned = rw c.loop-found.invariant.text at c.in-Ok.ensures.value in
    record {
      text = c.in-Ok.ensures.same ∙ c.loop-found.invariant.text;
      same = wanted_goes_on c.args.components c.args.text.now c.loop-found.found c.wanted_turn.new.self c.tokens-tokens.result (def_statements (tokens_left c.loop-found.source)) (def_statements (tokens_left c.take_statement.new.source))
          (next_is c.loop-found.source.source c.take_statement.new.source.source c.take_statement.new.spans.items c.deref.result.now c.tokens-tokens.result (def_statements (tokens_left c.loop-found.source))
          (def_statements (tokens_left c.take_statement.new.source)) c.in_ok-take_statement.field-0 c.in_ok-take_statement.ensures.value c.if-branch.true c.tokens-tokens.ensures.value c.in_ok-take_statement.ensures.source
          c.deref.ensures.value)
          (sym c.is_end.ensures.value ∙ c.if-is_end.false) turned
          ∙ c.loop-found.invariant.same;
    }

pub returns-in-Err-NoForm : goal.returns-in-Err-NoForm
returns-in-Err-NoForm c =
    let turned = rw (c.loop-found.invariant.text, c.in-Err-NoForm.field-0-is) at c.in-Err-NoForm.ensures.value in
    record {
      value = sym (wanted_stops c.args.components c.args.text.now c.loop-found.found c.tokens-tokens.result (def_statements (tokens_left c.loop-found.source)) (def_statements (tokens_left c.take_statement.new.source))
          (next_is c.loop-found.source.source c.take_statement.new.source.source c.take_statement.new.spans.items c.deref.result.now c.tokens-tokens.result (def_statements (tokens_left c.loop-found.source))
          (def_statements (tokens_left c.take_statement.new.source)) c.in_ok-take_statement.field-0 c.in_ok-take_statement.ensures.value c.if-branch.true c.tokens-tokens.ensures.value c.in_ok-take_statement.ensures.source
          c.deref.ensures.value)
          (sym c.is_end.ensures.value ∙ c.if-is_end.false) turned)
          ∙ c.loop-found.invariant.same;
    }

pub returns : goal.returns
returns c = record { value = sym (wanted_none c.args.components c.args.text.now c.loop-found.found (def_statements (tokens_left c.loop-found.source)) (none_next (def_statements (tokens_left c.loop-found.source)) _ c.in_ok-take_statement.field-0 c.in_ok-take_statement.ensures.value c.if-branch.false)) ∙ c.loop-found.invariant.same }
