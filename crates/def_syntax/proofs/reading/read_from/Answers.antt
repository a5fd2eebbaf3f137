use Rattle.std.proofs.Common.{◌≡◌, sym, ap, ◌∙◌, refl, List, ℕ, Err}
use Rattle.base_types.specs.Lines.{line_at}
use Rattle.base_types.specs.Faults.{at_line}
use Rattle.base_types.specs.declared.fault.FileKind.TheVariants.{Def}
use Rattle.base_types.specs.declared.kind.Kind.TheVariants.{DefSyntax}
use Rattle.token_forms.specs.Tokens.{tokens_left}
use Rattle.def_tokens.specs.DefStatements.{def_statements}
use Rattle.def_syntax.proofs.Cuts.{next_is, none_next}
use Rattle.def_syntax.proofs.StatementCuts.{read_ends, read_goes_on, read_stops, read_none}
use Rattle.def_syntax.proofs.reading.read_from.Goals as goal

pub loop-found-init : goal.loop-found-init
loop-found-init c = record { text = c.of-lines.ensures.value; same = rw (c.new-found.ensures.value, c.of-source.ensures.value) refl }

pub returns-then-is_end : goal.returns-then-is_end
returns-then-is_end c = record {
  value = sym c.loop-found.invariant.same ∙ read_ends c.args.text.now c.args.unclosed c.loop-found.found c.tokens-tokens.result (def_statements (tokens_left c.loop-found.source)) (def_statements (tokens_left c.take_statement.new.source))
      (next_is c.loop-found.source.source c.take_statement.new.source.source c.take_statement.new.spans.items c.deref.result.now c.tokens-tokens.result (def_statements (tokens_left c.loop-found.source))
      (def_statements (tokens_left c.take_statement.new.source)) c.in_ok-take_statement.field-0 c.in_ok-take_statement.ensures.value c.if-branch.true c.tokens-tokens.ensures.value c.in_ok-take_statement.ensures.source
      c.deref.ensures.value)
      (sym c.is_end.ensures.value ∙ c.if-is_end.true);
}

pub loop-found-smaller : goal.loop-found-smaller
loop-found-smaller c = c.in_ok-take_statement.ensures.shorter c.if-branch.true

pub loop-found-preserved : goal.loop-found-preserved
loop-found-preserved c =
    let turned = rw c.loop-found.invariant.text at c.in-Ok.ensures.value in
    record {
      text = c.in-Ok.ensures.same ∙ c.loop-found.invariant.text;
      same = read_goes_on c.args.text.now c.args.unclosed c.loop-found.found c.tokens-tokens.result (def_statements (tokens_left c.loop-found.source)) (def_statements (tokens_left c.take_statement.new.source)) c.turn.new.self
          (next_is c.loop-found.source.source c.take_statement.new.source.source c.take_statement.new.spans.items c.deref.result.now c.tokens-tokens.result (def_statements (tokens_left c.loop-found.source))
          (def_statements (tokens_left c.take_statement.new.source)) c.in_ok-take_statement.field-0 c.in_ok-take_statement.ensures.value c.if-branch.true c.tokens-tokens.ensures.value c.in_ok-take_statement.ensures.source
          c.deref.ensures.value)
          (sym c.is_end.ensures.value ∙ c.if-is_end.false) turned
          ∙ c.loop-found.invariant.same;
    }

pub returns-in-Err-NoForm : goal.returns-in-Err-NoForm
returns-in-Err-NoForm c =
    let turned = rw (c.loop-found.invariant.text, c.in-Err-NoForm.field-0-is) at c.in-Err-NoForm.ensures.value in
    let stopped =
    sym c.loop-found.invariant.same ∙ read_stops c.args.text.now c.args.unclosed c.loop-found.found c.tokens-tokens.result (def_statements (tokens_left c.loop-found.source)) (def_statements (tokens_left c.take_statement.new.source))
    (next_is c.loop-found.source.source c.take_statement.new.source.source c.take_statement.new.spans.items c.deref.result.now c.tokens-tokens.result (def_statements (tokens_left c.loop-found.source))
    (def_statements (tokens_left c.take_statement.new.source)) c.in_ok-take_statement.field-0 c.in_ok-take_statement.ensures.value c.if-branch.true c.tokens-tokens.ensures.value c.in_ok-take_statement.ensures.source
    c.deref.ensures.value)
    (sym c.is_end.ensures.value ∙ c.if-is_end.false) turned
    in
    record {
      value = rw c.fault_at.ensures.value
          (c.start_of-start.result, stopped ∙ ap Err (sym c.start_of-start.ensures.value), ap (λ (text : List ℕ). at_line DefSyntax Def (line_at text c.start_of-start.result)) (c.in-Err-NoForm.ensures.same ∙ c.loop-found.invariant.text));
    }

pub returns : goal.returns
returns c = record { value = sym c.loop-found.invariant.same ∙ read_none c.args.text.now c.args.unclosed c.loop-found.found (def_statements (tokens_left c.loop-found.source)) (none_next (def_statements (tokens_left c.loop-found.source)) _ c.in_ok-take_statement.field-0 c.in_ok-take_statement.ensures.value c.if-branch.false) }
