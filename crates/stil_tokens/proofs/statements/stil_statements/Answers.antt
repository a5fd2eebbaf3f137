use Rattle.std.proofs.Common.{◌∙◌, ◌<◌, length, ap, sym, rules, List}
use Rattle.std.proofs.lemmas.Bool.{eqb-true}
use Rattle.base_types.specs.declared.span.Span.{Span}
use Rattle.token_forms.specs.Tokens.{tokens_of}
use Rattle.stil_tokens.specs.StilStatements.{is_closed, statement_len}
use Rattle.stil_tokens.proofs.Taken.{takes_one, takes_all, is_split}
use Rattle.stil_tokens.proofs.statements.stil_statements.Goals as goal

pub loop-left-preserved : goal.loop-left-preserved
loop-left-preserved c =
    let text = c.args.bytes.now in
    let copied = c.in_ok-copied.ensures.value in
    let some : 0 < length c.loop-left.left.now = search rules in
    takes_one text c.loop-left.left.now c.split_at.result.1.now c.statement_len.result c.loop-left.statements.items c.push.new.self.items
    (record { tokens = c.in_ok-copied.field-0; closed = c.is_closed.result })
    c.loop-left.invariant some (c.statement_len.ensures.value ∙ ap statement_len c.of.ensures.value)
    c.split_at.ensures.back (copied ∙ c.split_at.ensures.front)
    (c.is_closed.ensures.value ∙ ap is_closed (c.of-in-loop-left.ensures.value ∙ ap (λ (x : List Span). tokens_of text x) (sym copied)))
    c.in_ok-push.ensures.items

pub returns-clause-split : goal.returns-clause-split
returns-clause-split c = is_split c.args.bytes.now c.loop-left.left.now c.loop-left.statements.items c.loop-left.invariant (eqb-true _ _ (sym c.loop-left-test.ensures))

pub returns-clause-value : goal.returns-clause-value
returns-clause-value c = takes_all c.args.bytes.now c.loop-left.left.now c.loop-left.statements.items c.loop-left.invariant (eqb-true _ _ (sym c.loop-left-test.ensures))
