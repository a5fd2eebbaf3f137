use Rattle.std.proofs.Common.{◌≡◌, ◌==◌, ap, sym, not, length}
use Rattle.token_forms.specs.Tokens.{tokens_left}
use Rattle.def_syntax.proofs.Cuts.{taken_is, fewer_left}
use Rattle.def_syntax.proofs.statements.take_statement.Goals as goal

pub returns-clause-value : goal.returns-clause-value
returns-clause-value c =
    rw c.is_empty.ensures (rw c.as_slice.ensures.value
    (taken_is c.args.source.now.source (tokens_left c.statement.new.self) c.in_ok-statement.field-0 c.statement.new.spans.items (tokens_left c.args.source.now) c.in_ok-statement.ensures.value))

pub returns-clause-shorter : goal.returns-clause-shorter
returns-clause-shorter c = λ some.
    fewer_left c.args.source.now.source (tokens_left c.statement.new.self) c.in_ok-statement.field-0 c.statement.new.spans.items (tokens_left c.args.source.now) c.in_ok-statement.ensures.value
    (rw (sym (ap (λ l. not (length l == 0)) c.as_slice.ensures.value)) (rw (sym c.is_empty.ensures) some))
