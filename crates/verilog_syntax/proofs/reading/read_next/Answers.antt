use Rattle.std.proofs.Common.{sym, ◌∙◌, ap, Ok, List}
use Rattle.std.proofs.lemmas.Result.{err_from_is_err_and}
use Rattle.verilog_syntax.specs.declared.reading.Placed.{Placed}
use Rattle.verilog_syntax.proofs.ChunkReads.{next_none, next_stops, next_goes}
use Rattle.verilog_syntax.proofs.reading.read_next.Goals as goal

pub returns-then-is_empty-clause-value : goal.returns-then-is_empty-clause-value
returns-then-is_empty-clause-value c = next_none c.args.source.now.source c.args.statements c.args.tokens (sym c.if-is_empty.ensures.value)

pub returns-in_err-read_statement-clause-value : goal.returns-in_err-read_statement-clause-value
returns-in_err-read_statement-clause-value c =
    let p = err_from_is_err_and c.from_residual.result c.from_residual.ensures.1 in
    let read = rw c.line_of_tokens-line.ensures.value at c.in_err-read_statement.ensures.value in
    rw (p.1, p.2) (next_stops c.args.source.now.source c.args.statements c.args.tokens (sym c.if-is_empty.ensures.value) c.in_err-read_statement.field-0.0 read)

pub returns-clause-value : goal.returns-clause-value
returns-clause-value c =
    let read = rw c.line_of_tokens-line.ensures.value at c.in_ok-read_statement.ensures.value in
    next_goes c.args.source.now.source c.args.statements c.args.tokens (sym c.if-is_empty.ensures.value) c.in_ok-read_statement.field-0 read
    ∙ ap (λ (l : List Placed). Ok l) (sym c.in_ok-push.ensures.ok)
