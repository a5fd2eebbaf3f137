use Rattle.std.proofs.Common.{sym, ap, ◌∙◌, List, ◌∷◌, [], ◌++◌, subst}
use Rattle.std.proofs.lemmas.Result.{err_from_is_err_and}
use Rattle.verilog_syntax.specs.declared.reading.Placed.{Placed}
use Rattle.verilog_syntax.specs.Reading.{Answers}
use Rattle.token_forms.specs.Tokens.{tokens_left}
use Rattle.verilog_syntax.proofs.ChunkReads.{chunk, empty, header_stops, header_goes}
use Rattle.verilog_syntax.proofs.reading.read_module.Goals as goal

pub returns-then-is_empty-clause-value : goal.returns-then-is_empty-clause-value
returns-then-is_empty-clause-value c =
    let tokens = c.tokens-tokens.ensures.value in
    let nothing = rw (c.tokens-tokens.ensures.value, c.deref.ensures.value, c.in_ok-ended.ensures.source) at (sym c.if-is_empty.ensures.value) in
    λ closed. rw c.fault_at.ensures.value (empty c.args.source.now.source (tokens_left c.args.source.now) _ _ _ c.in_ok-ended.ensures.value c.args.line c.requires.first closed nothing)

pub returns-in_err-header-clause-value : goal.returns-in_err-header-clause-value
returns-in_err-header-clause-value c =
    let p = err_from_is_err_and c.from_residual-in_err-header.result c.from_residual-in_err-header.ensures.1 in
    let some = rw (c.tokens-tokens.ensures.value, c.deref.ensures.value, c.in_ok-ended.ensures.source) at (sym c.if-is_empty.ensures.value) in
    let read = rw (c.tokens-tokens.ensures.value, c.deref.ensures.value, c.in_ok-ended.ensures.source) at c.in_err-header.ensures.value in
    λ closed. rw (p.1, p.2) (header_stops c.args.source.now.source (tokens_left c.args.source.now) _ _ _ c.in_ok-ended.ensures.value c.args.line c.requires.first closed some c.in_err-header.field-0.0 read)

pub returns-clause-value : goal.returns-clause-value
returns-clause-value c =
    let some = rw (c.tokens-tokens.ensures.value, c.deref.ensures.value, c.in_ok-ended.ensures.source) at (sym c.if-is_empty.ensures.value) in
    let read = rw (c.tokens-tokens.ensures.value, c.deref.ensures.value, c.in_ok-ended.ensures.source) at c.in_ok-header.ensures.value in
    let front = c.in_ok-push.ensures.ok ∙ ap (λ (l : List Placed). l ++ c.in_ok-header.header ∷ []) c.new-statements.ensures.value in
    λ closed.
    let k = sym (chunk c.args.source.now.source (tokens_left c.args.source.now) _ _ _ c.in_ok-ended.ensures.value).closed ∙ closed in
    let whole = rw c.in_ok-ended.ensures.source at (header_goes c.args.source.now.source (tokens_left c.args.source.now) _ _ _ c.in_ok-ended.ensures.value c.args.line c.requires.first closed some c.in_ok-header.header read) in
    let a = rw (front, c.in_ok-ended.ensures.source) at (c.read_others.ensures.value k) in
    subst (Answers c.read_others.result) (sym whole) a

pub returns-clause-closed : goal.returns-clause-closed
returns-clause-closed c =
    let k = (chunk c.args.source.now.source (tokens_left c.args.source.now) _ _ _ c.in_ok-ended.ensures.value).closed in
    rw k c.read_others.ensures.closed
