use Rattle.std.proofs.Common.{◌≡◌, sym, ap, ◌∙◌, List, Err, subst}
use Rattle.std.proofs.lemmas.Result.{err_from_is_err_and}
use Rattle.token_forms.specs.Tokens.{tokens_of, Tokenized}
use Rattle.verilog_syntax.specs.declared.reading.Placed.{Placed}
use Rattle.token_forms.specs.declared.source.Ended.TheVariants.{Closed}
use Rattle.verilog_syntax.specs.Reading.{Answers}
use Rattle.token_forms.specs.Tokens.{tokens_left}
use Rattle.verilog_syntax.proofs.ChunkReads.{chunk, goes_on, stops, fewer}
use Rattle.verilog_syntax.proofs.reading.read_others.Goals as goal
use Rattle.verilog_syntax.proofs.reading.read_others.Goals.{in-Closed, in_default}

pub returns-in_err-statements-clause-value : goal.returns-in_err-statements-clause-value
returns-in_err-statements-clause-value c =
    let p = err_from_is_err_and c.from_residual-in_err-statements.result c.from_residual-in_err-statements.ensures.1 in
    let more : c.loop-ended.ended ≡ Closed = elim c.match-matches.branch [ in-Closed w ↦ w.in-Closed.is | in_default w ↦ absurd cc ] in
    let text = c.args.source.now.source in
    let read = rw (c.tokens-tokens.ensures.value, c.deref.ensures.value, c.in_ok-ended.ensures.source, c.loop-ended.invariant.source) at c.in_err-statements.ensures.value in
    let taken = rw c.loop-ended.invariant.source at c.in_ok-ended.ensures.value in
    let so_far = rw (c.loop-ended.invariant.source, more) at c.loop-ended.invariant.same in
    let stopped = stops text (tokens_of text c.loop-ended.source.spans) _ _ _ taken c.loop-ended.statements c.in_err-statements.field-0.0 read in
    λ closed. rw (p.1, p.2) (subst (Answers {X = List Placed} (Err c.in_err-statements.field-0.0)) so_far stopped)

pub loop-ended-smaller : goal.loop-ended-smaller
loop-ended-smaller c =
    let more : c.loop-ended.ended ≡ Closed = elim c.match-matches.branch [ in-Closed w ↦ w.in-Closed.is | in_default w ↦ absurd cc ] in
    rw (c.in_ok-statements.ensures.same, more) (fewer c.args.source.now.source (tokens_left c.loop-ended.source) _ _ _ c.in_ok-ended.ensures.value)

pub loop-ended-preserved : goal.loop-ended-preserved
loop-ended-preserved c =
    let more : c.loop-ended.ended ≡ Closed = elim c.match-matches.branch [ in-Closed w ↦ w.in-Closed.is | in_default w ↦ absurd cc ] in
    let text = c.args.source.now.source in
    let ts = tokens_of text c.loop-ended.source.spans in
    let read = rw (c.tokens-tokens.ensures.value, c.deref.ensures.value, c.in_ok-ended.ensures.source, c.loop-ended.invariant.source) at c.in_ok-statements.ensures.value in
    let taken = rw c.loop-ended.invariant.source at c.in_ok-ended.ensures.value in
    let closed = rw (c.loop-ended.invariant.source, more) at c.loop-ended.invariant.closed in
    let so_far = rw (c.loop-ended.invariant.source, more) at c.loop-ended.invariant.same in
    record {
      source = ap (λ (s : Tokenized). s.source) c.in_ok-statements.ensures.same ∙ c.in_ok-ended.ensures.source ∙ c.loop-ended.invariant.source;
      closed = rw c.in_ok-statements.ensures.same (sym (chunk text ts _ _ _ taken).closed ∙ closed);
      same = rw c.in_ok-statements.ensures.same (sym (goes_on text ts _ _ _ taken c.loop-ended.statements c.in_ok-statements.statements read) ∙ so_far);
    }
