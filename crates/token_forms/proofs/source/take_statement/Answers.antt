use Rattle.std.proofs.Common.{◌∙◌}
use Rattle.std.proofs.lemmas.List.Elements.{All-push}
use Rattle.token_forms.specs.Tokens.{IsSpanOf, tokens_of}
use Rattle.token_forms.proofs.ChunkTakes.{goes_on}
use Rattle.token_forms.proofs.source.take_statement.Goals as goal

pub loop-token-preserved : goal.loop-token-preserved
loop-token-preserved g c =
    let source = c.args.lexer.now.source in
    let so_far = rw c.in-Some.ensures.value at c.loop-token.invariant.same in
    let text = rw c.loop-token.invariant.source at c.in-Some.ensures.text in
    let within = rw c.loop-token.invariant.source at c.in-Some.ensures.within in
    let step = rw (c.in-GoesOn.is, text) at c.step.ensures.value in
    record {
      source = c.in-Some.ensures.source ∙ c.loop-token.invariant.source;
      inside = rw c.in_ok-push_span-in-GoesOn.ensures.ok (All-push (IsSpanOf source) c.loop-token.spans.items _ c.loop-token.invariant.inside within);
      same = rw c.in_ok-push_span-in-GoesOn.ensures.ok
          (goes_on g.C.Cut.step source c.loop-token.spans.items c.loop-token.cut c.in-Some.token.span (tokens_of source c.next.new.self.spans) _ c.step.new.self so_far step);
    }

pub returns-in-Closes-clause-within : goal.returns-in-Closes-clause-within
returns-in-Closes-clause-within g c =
    let source = c.args.lexer.now.source in
    let within = rw c.loop-token.invariant.source at c.in-Some.ensures.within in
    rw c.in_ok-push_span-in-Closes.ensures.ok (All-push (IsSpanOf source) c.loop-token.spans.items _ c.loop-token.invariant.inside within)
