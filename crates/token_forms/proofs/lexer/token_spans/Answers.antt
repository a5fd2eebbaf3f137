use Rattle.std.proofs.Common.{sym, append-nil, arith}
use Rattle.std.proofs.lemmas.List.Elements.{All-push}
use Rattle.token_forms.specs.declared.piece.Piece.TheVariants.{Blank, Token}
use Rattle.token_forms.specs.Tokens.{IsSpanOf}
use Rattle.token_forms.proofs.Cuts.{steps_over, goes_over, ends}
use Rattle.token_forms.proofs.lexer.token_spans.Goals as goal

pub loop-at-preserved-in-Blank : goal.loop-at-preserved-in-Blank
loop-at-preserved-in-Blank g c =
    let step = steps_over g.F.TokenForm.piece_at c.args.bytes.now c.loop-at.at (Blank c.in-Blank.len) c.loop-at-test.true c.in-Blank.ensures.value c.in-Blank.ensures.some c.in-Blank.ensures.within in
    record {
      within = step.within;
      inside = c.loop-at.invariant.inside;
      same = goes_over g.F.TokenForm.piece_at c.args.bytes.now c.loop-at.at (Blank c.in-Blank.len) c.loop-at.spans.items c.loop-at.spans.items _ step (sym (append-nil _)) c.loop-at.invariant.same;
    }

pub loop-at-preserved : goal.loop-at-preserved
loop-at-preserved g c =
    let step = steps_over g.F.TokenForm.piece_at c.args.bytes.now c.loop-at.at (Token c.in-Token.len) c.loop-at-test.true c.in-Token.ensures.value c.in-Token.ensures.some c.in-Token.ensures.within in
    let pushed = c.in_ok-push_span-in-Token.ensures.ok in
    record {
      within = step.within;
      inside = rw pushed (All-push (IsSpanOf c.args.bytes.now) c.loop-at.spans.items _ c.loop-at.invariant.inside (record { ordered = omega arith; within = step.within }));
      same = goes_over g.F.TokenForm.piece_at c.args.bytes.now c.loop-at.at (Token c.in-Token.len) c.loop-at.spans.items _ _ step pushed c.loop-at.invariant.same;
    }

pub returns-clause-value : goal.returns-clause-value
returns-clause-value g c = ends g.F.TokenForm.piece_at _ c.loop-at.at c.loop-at.spans.items _ c.loop-at-test.false c.loop-at.invariant.same
