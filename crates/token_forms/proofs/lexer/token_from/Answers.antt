use Rattle.std.proofs.Common.{◌∙◌, sym, refl, []}
use Rattle.token_forms.specs.declared.piece.Piece.TheVariants.{Blank, Token}
use Rattle.token_forms.proofs.Cuts.{steps_over, ends}
use Rattle.token_forms.proofs.lexer.token_from.Goals as goal

pub loop-at-preserved : goal.loop-at-preserved
loop-at-preserved g c =
    let step = steps_over g.F.TokenForm.piece_at c.args.text.now c.loop-at.at (Blank c.in-Blank.len) c.loop-at-test.true c.in-Blank.ensures.value c.in-Blank.ensures.some c.in-Blank.ensures.within in
    record { within = step.within; same = c.loop-at.invariant.same ∙ step.same }

pub returns-in-Token-clause-value : goal.returns-in-Token-clause-value
returns-in-Token-clause-value g c =
    let step = steps_over g.F.TokenForm.piece_at c.args.text.now c.loop-at.at (Token c.in-Token.len) c.loop-at-test.true c.in-Token.ensures.value c.in-Token.ensures.some c.in-Token.ensures.within in
    c.loop-at.invariant.same ∙ step.same

pub returns-clause-value : goal.returns-clause-value
returns-clause-value g c = c.loop-at.invariant.same ∙ sym (ends g.F.TokenForm.piece_at c.args.text.now c.loop-at.at [] _ c.loop-at-test.false refl)
