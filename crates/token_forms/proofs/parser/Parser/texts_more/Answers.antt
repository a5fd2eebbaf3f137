use Rattle.std.proofs.Common.{sym, ◌∙◌, arith}
use Rattle.std.proofs.lemmas.Result.{err_from_is_err_and}
use Rattle.token_forms.specs.Forms.{text, ◌▸◌}
use Rattle.token_forms.proofs.Loops.{begins_many, goes_on_many, ends_many, stops_many}
use Rattle.token_forms.proofs.parser.Parser.texts_more.Goals as goal

pub loop-self-init : goal.loop-self-init
loop-self-init g c = record { read = begins_many ("," ▸ text g.W.Word.kind g.W.Word.test).starts ("," ▸ text g.W.Word.kind g.W.Word.test).reads c.args.front.items c.args.self.now.tokens; shorter = omega arith }

pub returns-in_err-value-clause-value : goal.returns-in_err-value-clause-value
returns-in_err-value-clause-value g c =
    let p = err_from_is_err_and c.from_residual.result c.from_residual.ensures.1 in
    rw (p.1, p.2) (stops_many ("," ▸ text g.W.Word.kind g.W.Word.test).starts ("," ▸ text g.W.Word.kind g.W.Word.test).reads c.loop-self.values.items c.loop-self.self.tokens _ c.in_err-value.field-0.0 _ _ (sym c.begins_word.ensures.value ∙ c.loop-self-test.true) c.in_err-value.ensures.value c.loop-self.invariant.read)

pub loop-self-preserved : goal.loop-self-preserved
loop-self-preserved g c = record {
  read = rw c.in_ok-push.ensures.items (goes_on_many ("," ▸ text g.W.Word.kind g.W.Word.test).starts ("," ▸ text g.W.Word.kind g.W.Word.test).reads c.loop-self.values.items c.loop-self.self.tokens _ c.in_ok-value.value _ (sym c.begins_word.ensures.value ∙ c.loop-self-test.true) c.in_ok-value.ensures.value c.in_ok-value.ensures.shorter c.loop-self.invariant.read);
  shorter = omega (arith, c.loop-self.invariant.shorter, c.in_ok-value.ensures.shorter);
}

pub returns-clause-value : goal.returns-clause-value
returns-clause-value g c =
    rw (c.of.ensures.value, c.shrink_to_fit.ensures.items) (ends_many ("," ▸ text g.W.Word.kind g.W.Word.test).starts ("," ▸ text g.W.Word.kind g.W.Word.test).reads c.loop-self.values.items c.loop-self.self.tokens _ (sym c.begins_word.ensures.value ∙ c.loop-self-test.false) c.loop-self.invariant.read)
