use Rattle.std.proofs.Common.{◌≤◌, length}
use Rattle.token_forms.specs.Forms.{text, many_at, ◌▸◌}
use Rattle.token_forms.proofs.Loops.{SoFar, with_front}
use Rattle.token_forms.proofs.parser.Parser.texts_more.Given as goal

abbrev pub invariant-loop-self : goal.invariant-loop-self
invariant-loop-self g l = record {
  read : SoFar ("," ▸ text g.W.Word.kind g.W.Word.test).starts ("," ▸ text g.W.Word.kind g.W.Word.test).reads l.values.items l.self.tokens (with_front l.fn.front.items (many_at ("," ▸ text g.W.Word.kind g.W.Word.test).starts ("," ▸ text g.W.Word.kind g.W.Word.test).reads l.fn.self.tokens));
  shorter : length l.self.tokens ≤ length l.fn.self.tokens;
}

abbrev pub decreases-loop-self : goal.decreases-loop-self
decreases-loop-self g l = length l.self.tokens
