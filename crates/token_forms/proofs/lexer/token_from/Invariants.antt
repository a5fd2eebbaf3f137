use Rattle.std.proofs.Common.{length, ◌-◌, ◌≡◌, ◌≤◌, drop}
use Rattle.token_forms.specs.Pieces.{tokens_from}
use Rattle.token_forms.proofs.lexer.token_from.Given as goal

abbrev pub invariant-loop-at : goal.invariant-loop-at
invariant-loop-at g l = record {
  within : l.at ≤ length l.text;
  same : tokens_from g.F.TokenForm.piece_at l.from 0 (drop l.from l.text) ≡ tokens_from g.F.TokenForm.piece_at l.at 0 (drop l.at l.text);
}

abbrev pub decreases-loop-at : goal.decreases-loop-at
decreases-loop-at g l = length l.text - l.at
