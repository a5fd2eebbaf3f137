use Rattle.std.proofs.Common.{◌≡◌, ◌++◌, ◌-◌, ◌≤◌, length, drop}
use Rattle.token_forms.specs.Pieces.{tokens_from}
use Rattle.token_forms.specs.Tokens.{AreSpansOf}
use Rattle.token_forms.proofs.lexer.token_spans.Given as goal

abbrev pub invariant-loop-at : goal.invariant-loop-at
invariant-loop-at g l = record {
  within : l.at ≤ length l.bytes;
  inside : AreSpansOf l.bytes l.spans.items;
  same : l.spans.items ++ tokens_from g.F.TokenForm.piece_at l.at 0 (drop l.at l.bytes) ≡ tokens_from g.F.TokenForm.piece_at 0 0 l.bytes;
}

abbrev pub decreases-loop-at : goal.decreases-loop-at
decreases-loop-at g l = length l.bytes - l.at
