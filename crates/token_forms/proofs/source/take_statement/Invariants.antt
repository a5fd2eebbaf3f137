use Rattle.std.proofs.Common.{◌≡◌, length}
use Rattle.token_forms.specs.Tokens.{tokens_of, tokens_left, AreSpansOf}
use Rattle.token_forms.specs.Chunks.{chunk_of}
use Rattle.token_forms.proofs.ChunkTakes.{with_taken}
use Rattle.token_forms.proofs.source.take_statement.Given as goal

abbrev pub invariant-loop-token : goal.invariant-loop-token
invariant-loop-token g l = record {
  source : l.lexer.source ≡ l.fn.lexer.source;
  inside : AreSpansOf l.fn.lexer.source l.spans.items;
  same : with_taken (tokens_of l.fn.lexer.source l.spans.items) (chunk_of g.C.Cut.step l.cut (tokens_of l.fn.lexer.source l.lexer.spans)) ≡ chunk_of g.C.Cut.step l.fn.cut (tokens_left l.fn.lexer);
}

abbrev pub decreases-loop-token : goal.decreases-loop-token
decreases-loop-token g l = length l.lexer.spans
