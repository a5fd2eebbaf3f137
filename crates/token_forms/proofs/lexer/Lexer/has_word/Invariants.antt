use Rattle.std.proofs.Common.{◌≡◌, length}
use Rattle.std.specs.List.{list_any}
use Rattle.std.specs.Str.{bytes_eq}
use Rattle.token_forms.specs.Tokens.{tokens_left}
use Rattle.token_forms.proofs.lexer.Lexer.has_word.Given as goal

abbrev pub invariant-loop-token : goal.invariant-loop-token
invariant-loop-token g l = record {
  source : l.self.source ≡ l.fn.self.source;
  same : list_any (λ t. bytes_eq t.text l.word) (tokens_left l.self) ≡ list_any (λ t. bytes_eq t.text l.word) (tokens_left l.fn.self);
}

abbrev pub decreases-loop-token : goal.decreases-loop-token
decreases-loop-token g l = length l.self.spans
