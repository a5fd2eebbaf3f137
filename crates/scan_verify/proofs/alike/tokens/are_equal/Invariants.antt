use Rattle.std.proofs.Common.{◌≡◌, length}
use Rattle.std.specs.Prelude.{◌↔◌}
use Rattle.token_forms.specs.Tokens.{tokens_left}
use Rattle.token_forms.specs.Parts.{token_texts}
use Rattle.scan_verify.proofs.alike.tokens.are_equal.Given as goal

abbrev pub invariant-loop-token : goal.invariant-loop-token
invariant-loop-token l = (token_texts (tokens_left l.fn.a) ≡ token_texts (tokens_left l.fn.b)) ↔ (token_texts (tokens_left l.a) ≡ token_texts (tokens_left l.b))

abbrev pub decreases-loop-token : goal.decreases-loop-token
decreases-loop-token l = length l.a.spans
