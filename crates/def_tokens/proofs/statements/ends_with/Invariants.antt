use Rattle.std.proofs.Common.{◌≡◌, ◌∷◌, length}
use Rattle.def_tokens.specs.DefStatements.{ends_with}
use Rattle.def_tokens.proofs.statements.ends_with.Given as goal

abbrev pub invariant-loop-token : goal.invariant-loop-token
invariant-loop-token l = ends_with l.word (record { text = l.last.text.now; start = l.last.span.start; end = l.last.span.end } ∷ l.tokens) ≡ ends_with l.word l.fn.tokens

abbrev pub decreases-loop-token : goal.decreases-loop-token
decreases-loop-token l = length l.tokens
