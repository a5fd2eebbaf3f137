use Rattle.std.proofs.Common.{◌≡◌, ℕ, suc, List, ◌∷◌, subst, arith}
use Rattle.base_types.specs.declared.span.Span.{Span}
use Rattle.token_forms.specs.Tokens.{AreSpansOf}
use Rattle.token_forms.proofs.tokens.Tokens.next.Goals as goal

AreSpansOf-rest : (text : List ℕ) (spans : List Span) (s : Span) (rest : List Span) → spans ≡ s ∷ rest → AreSpansOf text spans → AreSpansOf text rest
AreSpansOf-rest text spans s rest e all = λ k d h.
    let each = subst (AreSpansOf text) e all in each (suc k) d (omega arith)

pub invariant_of-self : goal.invariant_of-self
invariant_of-self c = AreSpansOf-rest c.self.inside.text.now c.self.inside.spans.now c.in_ok-span.span.now c.in_ok-span.rest.now c.in_ok-span.ensures.cases.0 c.self.invariant
