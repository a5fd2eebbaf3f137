-- A text has one split at most, for any form of tokens whose relation says what its pieces are.
use Rattle.std.proofs.Common.{◌≡◌, ℕ, suc, ◌+◌, ◌-◌, ◌<◌, ◌≤◌, List, [], ◌∷◌, length, drop, get_or, sym, ap, ◌∙◌, subst, inl, inr, arith, length-drop}
use Rattle.std.proofs.lemmas.List.{drop_all, drop_more, drop-drop}
use Rattle.std.proofs.lemmas.Bool.{cases_lt}
use Rattle.base_types.specs.declared.span.Span.{Span}
use Rattle.token_forms.specs.declared.piece.Piece.{Piece}
use Rattle.token_forms.specs.declared.piece.Piece.TheVariants.{Token}
use Rattle.token_forms.specs.Pieces.{tokens_from}
use Rattle.token_forms.specs.Splits.{BlanksOf, IsTokenSpan, SplitFrom}
use Rattle.token_forms.proofs.Cuts.{IsCut, steps}

-- what the relations say of the front of a text is what its piece is
pub record IsExactForm (piece_at : List ℕ → Piece) (IsBlank IsToken : List ℕ → ℕ → Type 0) : Type 0 where
  pub cut : IsCut piece_at
  pub none : (n : ℕ) → IsBlank [] n → ⊥
  -- behind blanks the same tokens follow
  pub blank : (at b : ℕ) (bs : List ℕ) (n : ℕ) → IsBlank (b ∷ bs) n → tokens_from piece_at at 0 (b ∷ bs) ≡ tokens_from piece_at (at + n) 0 (drop n (b ∷ bs))
  pub token : (b : ℕ) (bs : List ℕ) (n : ℕ) → 0 < n → n ≤ suc (length bs) → IsToken (b ∷ bs) n → piece_at (b ∷ bs) ≡ Token n

module _ (piece_at : List ℕ → Piece) (IsBlank IsToken : List ℕ → ℕ → Type 0) (form : IsExactForm piece_at IsBlank IsToken) (text : List ℕ) where
  over_blank : (at n : ℕ) → IsBlank (drop at text) n → tokens_from piece_at at 0 (drop at text) ≡ tokens_from piece_at (at + n) 0 (drop (at + n) text)
  over_blank at n is =
      elim (cases_lt at (length text)) [
        | inl lt ↦
            let cut = drop_more text at 0 lt in
            let is' : IsBlank (get_or text at 0 ∷ drop (at + 1) text) n = subst (λ (x : List ℕ). IsBlank x n) cut is in
            ap (λ (x : List ℕ). tokens_from piece_at at 0 x) cut ∙ form.blank at (get_or text at 0) (drop (at + 1) text) n is'
            ∙ ap (λ (x : List ℕ). tokens_from piece_at (at + n) 0 (drop n x)) (sym cut) ∙ ap (λ (x : List ℕ). tokens_from piece_at (at + n) 0 x) (drop-drop n at text)
        | inr le ↦ absurd (form.none n (subst (λ (x : List ℕ). IsBlank x n) (drop_all at text le) is))
      ]

  over_blanks : (from to : ℕ) (ns : List ℕ) → BlanksOf IsBlank text from ns to → tokens_from piece_at from 0 (drop from text) ≡ tokens_from piece_at to 0 (drop to text)
  over_blanks from to [] e = ap (λ (x : ℕ). tokens_from piece_at x 0 (drop x text)) e
  over_blanks from to (n ∷ ns) e = over_blank from n e.0 ∙ over_blanks (from + n) to ns e.1

  -- the token at a span
  first_token : (s : Span) → IsTokenSpan IsToken text s → tokens_from piece_at s.start 0 (drop s.start text) ≡ s ∷ tokens_from piece_at s.end 0 (drop s.end text)
  first_token s is =
      let n = s.end - s.start in
      let some = is.some in
      let within = is.within in
      let lt : s.start < length text = omega arith in
      let cut = drop_more text s.start 0 lt in
      let is' : IsToken (get_or text s.start 0 ∷ drop (s.start + 1) text) n = subst (λ (x : List ℕ). IsToken x n) cut is.token in
      let len = length-drop (s.start + 1) text in
      let piece : piece_at (drop s.start text) ≡ Token n = ap piece_at cut ∙ form.token (get_or text s.start 0) (drop (s.start + 1) text) n (omega arith) (omega arith) is' in
      let k : s.start + n ≡ s.end = omega arith in
      let st = steps piece_at text s.start (Token n) form.cut lt (sym piece) in
      st.same ∙ ap (λ (x : ℕ). record { start = s.start; end = x } ∷ tokens_from piece_at x 0 (drop x text)) k

  pub only : (at : ℕ) (spans : List Span) → SplitFrom IsBlank IsToken text at spans → spans ≡ tokens_from piece_at at 0 (drop at text)
  unfolding tokens_from
  only at [] split =
      let none : drop (length text) text ≡ [] = drop_all (length text) text (omega arith) in
      sym (over_blanks at (length text) split.lengths split.each ∙ ap (λ (x : List ℕ). tokens_from piece_at (length text) 0 x) none)
  only at (s ∷ ss) split =
      sym (over_blanks at s.start split.0.lengths split.0.each ∙ first_token s split.1 ∙ ap (λ (ts : List Span). s ∷ ts) (sym (only s.end ss split.2)))
