-- The tokens of a text are a split of it, for any form of tokens whose pieces are such blanks and such tokens.
use Rattle.std.proofs.Common.{◌≡◌, ℕ, zero, suc, ◌+◌, ◌-◌, ◌<◌, ◌≤◌, List, [], ◌∷◌, ◌++◌, length, drop, refl, sym, subst, inl, inr, arith}
use Rattle.std.proofs.lemmas.List.{drop_all}
use Rattle.std.proofs.lemmas.Bool.{cases_lt}
use Rattle.base_types.specs.declared.span.Span.{Span}
use Rattle.token_forms.specs.declared.piece.Piece.{Piece}
use Rattle.token_forms.specs.declared.piece.Piece.TheVariants.{Blank, Token}
use Rattle.token_forms.specs.Pieces.{piece_len, tokens_from}
use Rattle.token_forms.specs.Splits.{BlanksOf, AreBlanks, SplitFrom}
use Rattle.token_forms.proofs.Cuts.{IsCut, steps}

-- a form's pieces are what its relation says
pub record IsSplitForm (piece_at : List ℕ → Piece) (IsBlank IsToken : List ℕ → ℕ → Type 0) : Type 0 where
  pub cut : IsCut piece_at
  pub blank : (text : List ℕ) (at n : ℕ) → at < length text → piece_at (drop at text) ≡ Blank n → AreBlanks IsBlank text at (at + n)
  pub token : (text : List ℕ) (at n : ℕ) → at < length text → piece_at (drop at text) ≡ Token n → IsToken (drop at text) n

module _ (IsBlank : List ℕ → ℕ → Type 0) (text : List ℕ) where
  pub no_blanks : (at : ℕ) → AreBlanks IsBlank text at at
  no_blanks at = record { lengths = []; each = refl; ordered = omega arith }

  pub one_blank : (at n : ℕ) → IsBlank (drop at text) n → AreBlanks IsBlank text at (at + n)
  one_blank at n is = record { lengths = n ∷ []; each = (is, refl); ordered = omega arith }

  join : (from via to : ℕ) (ns ms : List ℕ) → BlanksOf IsBlank text from ns via → BlanksOf IsBlank text via ms to → BlanksOf IsBlank text from (ns ++ ms) to
  join from via to [] ms a b = subst (λ (x : ℕ). BlanksOf IsBlank text x ms to) (sym a) b
  join from via to (n ∷ ns) ms a b = (a.0, join (from + n) via to ns ms a.1 b)

  pub blanks_join : (from via to : ℕ) → AreBlanks IsBlank text from via → AreBlanks IsBlank text via to → AreBlanks IsBlank text from to
  blanks_join from via to a b =
      let o = a.ordered in
      let p = b.ordered in
      record { lengths = a.lengths ++ b.lengths; each = join from via to a.lengths b.lengths a.each b.each; ordered = omega arith }

module _ (piece_at : List ℕ → Piece) (IsBlank IsToken : List ℕ → ℕ → Type 0) (form : IsSplitForm piece_at IsBlank IsToken) (text : List ℕ) where
  split_blank : (at n : ℕ) (spans : List Span) → AreBlanks IsBlank text at (at + n) → SplitFrom IsBlank IsToken text (at + n) spans → SplitFrom IsBlank IsToken text at spans
  split_blank at n [] is rest = blanks_join IsBlank text at (at + n) (length text) is rest
  split_blank at n (s ∷ ss) is rest = (blanks_join IsBlank text at (at + n) s.start is rest.0, rest.1, rest.2)

  -- one piece, and a split behind it
  split_piece : (at : ℕ) (p : Piece) → at < length text → piece_at (drop at text) ≡ p
      → SplitFrom IsBlank IsToken text (at + piece_len p) (tokens_from piece_at (at + piece_len p) 0 (drop (at + piece_len p) text)) → SplitFrom IsBlank IsToken text at (tokens_from piece_at at 0 (drop at text))
  split_piece at (Blank n) lt is rest =
      let s = steps piece_at text at (Blank n) form.cut lt (sym is) in
      subst (SplitFrom IsBlank IsToken text at) (sym s.same) (split_blank at n (tokens_from piece_at (at + n) 0 (drop (at + n) text)) (form.blank text at n lt is) rest)
  split_piece at (Token n) lt is rest =
      let s = steps piece_at text at (Token n) form.cut lt (sym is) in
      let some = s.some in
      let within = s.within in
      let k : at + n - at ≡ n = omega arith in
      subst (SplitFrom IsBlank IsToken text at) (sym s.same)
      (no_blanks IsBlank text at, record { some = omega arith; within = within; token = rw k (form.token text at n lt is) }, rest)

  -- k bounds how many bytes are left
  split_from : (k at : ℕ) → at ≤ length text → length text ≤ at + k → SplitFrom IsBlank IsToken text at (tokens_from piece_at at 0 (drop at text))
  unfolding tokens_from
  split_from zero at le short =
      let none : drop at text ≡ [] = drop_all at text (omega arith) in
      let here : at ≡ length text = omega arith in
      subst (λ (bs : List ℕ). SplitFrom IsBlank IsToken text at (tokens_from piece_at at 0 bs)) (sym none) (subst (AreBlanks IsBlank text at) here (no_blanks IsBlank text at))
  split_from (suc k) at le short =
      elim (cases_lt at (length text)) [
        | inl lt ↦
            let s = steps piece_at text at (piece_at (drop at text)) form.cut lt refl in
            let some = s.some in
            let within = s.within in
            split_piece at (piece_at (drop at text)) lt refl (split_from k (at + piece_len (piece_at (drop at text))) within (omega arith))
        | inr past ↦ split_from k at le (omega arith)
      ]

  pub split : SplitFrom IsBlank IsToken text 0 (tokens_from piece_at 0 0 text)
  split = split_from (length text) 0 (omega arith) (omega arith)
