-- Each piece of a LEF or DEF text has a byte at least, and lies in the text.
use Rattle.std.proofs.Common.{◌≡◌, ℕ, zero, suc, ◌+◌, ◌<◌, ◌≤◌, Bool, true, false, cond, not, eqb, List, ◌∷◌, length, get_or, refl, inl, inr, arith}
use Rattle.std.specs.List.{prefix_len}
use Rattle.std.proofs.lemmas.Bool.{cases_order, cases_lt, both_ways, not-true, not-false}
use Rattle.std.proofs.lemmas.List.Sums.{prefix_len-le-length, prefix_len_passes, prefix_len_stops}
use Rattle.token_forms.specs.declared.piece.Piece.{Piece}
use Rattle.token_forms.specs.declared.piece.Piece.TheVariants.{Blank, Token}
use Rattle.token_forms.proofs.Cuts.{IsWithin, IsCut}
use Rattle.def_tokens.specs.DefTokens.{is_blank, is_black, len_with, run_piece, piece_at}

cond_within : (b : Bool) (p q : Piece) (n : ℕ) → IsWithin p n → IsWithin q n → IsWithin (cond b p q) n
cond_within true p q n h k = h
cond_within false p q n h k = k

within_blank : (k n : ℕ) → 0 < k → k ≤ n → IsWithin (Blank k) n
within_blank k n some within = record { some = some; within = within }

within_token : (k n : ℕ) → 0 < k → k ≤ n → IsWithin (Token k) n
within_token k n some within = record { some = some; within = within }

pub run-within : (b : ℕ) (bs : List ℕ) (n : ℕ) → n ≤ length bs → IsWithin (run_piece (b ∷ bs) n) (1 + length bs)
run-within b bs zero le = within_token 1 (1 + length bs) (omega arith) (omega arith)
run-within b bs (suc n) le =
    cond_within _ _ _ _ (within_token (suc n) (1 + length bs) (omega arith) (omega arith)) (within_token (suc n + 1) (1 + length bs) (omega arith) (omega arith))

piece-within : (b : ℕ) (bs : List ℕ) → IsWithin (piece_at (b ∷ bs)) (1 + length bs)
unfolding piece_at
piece-within b bs =
    cond_within _ _ _ _ (within_blank (1 + prefix_len is_blank bs) (1 + length bs) (omega arith) (omega (arith, prefix_len-le-length is_blank bs)))
    (cond_within _ _ _ _ (within_blank (1 + len_with 10 bs) (1 + length bs) (omega arith) (omega arith))
    (cond_within _ _ _ _ (within_token (1 + len_with 34 bs) (1 + length bs) (omega arith) (omega arith))
    (run-within b bs (prefix_len is_black bs) (prefix_len-le-length is_black bs))))

pub def_cut : IsCut piece_at
unfolding piece_at
def_cut = record { empty = refl; each = piece-within }

-- where the first byte of a kind stands, or none does
module _ (byte : ℕ) (bs : List ℕ) where
  found : ℕ
  found = prefix_len (λ b. not (eqb b byte)) bs

  pub found_at : (k : ℕ) → k < length bs → eqb (get_or bs k 0) byte ≡ true → ((j : ℕ) → 0 ≤ j → j < k → eqb (get_or bs j 0) byte ≡ true → ⊥) → k + 1 ≡ len_with byte bs
  unfolding found
  found_at k lt here before =
      elim (cases_order k found) [
        | inl e ↦ omega arith
        | inr (inl under) ↦ let passes = prefix_len_passes (λ b. not (eqb b byte)) bs k 0 under in absurd (both_ways (eqb (get_or bs k 0) byte) (not-true _ passes) here)
        | inr (inr over) ↦
            let stops = prefix_len_stops (λ b. not (eqb b byte)) bs 0 (omega arith) in
            absurd (before found (omega arith) over (not-false _ stops))
      ]

  pub found_nowhere : ((j : ℕ) → 0 ≤ j → j < length bs → eqb (get_or bs j 0) byte ≡ true → ⊥) → length bs ≡ len_with byte bs
  unfolding found
  found_nowhere none =
      let le = prefix_len-le-length (λ b. not (eqb b byte)) bs in
      elim (cases_lt found (length bs)) [
        | inl lt ↦ let stops = prefix_len_stops (λ b. not (eqb b byte)) bs 0 lt in absurd (none found (omega arith) lt (not-false _ stops))
        | inr ge ↦ omega arith
      ]
