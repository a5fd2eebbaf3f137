-- Each piece of a STIL text has a byte at least, and lies in the text.
use Rattle.std.proofs.Common.{◌≡◌, ℕ, zero, suc, ◌+◌, ◌<◌, ◌≤◌, Bool, true, false, eqb, not, ◌&&◌, List, [], ◌∷◌, length, get_or, refl, arith}
use Rattle.std.specs.List.{prefix_len}
use Rattle.std.proofs.lemmas.Bool.{cond_both, both_ways}
use Rattle.std.proofs.lemmas.List.Sums.{prefix_len-le-length}
use Rattle.token_forms.specs.declared.piece.Piece.TheVariants.{Blank, Token}
use Rattle.token_forms.proofs.Cuts.{IsWithin, IsCut}
use Rattle.stil_tokens.specs.StilTokens.{is_blank, is_quote, is_mark, is_run, quoted_len, closed_len, line_len, brace_piece, slash_piece, piece_at}

pub quoted-le : (quote : ℕ) (bs : List ℕ) → quoted_len quote bs ≤ length bs
quoted-le quote [] = omega arith
quoted-le quote (b ∷ bs) = cond_both (eqb b quote) 1 (1 + quoted_len quote bs) (λ n. n ≤ length (b ∷ bs)) (λ e. omega arith) (λ e. omega (arith, quoted-le quote bs))

pub closed-le : (closing : ℕ) (star : Bool) (bs : List ℕ) → closed_len closing star bs ≤ length bs
closed-le closing star [] = omega arith
closed-le closing star (b ∷ bs) =
    cond_both (star && eqb b closing) 1 (1 + closed_len closing (eqb b 42) bs) (λ n. n ≤ length (b ∷ bs)) (λ e. omega arith) (λ e. omega (arith, closed-le closing (eqb b 42) bs))

blank_within : (k n : ℕ) → 0 < k → k ≤ n → IsWithin (Blank k) n
blank_within k n some within = record { some = some; within = within }

token_within : (k n : ℕ) → 0 < k → k ≤ n → IsWithin (Token k) n
token_within k n some within = record { some = some; within = within }

one : (n : ℕ) → IsWithin (Token 1) (1 + n)
one n = token_within 1 (1 + n) (omega arith) (omega arith)

brace-within : (bs : List ℕ) → IsWithin (brace_piece bs) (1 + length bs)
unfolding brace_piece
brace-within [] = one 0
brace-within (b ∷ bs) = cond_both (eqb b 42) _ _ (λ p. IsWithin p (1 + length (b ∷ bs)))
    (λ e. token_within (2 + closed_len 125 false bs) (1 + length (b ∷ bs)) (omega arith) (omega (arith, closed-le 125 false bs))) (λ e. one (length (b ∷ bs)))

slash-within : (bs : List ℕ) → IsWithin (slash_piece bs) (1 + length bs)
unfolding slash_piece
slash-within [] = one 0
slash-within (b ∷ bs) = cond_both (eqb b 47) _ _ (λ p. IsWithin p (1 + length (b ∷ bs)))
    (λ e. blank_within (2 + line_len bs) (1 + length (b ∷ bs)) (omega arith) (omega (arith, prefix_len-le-length (λ c. not (eqb c 10)) bs)))
    (λ e. cond_both (eqb b 42) _ _ (λ p. IsWithin p (1 + length (b ∷ bs)))
    (λ f. blank_within (2 + closed_len 47 false bs) (1 + length (b ∷ bs)) (omega arith) (omega (arith, closed-le 47 false bs)))
    (λ f. token_within (1 + prefix_len is_run (b ∷ bs)) (1 + length (b ∷ bs)) (omega arith) (omega (arith, prefix_len-le-length is_run (b ∷ bs)))))

piece-within : (b : ℕ) (bs : List ℕ) → IsWithin (piece_at (b ∷ bs)) (1 + length bs)
unfolding piece_at
piece-within b bs = cond_both (is_blank b) _ _ (λ p. IsWithin p (1 + length bs))
    (λ e. blank_within 1 (1 + length bs) (omega arith) (omega arith))
    (λ e. cond_both (is_quote b) _ _ (λ p. IsWithin p (1 + length bs))
    (λ f. token_within (1 + quoted_len b bs) (1 + length bs) (omega arith) (omega (arith, quoted-le b bs)))
    (λ f. cond_both (eqb b 123) _ _ (λ p. IsWithin p (1 + length bs))
    (λ g. brace-within bs)
    (λ g. cond_both (is_mark b) _ _ (λ p. IsWithin p (1 + length bs))
    (λ h. one (length bs))
    (λ h. cond_both (eqb b 47) _ _ (λ p. IsWithin p (1 + length bs))
    (λ i. slash-within bs)
    (λ i. token_within (1 + prefix_len is_run bs) (1 + length bs) (omega arith) (omega (arith, prefix_len-le-length is_run bs)))))))

pub stil_cut : IsCut piece_at
unfolding piece_at
stil_cut = record { empty = refl; each = piece-within }

-- where the first quote stands, or none does
module _ (quote : ℕ) where
  pub found_at : (bs : List ℕ) (k : ℕ) → k < length bs → eqb (get_or bs k 0) quote ≡ true → ((j : ℕ) → 0 ≤ j → j < k → eqb (get_or bs j 0) quote ≡ true → ⊥) → k + 1 ≡ quoted_len quote bs
  found_at [] k lt here before = absurd (omega arith)
  found_at (b ∷ bs) zero lt here before =
      cond_both (eqb b quote) 1 (1 + quoted_len quote bs) (λ n. 0 + 1 ≡ n) (λ e. omega arith) (λ e. absurd (both_ways (eqb b quote) e here))
  found_at (b ∷ bs) (suc k) lt here before =
      cond_both (eqb b quote) 1 (1 + quoted_len quote bs) (λ n. suc k + 1 ≡ n) (λ e. absurd (before 0 (omega arith) (omega arith) e))
      (λ e. let h = found_at bs k (omega arith) here (λ j ge under is. before (suc j) (omega arith) (omega arith) is) in omega arith)

  pub found_nowhere : (bs : List ℕ) → ((j : ℕ) → 0 ≤ j → j < length bs → eqb (get_or bs j 0) quote ≡ true → ⊥) → length bs ≡ quoted_len quote bs
  found_nowhere [] none = refl
  found_nowhere (b ∷ bs) none =
      cond_both (eqb b quote) 1 (1 + quoted_len quote bs) (λ n. length (b ∷ bs) ≡ n)
      (λ e. absurd (none 0 (omega arith) (omega arith) e))
      (λ e. let h = found_nowhere bs (λ j ge under is. none (suc j) (omega arith) (omega arith) is) in omega arith)
