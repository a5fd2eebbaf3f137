-- A piece of a STIL text that ends before the last of some bytes doesn't hang on what stands behind these.
use Rattle.std.proofs.Common.{◌≡◌, ℕ, suc, ◌+◌, ◌<◌, Bool, true, false, cond, eqb, ◌&&◌, not, List, [], ◌∷◌, ◌++◌, length, refl, ap, arith}
use Rattle.std.specs.List.{prefix_len}
use Rattle.token_forms.specs.declared.piece.Piece.{Piece}
use Rattle.token_forms.specs.declared.piece.Piece.TheVariants.{Blank, Token}
use Rattle.token_forms.specs.Pieces.{piece_len}
use Rattle.stil_tokens.specs.StilTokens.{is_blank, is_quote, is_mark, is_run, quoted_len, closed_len, brace_piece, slash_piece, piece_at}
use Rattle.stil_tokens.proofs.StilPieces.{stil_cut}

-- counts that end within
step_stays : (t : Bool) (m n k : ℕ) → cond t 1 (1 + m) < suc k → (m < k → n ≡ m) → cond t 1 (1 + n) ≡ cond t 1 (1 + m)
step_stays true m n k h more = refl
step_stays false m n k h more = ap (λ (i : ℕ). 1 + i) (more (omega arith))

pub quoted_stays : (quote : ℕ) (x y z : List ℕ) → quoted_len quote (x ++ y) < length x → quoted_len quote (x ++ z) ≡ quoted_len quote (x ++ y)
quoted_stays quote [] y z h = absurd (omega arith)
quoted_stays quote (b ∷ x) y z h = step_stays (eqb b quote) _ _ (length x) h (quoted_stays quote x y z)

pub closed_stays : (closing : ℕ) (star : Bool) (x y z : List ℕ) → closed_len closing star (x ++ y) < length x → closed_len closing star (x ++ z) ≡ closed_len closing star (x ++ y)
closed_stays closing star [] y z h = absurd (omega arith)
closed_stays closing star (b ∷ x) y z h = step_stays (star && eqb b closing) _ _ (length x) h (closed_stays closing (eqb b 42) x y z)

prefix_step : (t : Bool) (m n k : ℕ) → cond t (1 + m) 0 < suc k → (m < k → n ≡ m) → cond t (1 + n) 0 ≡ cond t (1 + m) 0
prefix_step true m n k h more = ap (λ (i : ℕ). 1 + i) (more (omega arith))
prefix_step false m n k h more = refl

pub prefix_stays : (t : ℕ → Bool) (x y z : List ℕ) → prefix_len t (x ++ y) < length x → prefix_len t (x ++ z) ≡ prefix_len t (x ++ y)
prefix_stays t [] y z h = absurd (omega arith)
prefix_stays t (b ∷ x) y z h = prefix_step (t b) _ _ (length x) h (prefix_stays t x y z)

either : (t : Bool) (n : ℕ) (p q u v : Piece) → (piece_len p < n → u ≡ p) → (piece_len q < n → v ≡ q) → piece_len (cond t p q) < n → cond t u v ≡ cond t p q
either true n p q u v f g h = f h
either false n p q u v f g h = g h

module _ (c : ℕ) (x y z : List ℕ) where
  brace_stays : piece_len (brace_piece (c ∷ x ++ y)) < suc (suc (length x)) → brace_piece (c ∷ x ++ z) ≡ brace_piece (c ∷ x ++ y)
  unfolding brace_piece
  brace_stays h = either (eqb c 42) (suc (suc (length x))) _ _ _ _ (λ l. ap (λ (i : ℕ). Token (2 + i)) (closed_stays 125 false x y z (omega arith))) (λ l. refl) h

  slash_stays : piece_len (slash_piece (c ∷ x ++ y)) < suc (suc (length x)) → slash_piece (c ∷ x ++ z) ≡ slash_piece (c ∷ x ++ y)
  unfolding slash_piece
  slash_stays h =
      either (eqb c 47) (suc (suc (length x))) _ _ _ _ (λ l. ap (λ (i : ℕ). Blank (2 + i)) (prefix_stays (λ b. not (eqb b 10)) x y z (omega arith)))
      (either (eqb c 42) (suc (suc (length x))) _ _ _ _ (λ l. ap (λ (i : ℕ). Blank (2 + i)) (closed_stays 47 false x y z (omega arith)))
      (λ l. ap (λ (i : ℕ). Token (1 + i)) (prefix_stays is_run (c ∷ x) y z (omega arith)))) h

  two_stays : (b : ℕ) → piece_len (piece_at (b ∷ c ∷ x ++ y)) < suc (suc (length x)) → piece_at (b ∷ c ∷ x ++ z) ≡ piece_at (b ∷ c ∷ x ++ y)
  unfolding piece_at
  two_stays b h =
      either (is_blank b) (suc (suc (length x))) _ _ _ _ (λ l. refl)
      (either (is_quote b) (suc (suc (length x))) _ _ _ _ (λ l. ap (λ (i : ℕ). Token (1 + i)) (quoted_stays b (c ∷ x) y z (omega arith)))
      (either (eqb b 123) (suc (suc (length x))) _ _ _ _ brace_stays
      (either (is_mark b) (suc (suc (length x))) _ _ _ _ (λ l. refl)
      (either (eqb b 47) (suc (suc (length x))) _ _ _ _ slash_stays
      (λ l. ap (λ (i : ℕ). Token (1 + i)) (prefix_stays is_run (c ∷ x) y z (omega arith))))))) h

pub piece_stays : (x y z : List ℕ) → piece_len (piece_at (x ++ y)) < length x → piece_at (x ++ z) ≡ piece_at (x ++ y)
piece_stays [] y z h = absurd (omega arith)
piece_stays (b ∷ []) y z h = absurd (let w = stil_cut.each b y in omega (arith, w.some))
piece_stays (b ∷ c ∷ x) y z h = two_stays c x y z b h
