-- A piece that goes to the end of some bytes is the same where nothing stands behind them.
use Rattle.std.proofs.Common.{◌≡◌, ℕ, suc, ◌+◌, ◌<◌, Bool, true, false, cond, eqb, ◌&&◌, not, List, [], ◌∷◌, ◌++◌, length, refl, sym, ap, ◌∙◌, arith, append_assoc, length-append}
use Rattle.std.specs.List.{prefix_len}
use Rattle.std.proofs.lemmas.List.{append-nil}
use Rattle.token_forms.specs.declared.piece.Piece.{Piece}
use Rattle.token_forms.specs.declared.piece.Piece.TheVariants.{Blank, Token}
use Rattle.token_forms.specs.Pieces.{piece_len}
use Rattle.stil_tokens.specs.StilTokens.{is_blank, is_quote, is_mark, is_run, quoted_len, closed_len, line_len, brace_piece, slash_piece, piece_at}
use Rattle.stil_writer.proofs.Lays.{bytes_in, len_for, AreLaid}
use Rattle.stil_writer.proofs.Pieces.{piece_stays}
use Rattle.pattern_laws.proofs.Cuts.{Pieces}

step_cut : (t : Bool) (m n k : ℕ) → cond t 1 (1 + m) ≡ suc k → (m ≡ k → n ≡ m) → cond t 1 (1 + n) ≡ cond t 1 (1 + m)
step_cut true m n k h more = refl
step_cut false m n k h more = ap (λ (i : ℕ). 1 + i) (more (omega (arith, h)))

quoted_cut : (quote : ℕ) (x y : List ℕ) → quoted_len quote (x ++ y) ≡ length x → quoted_len quote x ≡ quoted_len quote (x ++ y)
quoted_cut quote [] y h = sym h
quoted_cut quote (b ∷ x) y h = step_cut (eqb b quote) _ _ (length x) h (quoted_cut quote x y)

closed_cut : (closing : ℕ) (star : Bool) (x y : List ℕ) → closed_len closing star (x ++ y) ≡ length x → closed_len closing star x ≡ closed_len closing star (x ++ y)
closed_cut closing star [] y h = sym h
closed_cut closing star (b ∷ x) y h = step_cut (star && eqb b closing) _ _ (length x) h (closed_cut closing (eqb b 42) x y)

prefix_step : (t : Bool) (m n k : ℕ) → cond t (1 + m) 0 ≡ suc k → (m ≡ k → n ≡ m) → cond t (1 + n) 0 ≡ cond t (1 + m) 0
prefix_step true m n k h more = ap (λ (i : ℕ). 1 + i) (more (omega (arith, h)))
prefix_step false m n k h more = refl

prefix_cut : (t : ℕ → Bool) (x y : List ℕ) → prefix_len t (x ++ y) ≡ length x → prefix_len t x ≡ prefix_len t (x ++ y)
prefix_cut t [] y h = sym h
prefix_cut t (b ∷ x) y h = prefix_step (t b) _ _ (length x) h (prefix_cut t x y)

either : (t : Bool) (n : ℕ) (p q u v : Piece) → (piece_len p ≡ n → u ≡ p) → (piece_len q ≡ n → v ≡ q) → piece_len (cond t p q) ≡ n → cond t u v ≡ cond t p q
either true n p q u v f g h = f h
either false n p q u v f g h = g h

module _ (c : ℕ) (x y : List ℕ) where
  brace_cut : piece_len (brace_piece (c ∷ x ++ y)) ≡ suc (suc (length x)) → brace_piece (c ∷ x) ≡ brace_piece (c ∷ x ++ y)
  unfolding brace_piece
  brace_cut h = either (eqb c 42) (suc (suc (length x))) _ _ _ _ (λ l. ap (λ (i : ℕ). Token (2 + i)) (closed_cut 125 false x y (omega (arith, l)))) (λ l. refl) h

  slash_cut : piece_len (slash_piece (c ∷ x ++ y)) ≡ suc (suc (length x)) → slash_piece (c ∷ x) ≡ slash_piece (c ∷ x ++ y)
  unfolding slash_piece
  slash_cut h =
      either (eqb c 47) (suc (suc (length x))) _ _ _ _ (λ l. ap (λ (i : ℕ). Blank (2 + i)) (prefix_cut (λ b. not (eqb b 10)) x y (omega (arith, l))))
      (either (eqb c 42) (suc (suc (length x))) _ _ _ _ (λ l. ap (λ (i : ℕ). Blank (2 + i)) (closed_cut 47 false x y (omega (arith, l))))
      (λ l. ap (λ (i : ℕ). Token (1 + i)) (prefix_cut is_run (c ∷ x) y (omega (arith, l))))) h

  two_cut : (b : ℕ) → piece_len (piece_at (b ∷ c ∷ x ++ y)) ≡ suc (suc (length x)) → piece_at (b ∷ c ∷ x) ≡ piece_at (b ∷ c ∷ x ++ y)
  unfolding piece_at
  two_cut b h =
      either (is_blank b) (suc (suc (length x))) _ _ _ _ (λ l. refl)
      (either (is_quote b) (suc (suc (length x))) _ _ _ _ (λ l. ap (λ (i : ℕ). Token (1 + i)) (quoted_cut b (c ∷ x) y (omega (arith, l))))
      (either (eqb b 123) (suc (suc (length x))) _ _ _ _ brace_cut
      (either (is_mark b) (suc (suc (length x))) _ _ _ _ (λ l. refl)
      (either (eqb b 47) (suc (suc (length x))) _ _ _ _ slash_cut
      (λ l. ap (λ (i : ℕ). Token (1 + i)) (prefix_cut is_run (c ∷ x) y (omega (arith, l)))))))) h

same_both : (t : Bool) (p : Piece) → p ≡ cond t p p
same_both true p = refl
same_both false p = refl

brace_one : (y : List ℕ) → piece_len (brace_piece y) ≡ 1 → brace_piece [] ≡ brace_piece y
unfolding brace_piece
brace_one [] h = refl
brace_one (c ∷ y) h = same_both (eqb c 42) (Token 1) ∙ either (eqb c 42) 1 (Token (2 + closed_len 125 false y)) (Token 1) (Token 1) (Token 1) (λ l. absurd (omega (arith, l))) (λ l. refl) h

slash_one : (y : List ℕ) → piece_len (slash_piece y) ≡ 1 → slash_piece [] ≡ slash_piece y
unfolding slash_piece
slash_one [] h = refl
slash_one (c ∷ y) h =
    same_both (eqb c 47) (Token 1)
    ∙ either (eqb c 47) 1 (Blank (2 + line_len y)) (cond (eqb c 42) (Blank (2 + closed_len 47 false y)) (Token (1 + prefix_len is_run (c ∷ y)))) (Token 1) (Token 1) (λ l. absurd (omega (arith, l)))
    (λ l. same_both (eqb c 42) (Token 1)
    ∙ either (eqb c 42) 1 (Blank (2 + closed_len 47 false y)) (Token (1 + prefix_len is_run (c ∷ y))) (Token 1) (Token 1) (λ m. absurd (omega (arith, m)))
    (λ m. let k : 0 ≡ prefix_len is_run (c ∷ y) = omega (arith, m) in ap (λ (i : ℕ). Token (1 + i)) k) l) h

one_cut : (b : ℕ) (y : List ℕ) → piece_len (piece_at (b ∷ y)) ≡ 1 → piece_at (b ∷ []) ≡ piece_at (b ∷ y)
unfolding piece_at
one_cut b y h =
    either (is_blank b) 1 _ _ _ _ (λ l. refl)
    (either (is_quote b) 1 _ _ _ _ (λ l. ap (λ (i : ℕ). Token (1 + i)) (quoted_cut b [] y (omega (arith, l))))
    (either (eqb b 123) 1 _ _ _ _ (brace_one y)
    (either (is_mark b) 1 _ _ _ _ (λ l. refl)
    (either (eqb b 47) 1 _ _ _ _ (slash_one y)
    (λ l. ap (λ (i : ℕ). Token (1 + i)) (prefix_cut is_run [] y (omega (arith, l)))))))) h

pub piece_cut : (x y : List ℕ) → 0 < length x → piece_len (piece_at (x ++ y)) ≡ length x → piece_at x ≡ piece_at (x ++ y)
piece_cut [] y some h = absurd (omega arith)
piece_cut (b ∷ []) y some h = one_cut b y h
piece_cut (b ∷ c ∷ x) y some h = two_cut c x y b h

-- pieces stand alone too
pub laid_alone : (ps : Pieces) (y : List ℕ) → AreLaid y ps → AreLaid [] ps
laid_alone [] y a = tt
laid_alone (p ∷ []) y a =
    let len : piece_len (piece_at (p.1 ++ y)) ≡ length p.1 = ap piece_len a.1 ∙ len_for p.0 (length p.1) in
    (a.0, ap piece_at (append-nil p.1) ∙ piece_cut p.1 y a.0 len ∙ a.1, tt)
laid_alone (p ∷ q ∷ qs) y a =
    let ps = q ∷ qs in
    let x = p.1 ++ bytes_in ps in
    let to : (v : List ℕ) → p.1 ++ (bytes_in ps ++ v) ≡ x ++ v = λ v. sym (append_assoc p.1 (bytes_in ps) v) in
    let len : piece_len (piece_at (x ++ y)) ≡ length p.1 = ap (λ (l : List ℕ). piece_len (piece_at l)) (sym (to y)) ∙ ap piece_len a.1 ∙ len_for p.0 (length p.1) in
    let short : piece_len (piece_at (x ++ y)) < length x = omega (arith, len, a.2.0, length-append p.1 (bytes_in ps), length-append q.1 (bytes_in qs)) in
    (a.0, ap piece_at (to []) ∙ piece_stays x y [] short ∙ ap piece_at (sym (to y)) ∙ a.1, laid_alone (q ∷ qs) y a.2)
