-- DEF's tokens at a seam: what stands behind a piece's end does not change the piece, where the new text begins with no blank.
use Rattle.std.proofs.Common.{◌≡◌, ℕ, suc, ◌+◌, ◌-◌, ◌<◌, ◌≤◌, Bool, true, false, cond, not, eqb, List, [], ◌∷◌, ◌++◌, length, take, get_or, refl, sym, ap, ◌∙◌, subst, inl, inr, arith, length-append, append_assoc, codes}
use Rattle.std.specs.Prelude.{nat_le}
use Rattle.std.specs.List.{prefix_len}
use Rattle.std.specs.Str.{bytes_eq}
use Rattle.std.proofs.lemmas.Bool.{cases_lt, and_parts}
use Rattle.std.proofs.lemmas.Bool.Decides.{nat_tests}
use Rattle.std.proofs.lemmas.List.{take-append-le, take_at, get_or-append-add}
use Rattle.token_forms.specs.declared.piece.Piece.TheVariants.{Blank, Token}
use Rattle.token_forms.proofs.Spelled.{choose}
use Rattle.token_forms.proofs.Fronts.{IsSeamForm}
use Rattle.def_tokens.specs.DefTokens.{is_blank, is_black, len_with, has_end, run_piece, piece_at}
use Rattle.def_tokens.specs.DefSplit.{goes_on}
use Rattle.def_tokens.proofs.DefPieces.{def_cut}

-- new texts begin with no blank
abbrev pub Starts : List ℕ → Type 0
Starts z = goes_on z ≡ true

-- a text with any bytes decides the tokens that end in it
abbrev pub Hard : List ℕ → Type 0
Hard x = Unit {0}

-- a token begins with no blank
pub token_black : (z : List ℕ) (n : ℕ) → piece_at z ≡ Token n → goes_on z ≡ true
unfolding piece_at
token_black [] n e = absurd cc
token_black (b ∷ bs) n e = choose (is_blank b) _ _ _ e (λ t k. absurd cc) (λ t k. rw t refl)

-- a run that ends within bs
inside : (p : ℕ → Bool) (bs y z : List ℕ) → prefix_len p (bs ++ y) < length bs → prefix_len p (bs ++ z) ≡ prefix_len p (bs ++ y)
inside p [] y z lt = absurd (omega arith)
inside p (b ∷ bs) y z lt =
    let cases : (t : Bool) → cond t (1 + prefix_len p (bs ++ y)) 0 < suc (length bs) → cond t (1 + prefix_len p (bs ++ z)) 0 ≡ cond t (1 + prefix_len p (bs ++ y)) 0
    = λ t. elim t as (λ t. cond t (1 + prefix_len p (bs ++ y)) 0 < suc (length bs) → cond t (1 + prefix_len p (bs ++ z)) 0 ≡ cond t (1 + prefix_len p (bs ++ y)) 0) [
      | true ↦ λ l. ap (λ (n : ℕ). 1 + n) (inside p bs y z (omega arith))
      | false ↦ λ l. refl
    ]
    in cases (p b) lt

-- a run that neither text behind goes on with
none_behind : (p : ℕ → Bool) (bs y z : List ℕ) → prefix_len p y ≡ 0 → prefix_len p z ≡ 0 → prefix_len p (bs ++ z) ≡ prefix_len p (bs ++ y)
none_behind p [] y z ny nz = nz ∙ sym ny
none_behind p (b ∷ bs) y z ny nz = ap (λ (n : ℕ). cond (p b) (1 + n) 0) (none_behind p bs y z ny nz)

-- a run over all of bs goes on where the byte behind does
over : (p : ℕ → Bool) (bs : List ℕ) (c : ℕ) (cs : List ℕ) → p c ≡ true → length bs ≤ prefix_len p (bs ++ c ∷ cs) → prefix_len p (bs ++ c ∷ cs) ≡ length bs + 1 + prefix_len p cs
over p [] c cs passes le = rw passes (omega arith)
over p (b ∷ bs) c cs passes le =
    let cases : (t : Bool) → suc (length bs) ≤ cond t (1 + prefix_len p (bs ++ c ∷ cs)) 0 → cond t (1 + prefix_len p (bs ++ c ∷ cs)) 0 ≡ suc (length bs) + 1 + prefix_len p cs
    = λ t. elim t as (λ t. suc (length bs) ≤ cond t (1 + prefix_len p (bs ++ c ∷ cs)) 0 → cond t (1 + prefix_len p (bs ++ c ∷ cs)) 0 ≡ suc (length bs) + 1 + prefix_len p cs) [
      | true ↦ λ l. let r = over p bs c cs passes (omega arith) in omega arith
      | false ↦ λ l. absurd (omega arith)
    ]
    in cases (p b) le

-- a comment or a text in quotes that ends within bs or with it
with_inside : (c : ℕ) (bs y z : List ℕ) → goes_on y ≡ true → len_with c (bs ++ y) ≤ length bs → len_with c (bs ++ z) ≡ len_with c (bs ++ y)
with_inside c bs [] z starts le = absurd cc
with_inside c bs (d ∷ y) z starts le =
    let q = λ (b : ℕ). not (eqb b c) in
    let l = length-append bs (d ∷ y) in
    let m = length-append bs z in
    let same = inside q bs (d ∷ y) z (omega arith) in
    omega arith

blank_none : (z : List ℕ) → goes_on z ≡ true → prefix_len is_blank z ≡ 0
blank_none [] e = refl
blank_none (b ∷ bs) e = stop (is_blank b) e
  where
    stop : (t : Bool) → not t ≡ true → cond t (1 + prefix_len is_blank bs) 0 ≡ 0
    stop true e = absurd cc
    stop false e = refl

blank_seam : (b : ℕ) (bs y z : List ℕ) (n m : ℕ) → piece_at y ≡ Token m → Starts z → piece_at (b ∷ bs ++ y) ≡ Blank n → n ≤ suc (length bs) → piece_at (b ∷ bs ++ z) ≡ Blank n
unfolding piece_at
blank_seam b bs y z n m token starts is le =
    let black = token_black y m token in
    choose (is_blank b) (Blank (1 + prefix_len is_blank (bs ++ y))) _ (Blank n) is
    (λ e f. let size : 1 + prefix_len is_blank (bs ++ y) ≡ n = cc in let same = none_behind is_blank bs y z (blank_none y black) (blank_none z starts) in rw (e, same, size) refl)
    (λ white f. choose (eqb b 35) (Blank (1 + len_with 10 (bs ++ y))) _ (Blank n) f
    (λ e g. let size : 1 + len_with 10 (bs ++ y) ≡ n = cc in let same = with_inside 10 bs y z black (omega arith) in rw (white, e, same, size) refl)
    (λ plain g. choose (eqb b 34) (Token (1 + len_with 34 (bs ++ y))) _ (Blank n) g (λ e t. absurd cc)
    (λ free h. choose (has_end (take (prefix_len is_black (bs ++ y) + 1) (b ∷ bs ++ y))) (Token (prefix_len is_black (bs ++ y))) _ (Blank n) h (λ e t. absurd cc) (λ e t. absurd cc))))

-- a run that ends before the seam
run_seam : (b : ℕ) (bs y z : List ℕ) (n : ℕ) → goes_on y ≡ true → is_blank b ≡ false → eqb b 35 ≡ false → eqb b 34 ≡ false → run_piece (b ∷ bs ++ y) (prefix_len is_black (bs ++ y)) ≡ Token n → n < suc (length bs) → piece_at (b ∷ bs ++ z) ≡ Token n
unfolding piece_at
run_seam b bs [] z n starts white plain free is lt = absurd cc
run_seam b bs (c ∷ cs) z n starts white plain free is lt =
    let k = prefix_len is_black (bs ++ c ∷ cs) in
    let below : k ≤ n = choose (has_end (take (k + 1) (b ∷ bs ++ c ∷ cs))) (Token k) (Token (k + 1)) (Token n) is (λ e t. let same : k ≡ n = cc in omega arith) (λ e t. let same : k + 1 ≡ n = cc in omega arith) in
    let within : k < length bs = elim (cases_lt k (length bs)) [ inl lt ↦ lt | inr ge ↦ let far = over is_black bs c cs starts ge in absurd (omega arith) ] in
    let same = inside is_black bs (c ∷ cs) z within in
    let front : take (k + 1) (b ∷ bs ++ z) ≡ take (k + 1) (b ∷ bs ++ c ∷ cs) = take-append-le (k + 1) (b ∷ bs) z (omega arith) ∙ sym (take-append-le (k + 1) (b ∷ bs) (c ∷ cs) (omega arith)) in
    rw (white, plain, free, same, front) is

token_seam : (b : ℕ) (bs y z : List ℕ) (n m : ℕ) → Hard (b ∷ bs) → piece_at y ≡ Token m → Starts z → piece_at (b ∷ bs ++ y) ≡ Token n → n < suc (length bs) → piece_at (b ∷ bs ++ z) ≡ Token n
unfolding piece_at
token_seam b bs y z n m hard token starts is lt =
    let black = token_black y m token in
    choose (is_blank b) (Blank (1 + prefix_len is_blank (bs ++ y))) _ (Token n) is (λ e f. absurd cc)
    (λ white f. choose (eqb b 35) (Blank (1 + len_with 10 (bs ++ y))) _ (Token n) f (λ e g. absurd cc)
    (λ plain g. choose (eqb b 34) (Token (1 + len_with 34 (bs ++ y))) (run_piece (b ∷ bs ++ y) (prefix_len is_black (bs ++ y))) (Token n) g
    (λ e t. let size : 1 + len_with 34 (bs ++ y) ≡ n = cc in let same = with_inside 34 bs y z black (omega arith) in rw (white, plain, e, same, size) refl)
    (λ free h. run_seam b bs y z n black white plain free h lt)))

pub def_form : IsSeamForm piece_at Starts Hard
def_form = record { cut = def_cut; more = λ b x h. tt; blank = blank_seam; token = token_seam }

-- the last byte of a run with an end
pub last_is : (x : List ℕ) (c : ℕ) → has_end (x ++ c ∷ []) ≡ true → c ≡ 59
last_is x c end =
    let l = length-append x (c ∷ []) in
    let at : length (x ++ c ∷ []) - 1 ≡ length x + 0 = omega arith in
    let parts = and_parts (nat_le 2 (length (x ++ c ∷ []))) _ end in
    let semi = (and_parts (eqb (get_or (x ++ c ∷ []) (length (x ++ c ∷ []) - 1) 0) 59) _ parts.1).0 in
    let here : eqb c 59 ≡ true = rw (at, get_or-append-add x (c ∷ []) 0 0) at semi in
    grind (arith, nat_tests)

pub alone : (cs : List ℕ) (m : ℕ) → prefix_len is_black cs ≡ 0 → piece_at (59 ∷ cs) ≡ Token m → bytes_eq (take m (59 ∷ cs)) (codes ";") ≡ true
unfolding piece_at
alone cs m none is =
    let one : Token 1 ≡ Token m = rw none at is in
    let size : 1 ≡ m = cc in
    subst (λ (m : ℕ). bytes_eq (take m (59 ∷ cs)) (codes ";") ≡ true) size refl

-- a run that ends at the seam is one of which a semicolon was cut off
no_run : (b : ℕ) (bs : List ℕ) (c : ℕ) (cs : List ℕ) (m : ℕ) → is_black c ≡ true → piece_at (c ∷ cs) ≡ Token m → bytes_eq (take m (c ∷ cs)) (codes ";") ≡ false
    → run_piece (b ∷ bs ++ c ∷ cs) (prefix_len is_black (bs ++ c ∷ cs)) ≡ Token (suc (length bs)) → ⊥
no_run b bs c cs m black token firm is =
    let k = prefix_len is_black (bs ++ c ∷ cs) in
    let n = suc (length bs) in
    choose (has_end (take (k + 1) (b ∷ bs ++ c ∷ cs))) (Token k) (Token (k + 1)) (Token n) is
    (λ end t.
    let size : k ≡ n = cc in
    let far = over is_black bs c cs black (omega arith) in
    let none : prefix_len is_black cs ≡ 0 = omega arith in
    let l = length-append bs (c ∷ []) in
    let cut : take (k + 1) (b ∷ bs ++ c ∷ cs) ≡ b ∷ bs ++ c ∷ [] = ap (λ (x : List ℕ). take (k + 1) (b ∷ x)) (sym (append_assoc bs (c ∷ []) cs)) ∙ take_at (b ∷ bs ++ c ∷ []) cs (k + 1) (omega arith) in
    let semi : c ≡ 59 = last_is (b ∷ bs) c (rw cut at end) in
    let token' : piece_at (59 ∷ cs) ≡ Token m = rw semi at token in
    let firm' : bytes_eq (take m (59 ∷ cs)) (codes ";") ≡ false = rw semi at firm in
    let is' = alone cs m none token' in
    absurd cc)
    (λ no t. let size : k + 1 ≡ n = cc in let far = over is_black bs c cs black (omega arith) in absurd (omega arith))

-- a token that ends at the seam, where no semicolon was cut off it, is a text in quotes, whatever follows
pub adjacent : (b : ℕ) (bs y z : List ℕ) (m : ℕ) → piece_at y ≡ Token m → bytes_eq (take m y) (codes ";") ≡ false → piece_at (b ∷ bs ++ y) ≡ Token (suc (length bs)) → piece_at (b ∷ bs ++ z) ≡ Token (suc (length bs))
unfolding piece_at
adjacent b bs [] z m token firm is = absurd cc
adjacent b bs (c ∷ cs) z m token firm is =
    let black = token_black (c ∷ cs) m token in
    choose (is_blank b) (Blank (1 + prefix_len is_blank (bs ++ c ∷ cs))) _ (Token (suc (length bs))) is (λ e f. absurd cc)
    (λ white f. choose (eqb b 35) (Blank (1 + len_with 10 (bs ++ c ∷ cs))) _ (Token (suc (length bs))) f (λ e g. absurd cc)
    (λ plain g. choose (eqb b 34) (Token (1 + len_with 34 (bs ++ c ∷ cs))) (run_piece (b ∷ bs ++ c ∷ cs) (prefix_len is_black (bs ++ c ∷ cs))) (Token (suc (length bs))) g
    (λ e t. let size : 1 + len_with 34 (bs ++ c ∷ cs) ≡ suc (length bs) = cc in let same = with_inside 34 bs (c ∷ cs) z black (omega arith) in rw (white, plain, e, same, size) refl)
    (λ free h. absurd (no_run b bs c cs m black token firm h))))
