-- The tokens of words that blanks part.
use Rattle.std.proofs.Common.{◌≡◌, ℕ, suc, ◌+◌, Bool, true, false, cond, not, ◌&&◌, ◌||◌, eqb, min, List, [], ◌∷◌, ◌++◌, length, take, drop, refl, sym, ap, ◌∙◌, subst, arith, length-append, append_assoc}
use Rattle.std.specs.List.{prefix_len, list_all}
use Rattle.std.proofs.lemmas.Bool.Decides.{nat_tests}
use Rattle.std.proofs.lemmas.List.{take_at, drop_at}
use Rattle.std.proofs.lemmas.List.Folds.{prefix_len-append}
use Rattle.std.proofs.lemmas.Bool.{and_parts, not-true}
use Rattle.token_forms.specs.declared.piece.Piece.TheVariants.{Blank, Token}
use Rattle.token_forms.proofs.Fronts.{texts-step}
use Rattle.def_tokens.specs.DefTokens.{is_blank, is_black, has_end, piece_at}
use Rattle.def_tokens.specs.DefSplit.{begins_run, goes_on}
use Rattle.def_tokens.proofs.DefPieces.{def_cut}
use Rattle.def_layout.specs.Words.{texts, spaced, is_quoted, is_run, is_whole, HasWords, JoinedLaw}

-- a text whose first piece is a token of its own
pub one_token : (w z : List ℕ) (n : ℕ) → n ≡ length w → piece_at (w ++ z) ≡ Token n → texts (w ++ z) ≡ w ∷ texts z
one_token w z n size is =
    texts-step piece_at (w ++ z) (Token n) def_cut is
    ∙ ap (λ (x : List ℕ). x ∷ texts (drop n (w ++ z))) (take_at w z n (sym size))
    ∙ ap (λ (r : List ℕ). w ∷ texts r) (drop_at w z n (sym size))

pub run_over : (p : ℕ → Bool) (bs z : List ℕ) → list_all p bs ≡ true → prefix_len p z ≡ 0 → prefix_len p (bs ++ z) ≡ length bs
run_over p [] z all none = none
run_over p (b ∷ bs) z all none =
    let cases : (t : Bool) → (t && list_all p bs) ≡ true → cond t (1 + prefix_len p (bs ++ z)) 0 ≡ suc (length bs)
    = λ t. elim t as (λ t. (t && list_all p bs) ≡ true → cond t (1 + prefix_len p (bs ++ z)) 0 ≡ suc (length bs)) [
      | true ↦ λ e. let r = run_over p bs z e none in omega arith
      | false ↦ λ e. absurd cc
    ]
    in cases (p b) all

-- no byte goes on where a blank or the end stands
pub none_black : (z : List ℕ) → goes_on z ≡ false → prefix_len is_black z ≡ 0
none_black [] e = refl
none_black (b ∷ bs) e = rw e refl

-- a text in quotes ends with its quote, whatever stands behind it
quoted_piece : (bs z : List ℕ) → eqb (prefix_len (λ c. not (eqb c 34)) bs + 1) (length bs) ≡ true → piece_at (34 ∷ bs ++ z) ≡ Token (suc (length bs))
unfolding piece_at
quoted_piece bs z e =
    let n : prefix_len (λ c. not (eqb c 34)) bs + 1 ≡ length bs = grind (arith, nat_tests) in
    let l = length-append bs z in
    let short : eqb (prefix_len (λ c. not (eqb c 34)) bs) (length bs) ≡ false = grind (arith, nat_tests) in
    let a : prefix_len (λ c. not (eqb c 34)) (bs ++ z) ≡ prefix_len (λ c. not (eqb c 34)) bs = prefix_len-append (λ c. not (eqb c 34)) bs z ∙ rw short refl in
    let k : 1 + min (prefix_len (λ c. not (eqb c 34)) bs + 1) (length (bs ++ z)) ≡ suc (length bs) = omega arith in
    rw a (ap (λ (m : ℕ). Token m) k)

pub none_of : (a b c : Bool) → not (a || (b || c)) ≡ true → (a ≡ false) × (b ≡ false) × (c ≡ false)
none_of true b c e = absurd cc
none_of false true c e = absurd cc
none_of false false true e = absurd cc
none_of false false false e = (refl, refl, refl)

run_piece_is : (b : ℕ) (bs z : List ℕ) → begins_run (b ∷ bs) ≡ true → list_all is_black (b ∷ bs) ≡ true → has_end (b ∷ bs) ≡ false → goes_on z ≡ false → piece_at (b ∷ bs ++ z) ≡ Token (suc (length bs))
unfolding piece_at
run_piece_is b bs z begins black no_end free =
    let o = none_of (is_blank b) (eqb b 35) (eqb b 34) begins in
    let r = run_over is_black bs z (and_parts (is_black b) (list_all is_black bs) black).1 (none_black z free) in
    let t : take (length bs + 1) (b ∷ bs ++ z) ≡ b ∷ bs = take_at (b ∷ bs) z (length bs + 1) (omega arith) in
    let k : length bs + 1 ≡ suc (length bs) = omega arith in
    rw (o.0, o.1, o.2, r, t, no_end, k) refl

pub or_cases : {P : Type 0} (a b : Bool) → (a || b) ≡ true → (a ≡ true → P) → (b ≡ true → P) → P
or_cases true b e f g = f refl
or_cases false b e f g = g e

-- a whole word is a token before whatever doesn't go on with it
pub whole_texts : (w z : List ℕ) → is_whole w ≡ true → goes_on z ≡ false → texts (w ++ z) ≡ w ∷ texts z
whole_texts [] z whole free = absurd cc
whole_texts (b ∷ bs) z whole free =
    or_cases (is_quoted (b ∷ bs)) (is_run (b ∷ bs) && not (has_end (b ∷ bs))) whole
    (λ e.
    let q = and_parts (eqb b 34) (eqb (prefix_len (λ c. not (eqb c 34)) bs + 1) (length bs)) e in
    let is : b ≡ 34 = grind (arith, nat_tests) in
    subst (λ (b : ℕ). texts (b ∷ bs ++ z) ≡ (b ∷ bs) ∷ texts z) (sym is) (one_token (34 ∷ bs) z (suc (length bs)) refl (quoted_piece bs z q.1)))
    (λ e.
    let q = and_parts (is_run (b ∷ bs)) (not (has_end (b ∷ bs))) e in
    let r = and_parts (begins_run (b ∷ bs)) (list_all is_black (b ∷ bs)) q.0 in
    one_token (b ∷ bs) z (suc (length bs)) refl (run_piece_is b bs z r.0 r.1 (not-true _ q.1) free))

-- blanks before a text change nothing
skip_blanks : (z : List ℕ) → texts (drop (prefix_len is_blank z) z) ≡ texts z
unfolding piece_at
skip_blanks [] = refl
skip_blanks (b ∷ bs) =
    let cases : (t : Bool) → is_blank b ≡ t → texts (drop (prefix_len is_blank (b ∷ bs)) (b ∷ bs)) ≡ texts (b ∷ bs)
    = λ t. elim t as (λ t. is_blank b ≡ t → texts (drop (prefix_len is_blank (b ∷ bs)) (b ∷ bs)) ≡ texts (b ∷ bs)) [
      | true ↦ λ e.
          let p : piece_at (b ∷ bs) ≡ Blank (1 + prefix_len is_blank bs) = rw e refl in
          rw e (sym (texts-step piece_at (b ∷ bs) (Blank (1 + prefix_len is_blank bs)) def_cut p))
      | false ↦ λ e. rw e refl
    ]
    in cases (is_blank b) refl

pub blank_texts : (b : ℕ) (z : List ℕ) → is_blank b ≡ true → texts (b ∷ z) ≡ texts z
unfolding piece_at
blank_texts b z e =
    let p : piece_at (b ∷ z) ≡ Blank (1 + prefix_len is_blank z) = rw e refl in
    let d : drop (1 + prefix_len is_blank z) (b ∷ z) ≡ drop (prefix_len is_blank z) z = ap (λ (n : ℕ). drop n (b ∷ z)) (the (1 + prefix_len is_blank z) (suc (prefix_len is_blank z)) (omega arith)) in
    texts-step piece_at (b ∷ z) (Blank (1 + prefix_len is_blank z)) def_cut p ∙ ap texts d ∙ skip_blanks z
  where
    the : (m n : ℕ) → m ≡ n → m ≡ n
    the m n e = e

-- words that stand behind each other
pub words_behind : (x y : List ℕ) (ws vs : List (List ℕ)) → ((z : List ℕ) → goes_on (y ++ z) ≡ false) → HasWords x ws → HasWords y vs → HasWords (x ++ y) (ws ++ vs)
words_behind x y ws vs parted f g = record {
  goes = λ z free.
      ap texts (append_assoc x y z) ∙ f.goes (y ++ z) (parted z) ∙ ap (λ (l : List (List ℕ)). ws ++ l) (g.goes z free) ∙ sym (append_assoc ws vs (texts z));
}

pub no_words : HasWords [] []
no_words = record { goes = λ z free. refl }

pub one_word : (w : List ℕ) → is_whole w ≡ true → HasWords w (w ∷ [])
one_word w whole = record { goes = λ z free. whole_texts w z whole free }

-- a blank before words
pub blank_words : (b : ℕ) (x : List ℕ) (ws : List (List ℕ)) → is_blank b ≡ true → HasWords x ws → HasWords (b ∷ x) ws
blank_words b x ws e f = record { goes = λ z free. blank_texts b (x ++ z) e ∙ f.goes z free }

-- words with a blank before each
pub spaced_words : (ws : List (List ℕ)) → list_all is_whole ws ≡ true → HasWords (spaced ws) ws
spaced_words [] all = no_words
spaced_words (w ∷ ws) all =
    let h = and_parts (is_whole w) (list_all is_whole ws) all in
    blank_words 32 (w ++ spaced ws) (w ∷ ws) refl (record { goes = λ z free. ap texts (append_assoc w (spaced ws) z) ∙ whole_texts w (spaced ws ++ z) h.0 (parted ws z free) ∙ ap (λ (l : List (List ℕ)). w ∷ l) ((spaced_words ws h.1).goes z free) })
  where
    parted : (ws : List (List ℕ)) (z : List ℕ) → goes_on z ≡ false → goes_on (spaced ws ++ z) ≡ false
    parted [] z free = free
    parted (w ∷ ws) z free = refl

pub joined_law : JoinedLaw
joined_law [] all = no_words
joined_law (w ∷ ws) all =
    let h = and_parts (is_whole w) (list_all is_whole ws) all in
    record { goes = λ z free. ap texts (append_assoc w (spaced ws) z) ∙ whole_texts w (spaced ws ++ z) h.0 (parted ws z free) ∙ ap (λ (l : List (List ℕ)). w ∷ l) ((spaced_words ws h.1).goes z free) }
  where
    parted : (ws : List (List ℕ)) (z : List ℕ) → goes_on z ≡ false → goes_on (spaced ws ++ z) ≡ false
    parted [] z free = free
    parted (w ∷ ws) z free = refl
