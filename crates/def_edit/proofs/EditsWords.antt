-- Words before what stands behind an edit.
use Rattle.std.proofs.Common.{◌≡◌, ℕ, suc, ◌+◌, ◌-◌, ◌≤◌, Bool, true, false, not, ◌&&◌, ◌||◌, if◌then◌else◌, eqb, min, List, [], ◌∷◌, ◌++◌, length, take, get_or, refl, sym, ap, ◌∙◌, subst, arith, length-append, append_assoc, append-nil, codes}
use Rattle.std.specs.Prelude.{nat_le}
use Rattle.std.specs.List.{prefix_len, list_all}
use Rattle.std.proofs.lemmas.Bool.Decides.{nat_tests}
use Rattle.std.proofs.lemmas.List.{take_at, get_or-append-add}
use Rattle.std.proofs.Math.ListN.{get_or-append}
use Rattle.std.proofs.lemmas.List.Folds.{prefix_len-append}
use Rattle.std.proofs.lemmas.Bool.{and_parts, not-true}
use Rattle.token_forms.specs.declared.piece.Piece.TheVariants.{Token}
use Rattle.def_tokens.specs.DefTokens.{is_blank, is_black, has_end, piece_at}
use Rattle.def_tokens.specs.DefSplit.{begins_run, goes_on}
use Rattle.def_layout.specs.Words.{texts, is_quoted, is_run, is_whole, HasWords}
use Rattle.def_layout.proofs.WordTokens.{one_token, run_over, none_black, none_of, or_cases, whole_texts, blank_texts}
use Rattle.def_edit.specs.Seams.{begins_end, HasWordsBefore}
use Rattle.def_edit.specs.Words.{ends_escaping, is_cut_off, goes_on_with, word_before}

-- words before a blank or the end
pub before_free : (x : List ℕ) (ws : List (List ℕ)) (z : List ℕ) → HasWords x ws → goes_on z ≡ false → HasWordsBefore x ws z
before_free x ws z h free = record { goes = λ r f g. h.goes r (f free) }

-- a run before a semicolon that is cut off
cut_piece : (b : ℕ) (bs z : List ℕ) → is_run (b ∷ bs) ≡ true → has_end (b ∷ bs ++ 59 ∷ []) ≡ true → goes_on z ≡ false → piece_at (b ∷ bs ++ 59 ∷ z) ≡ Token (suc (length bs))
unfolding piece_at
cut_piece b bs z run end free =
    let h = and_parts (begins_run (b ∷ bs)) (list_all is_black (b ∷ bs)) run in
    let o = none_of (is_blank b) (eqb b 35) (eqb b 34) h.0 in
    let join = append_assoc bs (59 ∷ []) z in
    let l = length-append bs (59 ∷ []) in
    let all : list_all is_black (bs ++ 59 ∷ []) ≡ true = more bs (and_parts (is_black b) (list_all is_black bs) h.1).1 in
    let r : prefix_len is_black (bs ++ 59 ∷ z) ≡ length bs + 1 = ap (prefix_len is_black) (sym join) ∙ run_over is_black (bs ++ 59 ∷ []) z all (none_black z free) ∙ l in
    let t : take (length bs + 1 + 1) (b ∷ bs ++ 59 ∷ z) ≡ b ∷ bs ++ 59 ∷ [] = ap (λ (x : List ℕ). take (length bs + 1 + 1) (b ∷ x)) (sym join) ∙ take_at (b ∷ bs ++ 59 ∷ []) z (length bs + 1 + 1) (omega arith) in
    let k : length bs + 1 ≡ suc (length bs) = omega arith in
    rw (o.0, o.1, o.2, r, t, end, k) refl
  where
    more : (cs : List ℕ) → list_all is_black cs ≡ true → list_all is_black (cs ++ 59 ∷ []) ≡ true
    more [] all = refl
    more (c ∷ cs) all = let h = and_parts (is_black c) (list_all is_black cs) all in rw h.0 (more cs h.1)

-- a run that ends with no backslash, and a semicolon, have an end
plain_end : (b : ℕ) (bs : List ℕ) → ends_escaping (b ∷ bs) ≡ false → has_end (b ∷ bs ++ 59 ∷ []) ≡ true
plain_end b bs plain =
    let w = b ∷ bs in
    let l = length-append bs (59 ∷ []) in
    let at : suc (length (bs ++ 59 ∷ [])) - 1 ≡ suc (length bs) + 0 = omega arith in
    let before : suc (length (bs ++ 59 ∷ [])) - 2 ≡ length bs = omega arith in
    let at' : suc (length bs) - 1 ≡ length bs = omega arith in
    let some : nat_le 1 (suc (length bs)) ≡ true = enough 1 (suc (length bs)) (omega arith) in
    let last : eqb (get_or w (length bs) 0) 92 ≡ false = rw (at', some) at plain in
    let long : nat_le 2 (suc (length (bs ++ 59 ∷ []))) ≡ true = enough 2 (suc (length (bs ++ 59 ∷ []))) (omega arith) in
    rw (at, before, long, get_or-append-add w (59 ∷ []) 0 0, get_or-append w (59 ∷ []) 0 (length bs) (omega arith), last) refl
  where
    enough : (n m : ℕ) → n ≤ m → nat_le n m ≡ true
    enough n m le = grind (arith, nat_tests)

-- a text in quotes ends with its quote, whatever stands behind it
quoted_piece : (bs z : List ℕ) → eqb (prefix_len (λ c. not (eqb c 34)) bs + 1) (length bs) ≡ true → piece_at (34 ∷ bs ++ z) ≡ Token (suc (length bs))
unfolding piece_at
quoted_piece bs z e =
    let n : prefix_len (λ c. not (eqb c 34)) bs + 1 ≡ length bs = grind (arith, nat_tests) in
    let l = length-append bs z in
    let short : eqb (prefix_len (λ c. not (eqb c 34)) bs) (length bs) ≡ false = grind (arith, nat_tests) in
    let a : prefix_len (λ c. not (eqb c 34)) (bs ++ z) ≡ prefix_len (λ c. not (eqb c 34)) bs = prefix_len-append (λ c. not (eqb c 34)) bs z ∙ rw short refl in
    let k : 1 + min (prefix_len (λ c. not (eqb c 34)) bs + 1) (length (bs ++ z)) ≡ suc (length bs) = omega arith in
    rw a (ap (λ (m : ℕ). Token m) k)

-- a whole word that ends with no backslash, before such a semicolon
pub ends_texts : (w r : List ℕ) → is_whole w ≡ true → ends_escaping w ≡ false → begins_end r ≡ true → texts (w ++ r) ≡ w ∷ texts r
ends_texts [] r whole plain ends = absurd cc
ends_texts (b ∷ bs) [] whole plain ends = absurd cc
ends_texts (b ∷ bs) (c ∷ r) whole plain ends =
    let e = and_parts (eqb c 59) (not (goes_on r)) ends in
    let semi : c ≡ 59 = grind (arith, nat_tests) in
    or_cases (is_quoted (b ∷ bs)) (is_run (b ∷ bs) && not (has_end (b ∷ bs))) whole
    (λ f.
    let q = and_parts (eqb b 34) (eqb (prefix_len (λ c. not (eqb c 34)) bs + 1) (length bs)) f in
    let is : b ≡ 34 = grind (arith, nat_tests) in
    subst (λ (b : ℕ). texts (b ∷ bs ++ c ∷ r) ≡ (b ∷ bs) ∷ texts (c ∷ r)) (sym is) (one_token (34 ∷ bs) (c ∷ r) (suc (length bs)) refl (quoted_piece bs (c ∷ r) q.1)))
    (λ f.
    let q = and_parts (is_run (b ∷ bs)) (not (has_end (b ∷ bs))) f in
    let piece = cut_piece b bs r q.0 (plain_end b bs plain) (not-true _ e.1) in
    subst (λ (c : ℕ). texts (b ∷ bs ++ c ∷ r) ≡ (b ∷ bs) ∷ texts (c ∷ r)) (sym semi) (one_token (b ∷ bs) (59 ∷ r) (suc (length bs)) refl piece))

-- where nothing goes on with a word, a blank or the end stands behind, or a semicolon that is cut off
data Stops (w z : List ℕ) : Type 0 where
  Free : goes_on z ≡ false → Stops w z
  Ends : begins_end z ≡ true → ends_escaping w ≡ false → Stops w z

stops : (w z : List ℕ) → goes_on_with w z ≡ false → Stops w z
stops w [] e = Free refl
stops w (b ∷ bs) e = of (is_blank b) (ends_escaping w) (is_cut_off b bs) refl refl refl e
  where
    cut : (bs : List ℕ) → is_cut_off b bs ≡ true → begins_end (b ∷ bs) ≡ true
    cut [] f = rw (off (eqb b 59) f) refl
      where
        off : (a : Bool) → a ≡ true → a ≡ true
        off a f = f
    cut (c ∷ cs) f = let g = and_parts (eqb b 59) (is_blank c) f in rw (g.0, g.1) refl

    of : (x y v : Bool) → is_blank b ≡ x → ends_escaping w ≡ y → is_cut_off b bs ≡ v → (not x && (y || not v)) ≡ false → Stops w (b ∷ bs)
    of true y v f g h e = Free (rw f refl)
    of false true v f g h e = absurd cc
    of false false true f g h e = Ends (cut bs h) g
    of false false false f g h e = absurd cc

-- a word, with a blank where it needs one
pub word_stands : (w z : List ℕ) → is_whole w ≡ true → HasWordsBefore (word_before w z) (w ∷ []) z
word_stands w z whole = of (goes_on_with w z) refl
  where
    of : (b : Bool) → goes_on_with w z ≡ b → HasWordsBefore (w ++ (if b then codes " " else [])) (w ∷ []) z
    of true e = record { goes = λ r f g. ap texts (append_assoc w (codes " ") r) ∙ whole_texts w (32 ∷ r) whole refl ∙ ap (λ (l : List (List ℕ)). w ∷ l) (blank_texts 32 r refl) }
    of false e =
        let same = append-nil w in
        elim (stops w z e) [
          | Free free ↦ record { goes = λ r f g. ap (λ (x : List ℕ). texts (x ++ r)) same ∙ whole_texts w r whole (f free) }
          | Ends ends plain ↦ record { goes = λ r f g. ap (λ (x : List ℕ). texts (x ++ r)) same ∙ ends_texts w r whole plain (g ends) }
        ]

pub word_begins : (w z : List ℕ) → is_whole w ≡ true → goes_on (word_before w z) ≡ true
word_begins [] z whole = absurd cc
word_begins (b ∷ bs) z whole =
    or_cases (is_quoted (b ∷ bs)) (is_run (b ∷ bs) && not (has_end (b ∷ bs))) whole
    (λ f.
    let q = and_parts (eqb b 34) (eqb (prefix_len (λ c. not (eqb c 34)) bs + 1) (length bs)) f in
    let is : b ≡ 34 = grind (arith, nat_tests) in
    rw is refl)
    (λ f.
    let q = and_parts (is_run (b ∷ bs)) (not (has_end (b ∷ bs))) f in
    let r = and_parts (begins_run (b ∷ bs)) (list_all is_black (b ∷ bs)) q.0 in
    (and_parts (is_black b) (list_all is_black bs) r.1).0)
