-- Words before the semicolon of a statement.
use Rattle.std.proofs.Common.{◌≡◌, ℕ, suc, ◌+◌, ◌-◌, ◌≤◌, Bool, true, false, not, ◌&&◌, ◌||◌, if◌then◌else◌, eqb, List, [], ◌∷◌, ◌++◌, length, take, get_or, refl, sym, ap, ◌∙◌, subst, arith, length-append, append_assoc, codes}
use Rattle.std.specs.Prelude.{nat_le}
use Rattle.std.specs.List.{prefix_len, list_all}
use Rattle.std.specs.Str.{bytes_eq}
use Rattle.std.proofs.lemmas.Bool.Decides.{nat_tests}
use Rattle.std.proofs.lemmas.List.{append-nil, take_at, get_or-append-add}
use Rattle.std.proofs.Math.ListN.{get_or-append}
use Rattle.std.proofs.lemmas.List.Sums.{prefix_len_stops}
use Rattle.std.proofs.lemmas.Bool.{and_parts, not-true}
use Rattle.token_forms.specs.declared.piece.Piece.TheVariants.{Token}
use Rattle.def_tokens.specs.DefTokens.{is_blank, is_black, has_end, piece_at}
use Rattle.def_tokens.specs.DefSplit.{begins_run, goes_on}
use Rattle.def_layout.specs.Words.{texts, spaced, is_quoted, is_run, is_whole, is_cut, HasWords}
use Rattle.def_layout.specs.Nets.{closed}
use Rattle.def_layout.proofs.WordTokens.{one_token, run_over, none_black, none_of, whole_texts, words_behind, one_word, blank_words, spaced_words}
use Rattle.def_layout.proofs.SectionWords.{is_part}

-- each word but the last is whole, and the last is so or is one that a semicolon ends
abbrev pub are_closing : List (List ℕ) → Bool
are_closing [] = true
are_closing (w ∷ []) = is_whole w || is_cut w
are_closing (w ∷ v ∷ ws) = is_whole w && are_closing (v ∷ ws)

quoted_no_end : (w : List ℕ) → is_quoted w ≡ true → has_end w ≡ false
quoted_no_end [] e = absurd cc
quoted_no_end (b ∷ bs) e =
    let q = and_parts (eqb b 34) (eqb (prefix_len (λ c. not (eqb c 34)) bs + 1) (length bs)) e in
    let n = prefix_len (λ c. not (eqb c 34)) bs in
    let size : n + 1 ≡ length bs = sized n (length bs) q.1 in
    let stop = prefix_len_stops (λ c. not (eqb c 34)) bs 0 (omega arith) in
    let at : suc (length bs) - 1 ≡ suc n = omega arith in
    let last : eqb (get_or (b ∷ bs) (suc (length bs) - 1) 0) 59 ≡ false = rw at (quote (get_or bs n 0) stop) in
    and_false (nat_le 2 (suc (length bs))) _ _ last
  where
    sized : (n m : ℕ) → eqb (n + 1) m ≡ true → n + 1 ≡ m
    sized n m e = grind (arith, nat_tests)

    quote : (c : ℕ) → not (eqb c 34) ≡ false → eqb c 59 ≡ false
    quote c e = grind (arith, nat_tests)

    and_false : (a b c : Bool) → b ≡ false → (a && (b && c)) ≡ false
    and_false true true c e = absurd cc
    and_false true false c e = refl
    and_false false b c e = refl

and_false : (a b c : Bool) → b ≡ false → (a && (b && c)) ≡ false
and_false true true c e = absurd cc
and_false true false c e = refl
and_false false b c e = refl

-- the end of words is that of the last one
end_behind : (x w : List ℕ) → (is_whole w || is_cut w) ≡ true → bytes_eq w (codes ";") ≡ false → has_end (x ++ w) ≡ has_end w
end_behind x [] stands free = absurd cc
end_behind x (c ∷ []) stands free =
    let l = length-append x (c ∷ []) in
    let at : length (x ++ c ∷ []) - 1 ≡ length x + 0 = omega arith in
    let semi : eqb c 59 ≡ false = one (eqb c 59) free in
    let last : eqb (get_or (x ++ c ∷ []) (length (x ++ c ∷ []) - 1) 0) 59 ≡ false = rw (at, get_or-append-add x (c ∷ []) 0 0) semi in
    and_false (nat_le 2 (length (x ++ c ∷ []))) _ _ last
  where
    one : (a : Bool) → (a && true) ≡ false → a ≡ false
    one true e = absurd cc
    one false e = refl
end_behind x (c ∷ d ∷ w) stands free =
    let v = c ∷ d ∷ w in
    let n = length w in
    let l = length-append x v in
    let at : length (x ++ v) - 1 ≡ length x + suc n = omega arith in
    let before : length (x ++ v) - 2 ≡ length x + n = omega arith in
    let at' : suc (suc n) - 1 ≡ suc n = omega arith in
    let before' : suc (suc n) - 2 ≡ n = omega arith in
    let long : nat_le 2 (length (x ++ v)) ≡ true = enough (length (x ++ v)) (omega arith) in
    let long' : nat_le 2 (suc (suc n)) ≡ true = enough (suc (suc n)) (omega arith) in
    rw (at, before, at', before', long, long', get_or-append-add x v (suc n) 0, get_or-append-add x v n 0) refl
  where
    enough : (m : ℕ) → 2 ≤ m → nat_le 2 m ≡ true
    enough m le = grind (arith, nat_tests)

-- a run with such an end, and a semicolon behind it
double_end : (b : ℕ) (bs : List ℕ) → has_end (b ∷ bs) ≡ true → has_end (b ∷ bs ++ 59 ∷ []) ≡ true
double_end b bs end =
    let w = b ∷ bs in
    let parts = and_parts (nat_le 2 (length w)) _ end in
    let semi = (and_parts (eqb (get_or w (suc (length bs) - 1) 0) 59) _ parts.1).0 in
    let l = length-append bs (59 ∷ []) in
    let at : suc (length (bs ++ 59 ∷ [])) - 1 ≡ suc (length bs) + 0 = omega arith in
    let before : suc (length (bs ++ 59 ∷ [])) - 2 ≡ length bs = omega arith in
    let at' : suc (length bs) - 1 ≡ length bs = omega arith in
    let first : eqb (get_or w (length bs) 0) 59 ≡ true = rw at' at semi in
    let long : nat_le 2 (suc (length (bs ++ 59 ∷ []))) ≡ true = enough (suc (length (bs ++ 59 ∷ []))) (omega arith) in
    rw (at, before, long, get_or-append-add w (59 ∷ []) 0 0, get_or-append w (59 ∷ []) 0 (length bs) (omega arith)) (no_slash (get_or w (length bs) 0) first)
  where
    enough : (m : ℕ) → 2 ≤ m → nat_le 2 m ≡ true
    enough m le = grind (arith, nat_tests)

    no_slash : (c : ℕ) → eqb c 59 ≡ true → not (eqb c 92) ≡ true
    no_slash c e = grind (arith, nat_tests)

cut_piece : (b : ℕ) (bs z : List ℕ) → is_run (b ∷ bs) ≡ true → has_end (b ∷ bs) ≡ true → goes_on z ≡ false → piece_at (b ∷ bs ++ 59 ∷ z) ≡ Token (suc (length bs))
unfolding piece_at
cut_piece b bs z run end free =
    let h = and_parts (begins_run (b ∷ bs)) (list_all is_black (b ∷ bs)) run in
    let o = none_of (is_blank b) (eqb b 35) (eqb b 34) h.0 in
    let join = append_assoc bs (59 ∷ []) z in
    let l = length-append bs (59 ∷ []) in
    let all : list_all is_black (bs ++ 59 ∷ []) ≡ true = more bs (and_parts (is_black b) (list_all is_black bs) h.1).1 in
    let r : prefix_len is_black (bs ++ 59 ∷ z) ≡ length bs + 1 = ap (prefix_len is_black) (sym join) ∙ run_over is_black (bs ++ 59 ∷ []) z all (none_black z free) ∙ l in
    let t : take (length bs + 1 + 1) (b ∷ bs ++ 59 ∷ z) ≡ b ∷ bs ++ 59 ∷ [] = ap (λ (x : List ℕ). take (length bs + 1 + 1) (b ∷ x)) (sym join) ∙ take_at (b ∷ bs ++ 59 ∷ []) z (length bs + 1 + 1) (omega arith) in
    let k : length bs + 1 ≡ suc (length bs) = omega arith in
    rw (o.0, o.1, o.2, r, t, double_end b bs end, k) refl
  where
    more : (cs : List ℕ) → list_all is_black cs ≡ true → list_all is_black (cs ++ 59 ∷ []) ≡ true
    more [] all = refl
    more (c ∷ cs) all = let h = and_parts (is_black c) (list_all is_black cs) all in rw h.0 (more cs h.1)

-- such a run before its semicolon
cut_words : (w : List ℕ) → is_cut w ≡ true → HasWords (w ++ codes ";") (w ∷ codes ";" ∷ [])
cut_words [] e = absurd cc
cut_words (b ∷ bs) e =
    let h = and_parts (is_run (b ∷ bs)) (has_end (b ∷ bs)) e in
    record { goes = λ z free. ap texts (append_assoc (b ∷ bs) (codes ";") z) ∙ one_token (b ∷ bs) (59 ∷ z) (suc (length bs)) refl (cut_piece b bs z h.0 h.1 free) ∙ ap (λ (l : List (List ℕ)). (b ∷ bs) ∷ l) (whole_texts (codes ";") z refl free) }

cut_of : (q r h : Bool) → ((q || (r && not h)) || (r && h)) ≡ true → h ≡ true → (q ≡ true → ⊥) → (r && h) ≡ true
cut_of true r h e f never = absurd (never refl)
cut_of false true true e f never = refl
cut_of false true false e f never = absurd cc
cut_of false false h e f never = absurd cc

whole_of : (q r h : Bool) → ((q || (r && not h)) || (r && h)) ≡ true → h ≡ false → (q || (r && not h)) ≡ true
whole_of q r true e f = absurd cc
whole_of true r false e f = refl
whole_of false true false e f = refl
whole_of false false false e f = absurd cc

-- the last word before the semicolon
last_words : (w : List ℕ) → (is_whole w || is_cut w) ≡ true → HasWords (32 ∷ w ++ (if has_end w then codes ";" else codes " ;")) (w ∷ codes ";" ∷ [])
last_words w stands = by_end (has_end w) (λ e. cut_of (is_quoted w) (is_run w) (has_end w) stands e (λ q. let n = quoted_no_end w q in absurd cc)) (λ e. whole_of (is_quoted w) (is_run w) (has_end w) stands e) refl
  where
    by_end : (h : Bool) → (has_end w ≡ true → is_cut w ≡ true) → (has_end w ≡ false → is_whole w ≡ true) → has_end w ≡ h → HasWords (32 ∷ w ++ (if h then codes ";" else codes " ;")) (w ∷ codes ";" ∷ [])
    by_end true f g e = blank_words 32 (w ++ codes ";") (w ∷ codes ";" ∷ []) refl (cut_words w (f e))
    by_end false f g e = spaced_words (w ∷ codes ";" ∷ []) (rw (g e) refl)

free_part : (w : List ℕ) → is_part w ≡ true → bytes_eq w (codes ";") ≡ false
free_part w e = not-true _ (and_parts (is_whole w) (not (bytes_eq w (codes ";"))) e).1

-- words that are no semicolon, and the semicolon behind them
abbrev pub are_free : List (List ℕ) → Bool
are_free ws = list_all (λ w. not (bytes_eq w (codes ";"))) ws

pub closed_words : (y : List ℕ) (vs : List (List ℕ)) (w : List ℕ) (ws : List (List ℕ)) → HasWords y vs → are_closing (w ∷ ws) ≡ true → are_free (w ∷ ws) ≡ true → HasWords (closed (y ++ spaced (w ∷ ws))) (vs ++ ((w ∷ ws) ++ codes ";" ∷ []))
closed_words y vs w [] has closing free =
    let f = not-true _ (and_parts (not (bytes_eq w (codes ";"))) true free).0 in
    let end : has_end (y ++ (32 ∷ w ++ [])) ≡ has_end w = ap (λ (x : List ℕ). has_end (y ++ 32 ∷ x)) (append-nil w) ∙ ap has_end (sym (append_assoc y (codes " ") w)) ∙ end_behind (y ++ codes " ") w closing f in
    let text : closed (y ++ (32 ∷ w ++ [])) ≡ y ++ (32 ∷ w ++ (if has_end w then codes ";" else codes " ;")) =
    ap (λ (h : Bool). (y ++ (32 ∷ w ++ [])) ++ (if h then codes ";" else codes " ;")) end ∙ append_assoc y (32 ∷ w ++ []) (if has_end w then codes ";" else codes " ;")
    ∙ ap (λ (x : List ℕ). y ++ (32 ∷ x ++ (if has_end w then codes ";" else codes " ;"))) (append-nil w)
    in
    subst (λ (x : List ℕ). HasWords x (vs ++ (w ∷ codes ";" ∷ []))) (sym text) (words_behind y _ vs (w ∷ codes ";" ∷ []) (λ z. refl) has (last_words w closing))
closed_words y vs w (v ∷ ws) has closing free =
    let c = and_parts (is_whole w) (are_closing (v ∷ ws)) closing in
    let f = and_parts (not (bytes_eq w (codes ";"))) (are_free (v ∷ ws)) free in
    let more : HasWords (y ++ 32 ∷ w) (vs ++ w ∷ []) = words_behind y (32 ∷ w) vs (w ∷ []) (λ z. refl) has (blank_words 32 w (w ∷ []) refl (one_word w c.0)) in
    let r = closed_words (y ++ 32 ∷ w) (vs ++ w ∷ []) v ws more c.1 f.1 in
    let text : (y ++ 32 ∷ w) ++ spaced (v ∷ ws) ≡ y ++ spaced (w ∷ v ∷ ws) = append_assoc y (32 ∷ w) (spaced (v ∷ ws)) in
    let words : (vs ++ w ∷ []) ++ ((v ∷ ws) ++ codes ";" ∷ []) ≡ vs ++ ((w ∷ v ∷ ws) ++ codes ";" ∷ []) = append_assoc vs (w ∷ []) ((v ∷ ws) ++ codes ";" ∷ []) in
    rw (text, words) at r
