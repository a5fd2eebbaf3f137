-- How the tokens of a text stand.
use Rattle.std.proofs.Common.{◌≡◌, ℕ, zero, suc, ◌+◌, ◌-◌, ◌<◌, ◌≤◌, Bool, true, false, cond, not, ◌&&◌, ◌||◌, eqb, min, List, [], ◌∷◌, length, take, drop, get_or, refl, sym, ap, ◌∙◌, subst, arith, length-take, length-drop, codes, inl, inr}
use Rattle.std.specs.Prelude.{nat_le}
use Rattle.std.specs.List.{prefix_len, list_all}
use Rattle.std.specs.Str.{bytes_eq}
use Rattle.std.proofs.lemmas.Bool.{cases_lt, and_from, and_parts}
use Rattle.std.proofs.lemmas.Bool.Decides.{nat_tests}
use Rattle.std.proofs.lemmas.List.{drop_all, drop_more, get_or-take}
use Rattle.std.proofs.lemmas.List.Sums.{prefix_len-le-length}
use Rattle.token_forms.specs.declared.piece.Piece.{Piece}
use Rattle.token_forms.specs.declared.piece.Piece.TheVariants.{Blank, Token}
use Rattle.token_forms.specs.Pieces.{piece_len}
use Rattle.token_forms.proofs.Spelled.{choose}
use Rattle.token_forms.proofs.Fronts.{texts-step, texts_nil}
use Rattle.def_tokens.specs.DefTokens.{is_blank, is_black, len_with, has_end, run_piece, piece_at}
use Rattle.def_tokens.specs.DefSplit.{goes_on}
use Rattle.def_tokens.proofs.DefPieces.{def_cut}
use Rattle.def_layout.specs.Words.{texts, is_quoted, is_run, is_whole, is_cut, are_standing, StandingLaw}
use Rattle.def_layout.proofs.WordTokens.{whole_texts}

by_cases : (P : Bool → Type 0) (t : Bool) → (t ≡ true → P true) → (t ≡ false → P false) → P t
by_cases P true f g = f refl
by_cases P false f g = g refl

-- the bytes that pass
passed : (p : ℕ → Bool) (bs : List ℕ) (j : ℕ) → j ≤ prefix_len p bs → list_all p (take j bs) ≡ true
passed p bs zero le = refl
passed p [] (suc j) le = refl
passed p (b ∷ bs) (suc j) le =
    by_cases (λ t. suc j ≤ cond t (1 + prefix_len p bs) 0 → (t && list_all p (take j bs)) ≡ true) (p b) (λ e le. passed p bs j (omega arith)) (λ e le. absurd (omega arith)) le

-- the byte behind them
free_behind : (bs : List ℕ) → goes_on (drop (prefix_len is_black bs) bs) ≡ false
free_behind [] = refl
free_behind (b ∷ bs) =
    by_cases (λ t. is_black b ≡ t → goes_on (drop (cond t (1 + prefix_len is_black bs) 0) (b ∷ bs)) ≡ false) (is_black b)
    (λ e f. let k : 1 + prefix_len is_black bs ≡ suc (prefix_len is_black bs) = omega arith in rw k (free_behind bs)) (λ e f. f) refl

prefix_take : (p : ℕ → Bool) (bs : List ℕ) → prefix_len p bs < length bs → prefix_len p (take (prefix_len p bs + 1) bs) ≡ prefix_len p bs
prefix_take p [] lt = absurd (omega arith)
prefix_take p (b ∷ bs) lt =
    by_cases (λ t. p b ≡ t → cond t (1 + prefix_len p bs) 0 < suc (length bs) → prefix_len p (take (cond t (1 + prefix_len p bs) 0 + 1) (b ∷ bs)) ≡ cond t (1 + prefix_len p bs) 0) (p b)
    (λ e f lt.
    let k : 1 + prefix_len p bs + 1 ≡ suc (prefix_len p bs + 1) = omega arith in
    let r = prefix_take p bs (omega arith) in
    rw (k, f) (ap (λ (n : ℕ). 1 + n) r))
    (λ e f lt. rw f refl) refl lt

module _ (b : ℕ) (bs : List ℕ) (v : List ℕ) (ws : List (List ℕ)) where
  abbrev Stands : ℕ → Type 0
  Stands n = texts (drop n (b ∷ bs)) ≡ v ∷ ws → (is_whole (take n (b ∷ bs)) || (is_cut (take n (b ∷ bs)) && bytes_eq v (codes ";"))) ≡ true

  quoted_stands : eqb b 34 ≡ true → Stands (1 + len_with 34 bs)
  quoted_stands e later =
      let q = λ (c : ℕ). not (eqb c 34) in
      let n = prefix_len q bs in
      elim (cases_lt n (length bs)) [
        | inl lt ↦
            let k : 1 + min (n + 1) (length bs) ≡ suc (n + 1) = omega arith in
            let m : length (take (n + 1) bs) ≡ n + 1 = omega (arith, length-take (n + 1) bs) in
            let same : eqb (prefix_len q (take (n + 1) bs) + 1) (length (take (n + 1) bs)) ≡ true = rw (prefix_take q bs lt, m) (grind (arith, nat_tests)) in
            rw (k, e, same) refl
        | inr ge ↦
            let le = prefix_len-le-length q bs in
            let none : drop (1 + min (n + 1) (length bs)) (b ∷ bs) ≡ [] = drop_all _ (b ∷ bs) (omega arith) in
            let no : [] ≡ v ∷ ws = sym (texts_nil piece_at) ∙ ap texts (sym none) ∙ later in
            absurd cc
      ]

  module _ (blank : is_blank b ≡ false) (comment : eqb b 35 ≡ false) (quote : eqb b 34 ≡ false) where
    is_run_to : (j : ℕ) → j ≤ prefix_len is_black bs → is_run (b ∷ take j bs) ≡ true
    is_run_to j le = rw (blank, comment, quote) (passed is_black bs j le)

    whole_stands : (n : ℕ) → is_run (take n (b ∷ bs)) ≡ true → has_end (take n (b ∷ bs)) ≡ false → Stands n
    whole_stands n run ended later = rw (run, ended) (or_left _ (or_true (is_quoted (take n (b ∷ bs)))))
      where
        or_true : (a : Bool) → (a || true) ≡ true
        or_true true = refl
        or_true false = refl

        or_left : (a : Bool) → a ≡ true → (a || false) ≡ true
        or_left true e = refl
        or_left false e = e

    last_is : (j : ℕ) → prefix_len is_black bs ≡ suc j → has_end (b ∷ take (suc j) bs) ≡ true → get_or bs j 0 ≡ 59
    last_is j k end =
        let le = prefix_len-le-length is_black bs in
        let size : length (take (suc j) bs) ≡ suc j = omega (arith, length-take (suc j) bs) in
        let at : suc (length (take (suc j) bs)) - 1 ≡ suc j = omega arith in
        let parts = and_parts (nat_le 2 (length (b ∷ take (suc j) bs))) _ end in
        let semi = and_parts (eqb (get_or (b ∷ take (suc j) bs) (suc (length (take (suc j) bs)) - 1) 0) 59) _ parts.1 in
        let here : eqb (get_or (take (suc j) bs) j 0) 59 ≡ true = rw at at semi.0 in
        let same : get_or (take (suc j) bs) j 0 ≡ get_or bs j 0 = get_or-take (suc j) bs j 0 (omega arith) in
        let is : get_or (take (suc j) bs) j 0 ≡ 59 = grind (arith, nat_tests) in
        sym same ∙ is

    cut_stands : (j : ℕ) → prefix_len is_black bs ≡ suc j → has_end (b ∷ take (suc j) bs) ≡ true → Stands (suc j)
    cut_stands j k end later =
        let le = prefix_len-le-length is_black bs in
        let lt : j < length bs = omega arith in
        let run = is_run_to j (omega arith) in
        let next : drop j bs ≡ 59 ∷ drop (j + 1) bs = drop_more bs j 0 lt ∙ ap (λ (c : ℕ). c ∷ drop (j + 1) bs) (last_is j k end) in
        let m : j + 1 ≡ prefix_len is_black bs = omega arith in
        let free : goes_on (drop (j + 1) bs) ≡ false = rw m (free_behind bs) in
        let here : codes ";" ∷ texts (drop (j + 1) bs) ≡ v ∷ ws = sym (whole_texts (codes ";") (drop (j + 1) bs) refl free) ∙ ap texts (sym next) ∙ later in
        let semi : v ≡ codes ";" = cc in
        by_cases (λ t. has_end (b ∷ take j bs) ≡ t → (is_whole (b ∷ take j bs) || (is_cut (b ∷ take j bs) && bytes_eq v (codes ";"))) ≡ true) (has_end (b ∷ take j bs))
        (λ e f. rw (run, f, semi) (or_true (is_quoted (b ∷ take j bs) || false)))
        (λ e f. whole_stands (suc j) run f later) refl
      where
        or_true : (a : Bool) → (a || true) ≡ true
        or_true true = refl
        or_true false = refl

    run_stands : (k n : ℕ) → prefix_len is_black bs ≡ k → cond (has_end (take (k + 1) (b ∷ bs))) (Token k) (Token (k + 1)) ≡ Token n → Stands n
    run_stands zero n size is later = let same : 1 ≡ n = cc in subst Stands same (whole_stands 1 (is_run_to 0 (omega arith)) refl) later
    run_stands (suc j) n size is later =
        let more : suc j + 1 ≡ suc (suc j) = omega arith in
        choose (has_end (take (suc j + 1) (b ∷ bs))) (Token (suc j)) (Token (suc j + 1)) (Token n) is
        (λ end t. let same : suc j ≡ n = cc in subst Stands same (cut_stands j size ((rw more at end))) later)
        (λ no t. let same : suc j + 1 ≡ n = cc in subst Stands (sym more ∙ same) (whole_stands (suc (suc j)) (is_run_to (suc j) (omega arith)) (rw more at no)) later)

  first_stands : (n : ℕ) → piece_at (b ∷ bs) ≡ Token n → Stands n
  unfolding piece_at
  first_stands n is =
      choose (is_blank b) (Blank (1 + prefix_len is_blank bs)) _ (Token n) is (λ e f. absurd cc)
      (λ blank f. choose (eqb b 35) (Blank (1 + len_with 10 bs)) _ (Token n) f (λ e g. absurd cc)
      (λ comment g. choose (eqb b 34) (Token (1 + len_with 34 bs)) (run_piece (b ∷ bs) (prefix_len is_black bs)) (Token n) g
      (λ e t. let same : 1 + len_with 34 bs ≡ n = cc in subst Stands same (quoted_stands e)) (λ quote h. run_stands blank comment quote (prefix_len is_black bs) n refl h)))

-- the first word stands, and those behind it do
words_stand : (b : ℕ) (bs : List ℕ) (n : ℕ) (rest : List (List ℕ)) → piece_at (b ∷ bs) ≡ Token n → texts (drop n (b ∷ bs)) ≡ rest → are_standing rest ≡ true → are_standing (take n (b ∷ bs) ∷ rest) ≡ true
words_stand b bs n [] is later all = refl
words_stand b bs n (v ∷ ws) is later all = and_from _ _ (first_stands b bs v ws n is later) all

stands : (m : ℕ) (text : List ℕ) → length text ≤ m → are_standing (texts text) ≡ true
stands m [] short = rw (texts_nil piece_at) refl
stands zero (b ∷ bs) short = absurd (omega arith)
stands (suc m) (b ∷ bs) short =
    by_piece b bs (λ n some. stands m (drop n (b ∷ bs)) (omega (arith, length-drop n (b ∷ bs), some))) (piece_at (b ∷ bs)) refl
  where
    by_piece : (b : ℕ) (bs : List ℕ) → ((n : ℕ) → 0 < n → are_standing (texts (drop n (b ∷ bs))) ≡ true) → (p : Piece) → piece_at (b ∷ bs) ≡ p → are_standing (texts (b ∷ bs)) ≡ true
    by_piece b bs more (Blank n) is =
        let some : 0 < n = subst (λ (p : Piece). 0 < piece_len p) is (def_cut.each b bs).some in
        rw (texts-step piece_at (b ∷ bs) (Blank n) def_cut is) (more n some)
    by_piece b bs more (Token n) is =
        let some : 0 < n = subst (λ (p : Piece). 0 < piece_len p) is (def_cut.each b bs).some in
        rw (texts-step piece_at (b ∷ bs) (Token n) def_cut is) (words_stand b bs n (texts (drop n (b ∷ bs))) is refl (more n some))

pub standing_law : StandingLaw
standing_law text = stands (length text) text (omega arith)
