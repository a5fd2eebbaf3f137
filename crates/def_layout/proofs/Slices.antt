-- The tokens of a part of a text that begins and ends with tokens of it.
use Rattle.std.proofs.Common.{◌≡◌, ℕ, zero, suc, ◌+◌, ◌-◌, ◌<◌, ◌≤◌, Bool, true, false, cond, not, eqb, List, [], ◌∷◌, ◌++◌, length, take, drop, refl, sym, ap, ◌∙◌, subst, arith, length-take, codes, inl, inr}
use Rattle.std.specs.List.{prefix_len}
use Rattle.std.proofs.lemmas.Bool.{cases_lt}
use Rattle.std.proofs.lemmas.List.{append-nil, take_all, take-take}
use Rattle.std.proofs.lemmas.List.Sums.{prefix_len-le-length}
use Rattle.base_types.specs.declared.span.Span.{Span}
use Rattle.base_types.proofs.TruthValues.{bytes_are}
use Rattle.token_forms.specs.declared.piece.Piece.TheVariants.{Blank, Token}
use Rattle.token_forms.specs.Pieces.{tokens_from}
use Rattle.token_forms.specs.Tokens.{token_of, tokens_of, last_end_of}
use Rattle.token_forms.specs.Tokens.{Token as token}
use Rattle.token_forms.specs.Parts.{token_texts}
use Rattle.token_forms.specs.Runs.{bytes_of, texts_of, end_of}
use Rattle.token_forms.proofs.Spelled.{choose}
use Rattle.token_forms.proofs.Fronts.{texts-step, texts_nil, part, part-drop}
use Rattle.token_forms.proofs.Reaches.{Over, First, no_tokens, turn, first_is, rest_is, piece_bytes, jump}
use Rattle.def_tokens.specs.DefTokens.{is_blank, is_black, len_with, has_end, run_piece, piece_at, def_tokens}
use Rattle.def_tokens.specs.DefStatements.{ends_with}
use Rattle.def_tokens.proofs.DefPieces.{def_cut}
use Rattle.def_layout.specs.Words.{texts, is_whole}
use Rattle.def_layout.specs.Slices.{slice, SliceLaw}
use Rattle.def_layout.proofs.NetTexts.{same_texts}
use Rattle.def_layout.proofs.WordTokens.{whole_texts}

by_cases : (P : Bool → Type 0) (t : Bool) → (t ≡ true → P true) → (t ≡ false → P false) → P t
by_cases P true f g = f refl
by_cases P false f g = g refl

prefix_short : (p : ℕ → Bool) (bs : List ℕ) (m : ℕ) → prefix_len p bs ≤ m → prefix_len p (take m bs) ≡ prefix_len p bs
prefix_short p [] zero le = refl
prefix_short p [] (suc m) le = refl
prefix_short p (b ∷ bs) zero le =
    by_cases (λ t. cond t (1 + prefix_len p bs) 0 ≤ 0 → 0 ≡ cond t (1 + prefix_len p bs) 0) (p b) (λ e le. absurd (omega arith)) (λ e le. refl) le
prefix_short p (b ∷ bs) (suc m) le =
    by_cases (λ t. cond t (1 + prefix_len p bs) 0 ≤ suc m → cond t (1 + prefix_len p (take m bs)) 0 ≡ cond t (1 + prefix_len p bs) 0) (p b)
    (λ e le. let r = prefix_short p bs m (omega arith) in ap (λ (n : ℕ). 1 + n) r) (λ e le. refl) le

with_short : (c : ℕ) (bs : List ℕ) (m : ℕ) → len_with c bs ≤ m → len_with c (take m bs) ≡ len_with c bs
with_short c bs m le =
    let q = λ (b : ℕ). not (eqb b c) in
    elim (cases_lt (prefix_len q bs) (length bs)) [
      | inl lt ↦ let r = prefix_short q bs m (omega arith) in let l = length-take m bs in rw r (omega arith)
      | inr ge ↦ let k = prefix_len-le-length q bs in ap (λ (x : List ℕ). len_with c x) (take_all m bs (omega arith))
    ]

module _ (b : ℕ) (bs : List ℕ) where
  blanks_short : (m n : ℕ) → is_blank b ≡ true → 1 + prefix_len is_blank bs ≡ n → n ≤ suc m → piece_at (b ∷ take m bs) ≡ Blank n
  unfolding piece_at
  blanks_short m n e size le = let r = prefix_short is_blank bs m (omega arith) in rw (e, r, size) refl

  comment_short : (m n : ℕ) → is_blank b ≡ false → eqb b 35 ≡ true → 1 + len_with 10 bs ≡ n → n ≤ suc m → piece_at (b ∷ take m bs) ≡ Blank n
  unfolding piece_at
  comment_short m n white e size le = let r = with_short 10 bs m (omega arith) in rw (white, e, r, size) refl

  quoted_short : (m n : ℕ) → is_blank b ≡ false → eqb b 35 ≡ false → eqb b 34 ≡ true → 1 + len_with 34 bs ≡ n → n ≤ suc m → piece_at (b ∷ take m bs) ≡ Token n
  unfolding piece_at
  quoted_short m n white plain e size le = let r = with_short 34 bs m (omega arith) in rw (white, plain, e, r, size) refl

  run_short : (m n : ℕ) → is_blank b ≡ false → eqb b 35 ≡ false → eqb b 34 ≡ false → run_piece (b ∷ bs) (prefix_len is_black bs) ≡ Token n → n < suc m → piece_at (b ∷ take m bs) ≡ Token n
  unfolding piece_at
  run_short m n white plain free is lt =
      let k = prefix_len is_black bs in
      let below : k ≤ n = choose (has_end (take (k + 1) (b ∷ bs))) (Token k) (Token (k + 1)) (Token n) is (λ e t. let same : k ≡ n = cc in omega arith) (λ e t. let same : k + 1 ≡ n = cc in omega arith) in
      let r = prefix_short is_black bs m (omega arith) in
      let cut : take (k + 1) (b ∷ take m bs) ≡ take (k + 1) (b ∷ bs) = take-take (k + 1) (suc m) (b ∷ bs) (omega arith) in
      rw (white, plain, free, r, cut) is

  blank_cases : (m n : ℕ) → piece_at (b ∷ bs) ≡ Blank n → n ≤ suc m → piece_at (b ∷ take m bs) ≡ Blank n
  unfolding piece_at
  blank_cases m n is le =
      choose (is_blank b) (Blank (1 + prefix_len is_blank bs)) _ (Blank n) is (λ e f. let size : 1 + prefix_len is_blank bs ≡ n = cc in blanks_short m n e size le)
      (λ white f. choose (eqb b 35) (Blank (1 + len_with 10 bs)) _ (Blank n) f (λ e g. let size : 1 + len_with 10 bs ≡ n = cc in comment_short m n white e size le)
      (λ plain g. choose (eqb b 34) (Token (1 + len_with 34 bs)) _ (Blank n) g (λ e t. absurd cc) (λ free h. choose (has_end (take (prefix_len is_black bs + 1) (b ∷ bs))) (Token (prefix_len is_black bs)) _ (Blank n) h (λ e t. absurd cc) (λ e t. absurd cc))))

  token_cases : (m n : ℕ) → piece_at (b ∷ bs) ≡ Token n → n < suc m → piece_at (b ∷ take m bs) ≡ Token n
  unfolding piece_at
  token_cases m n is lt =
      choose (is_blank b) (Blank (1 + prefix_len is_blank bs)) _ (Token n) is (λ e f. absurd cc)
      (λ white f. choose (eqb b 35) (Blank (1 + len_with 10 bs)) _ (Token n) f (λ e g. absurd cc)
      (λ plain g. choose (eqb b 34) (Token (1 + len_with 34 bs)) (run_piece (b ∷ bs) (prefix_len is_black bs)) (Token n) g (λ e t. let size : 1 + len_with 34 bs ≡ n = cc in quoted_short m n white plain e size (omega arith)) (λ free h. run_short m n white plain free h lt)))

-- blanks, and a token, that end within a front of a text stand in it
blank_short : (x : List ℕ) (m n : ℕ) → 0 < n → piece_at x ≡ Blank n → n ≤ m → piece_at (take m x) ≡ Blank n
blank_short [] zero n some is le = is
blank_short [] (suc m) n some is le = is
blank_short (b ∷ bs) zero n some is le = absurd (omega arith)
blank_short (b ∷ bs) (suc m) n some is le = blank_cases b bs m n is le

token_short : (x : List ℕ) (m n : ℕ) → piece_at x ≡ Token n → n < m → piece_at (take m x) ≡ Token n
token_short [] zero n is lt = is
token_short [] (suc m) n is lt = is
token_short (b ∷ bs) zero n is lt = absurd (omega arith)
token_short (b ∷ bs) (suc m) n is lt = token_cases b bs m n is lt

-- the last of some spans
last_of : Span → List Span → Span
last_of s [] = s
last_of s (t ∷ ts) = last_of t ts

-- from a place before some tokens to the end of the last one, which is whole
part_texts : (k : ℕ) (text : List ℕ) (at : ℕ) (s : Span) (ss later : List Span) → length text ≤ at + k → is_whole (bytes_of text (last_of s ss)) ≡ true → tokens_from piece_at at 0 (drop at text) ≡ s ∷ ss ++ later
    → (at ≤ end_of s ss) × (texts (part text at (end_of s ss)) ≡ texts_of text (s ∷ ss))
unfolding last_of
part_texts zero text at s ss later short whole e = absurd (no_tokens piece_at def_cut text at s (ss ++ later) (omega arith) e)
part_texts (suc k) text at s ss later short whole e =
    elim (turn piece_at def_cut text at s (ss ++ later) e) [
      | Over n some within is more ↦
          let r = part_texts k text (at + n) s ss later (omega arith) whole more in
          let o = r.0 in
          let here : piece_at (part text at (end_of s ss)) ≡ Blank n = blank_short (drop at text) (end_of s ss - at) n some is (omega arith) in
          (omega arith, texts-step piece_at (part text at (end_of s ss)) (Blank n) def_cut here ∙ ap texts (part-drop text at n (end_of s ss) (omega arith)) ∙ r.1)
      | First n rest some within is more whole_is ↦ first k n ss (first_is s _ (ss ++ later) rest whole_is) some within is (more ∙ sym (rest_is s _ (ss ++ later) rest whole_is)) whole (λ u us. part_texts k text (at + n) u us later (omega arith))
    ]
  where
    first : (k n : ℕ) (ss : List Span) → s ≡ record { start = at; end = at + n } → 0 < n → at + n ≤ length text → piece_at (drop at text) ≡ Token n → tokens_from piece_at (at + n) 0 (drop (at + n) text) ≡ ss ++ later → is_whole (bytes_of text (last_of s ss)) ≡ true
        → ((u : Span) (us : List Span) → is_whole (bytes_of text (last_of u us)) ≡ true → tokens_from piece_at (at + n) 0 (drop (at + n) text) ≡ u ∷ us ++ later → (at + n ≤ end_of u us) × (texts (part text (at + n) (end_of u us)) ≡ texts_of text (u ∷ us)))
        → (at ≤ end_of s ss) × (texts (part text at (end_of s ss)) ≡ texts_of text (s ∷ ss))
    first k n [] here some within is more whole next =
        let w = bytes_of text s in
        let size : s.end ≡ at + n = ap (λ (x : Span). x.end) here in
        let begin : s.start ≡ at = ap (λ (x : Span). x.start) here in
        let same : part text at s.end ≡ w = ap (λ (x : ℕ). take (s.end - x) (drop x text)) (sym begin) in
        (omega arith, ap texts same ∙ ap texts (sym (append-nil w)) ∙ whole_texts w [] whole refl ∙ ap (λ (ws : List (List ℕ)). w ∷ ws) (texts_nil piece_at))
    first k n (u ∷ us) here some within is more whole next =
        let e = end_of u us in
        let r = next u us whole more in
        let o = r.0 in
        let far : at + n < e = elim (cases_lt (at + n) e) [
          | inl lt ↦ lt
          | inr ge ↦
              let z : e - (at + n) ≡ 0 = omega arith in
              let none : part text (at + n) e ≡ [] = ap (λ (m : ℕ). take m (drop (at + n) text)) z in
              let no : [] ≡ texts_of text (u ∷ us) = sym (texts_nil piece_at) ∙ ap texts (sym none) ∙ r.1 in
              absurd cc
        ]
        in
        let token_is : piece_at (part text at e) ≡ Token n = token_short (drop at text) (e - at) n is (omega arith) in
        let bytes : bytes_of text s ≡ take n (drop at text) = ap (bytes_of text) here ∙ piece_bytes text at n in
        let front : take n (part text at e) ≡ bytes_of text s = take-take n (e - at) (drop at text) (omega arith) ∙ sym bytes in (
          omega arith,
          texts-step piece_at (part text at e) (Token n) def_cut token_is ∙ ap (λ (w : List ℕ). w ∷ texts (drop n (part text at e))) front ∙ ap (λ (x : List ℕ). bytes_of text s ∷ texts x) (part-drop text at n e (omega arith))
              ∙ ap (λ (ws : List (List ℕ)). bytes_of text s ∷ ws) r.1,
        )

-- from the first of the tokens
from_first : (k : ℕ) (text : List ℕ) (at : ℕ) (s : Span) (ss later : List Span) → length text ≤ at + k → is_whole (bytes_of text (last_of s ss)) ≡ true → tokens_from piece_at at 0 (drop at text) ≡ s ∷ ss ++ later → texts (part text s.start (end_of s ss)) ≡ texts_of text (s ∷ ss)
from_first zero text at s ss later short whole e = absurd (no_tokens piece_at def_cut text at s (ss ++ later) (omega arith) e)
from_first (suc k) text at s ss later short whole e =
    elim (turn piece_at def_cut text at s (ss ++ later) e) [
      | Over n some within is more ↦ from_first k text (at + n) s ss later (omega arith) whole more
      | First n rest some within is more whole_is ↦
          let begin : s.start ≡ at = ap (λ (x : Span). x.start) (first_is s _ (ss ++ later) rest whole_is) in
          ap (λ (x : ℕ). texts (part text x (end_of s ss))) begin ∙ (part_texts (suc k) text at s ss later short whole e).1
    ]

-- behind other tokens
from_front : (text : List ℕ) (front : List Span) (s : Span) (ss later : List Span) → is_whole (bytes_of text (last_of s ss)) ≡ true → def_tokens text ≡ front ++ (s ∷ ss ++ later) → texts (part text s.start (end_of s ss)) ≡ texts_of text (s ∷ ss)
from_front text [] s ss later whole e = from_first (length text) text 0 s ss later (omega arith) whole e
from_front text (f ∷ fs) s ss later whole e = behind f fs e
  where
    ends : Span → List Span → Span
    ends f [] = f
    ends f (g ∷ gs) = ends g gs

    all_but : Span → List Span → List Span
    all_but f [] = []
    all_but f (g ∷ gs) = f ∷ all_but g gs

    cut : (f : Span) (fs more : List Span) → (f ∷ fs) ++ more ≡ all_but f fs ++ ends f fs ∷ more
    cut f [] more = refl
    cut f (g ∷ gs) more = ap (λ (x : List Span). f ∷ x) (cut g gs more)

    behind : (f : Span) (fs : List Span) → def_tokens text ≡ (f ∷ fs) ++ (s ∷ ss ++ later) → texts (part text s.start (end_of s ss)) ≡ texts_of text (s ∷ ss)
    behind f fs e =
        let j = jump piece_at def_cut (length text) text 0 (all_but f fs) (ends f fs) (s ∷ ss ++ later) (omega arith) (e ∙ cut f fs (s ∷ ss ++ later)) in
        from_first (length text) text (ends f fs).end s ss later (omega arith) whole j.rest

-- spans cut where their tokens are
span_cut : (text : List ℕ) (ss : List Span) (ys zs : List token) → tokens_of text ss ≡ ys ++ zs → (as_ : List Span) × (bs : List Span) × (ss ≡ as_ ++ bs) × (tokens_of text as_ ≡ ys) × (tokens_of text bs ≡ zs)
span_cut text ss [] zs e = ([], ss, refl, refl, e)
span_cut text [] (y ∷ ys) zs e = absurd cc
span_cut text (s ∷ ss) (y ∷ ys) zs e =
    let here : token_of text s ≡ y = cc in
    let tail : tokens_of text ss ≡ ys ++ zs = cc in
    let r = span_cut text ss ys zs tail in
    (s ∷ r.0, r.1, ap (λ (l : List Span). s ∷ l) r.2, ap (λ (l : List token). token_of text s ∷ l) r.3 ∙ ap (λ (t : token). t ∷ ys) here, r.4)

last_end_is : (text : List ℕ) (s : Span) (ss : List Span) → last_end_of (token_of text s) (tokens_of text ss) ≡ end_of s ss
last_end_is text s [] = refl
last_end_is text s (u ∷ us) = last_end_is text u us

last_whole : (text : List ℕ) (s : Span) (ss : List Span) → ends_with (codes ";") (tokens_of text (s ∷ ss)) ≡ true → is_whole (bytes_of text (last_of s ss)) ≡ true
unfolding last_of
last_whole text s [] e = let is = bytes_are (bytes_of text s) (codes ";") e in rw is refl
last_whole text s (u ∷ us) e = last_whole text u us e

pub slice_law : SliceLaw
slice_law text ts stand ends =
    let a = span_cut text (def_tokens text) stand.front (ts ++ stand.behind) stand.is in
    let b = span_cut text a.1 ts stand.behind a.4 in
    of b.0 b.1 a.0 (a.2 ∙ ap (λ (l : List Span). a.0 ++ l) b.2) b.3
  where
    of : (ss later front : List Span) → def_tokens text ≡ front ++ (ss ++ later) → tokens_of text ss ≡ ts → texts (slice text ts) ≡ token_texts ts
    of [] later front e is = let none : ends_with (codes ";") [] ≡ true = subst (λ (us : List token). ends_with (codes ";") us ≡ true) (sym is) ends in absurd cc
    of (s ∷ ss) later front e is =
        let whole = last_whole text s ss (subst (λ (us : List token). ends_with (codes ";") us ≡ true) (sym is) ends) in
        ap (λ (us : List token). texts (slice text us)) (sym is) ∙ ap (λ (n : ℕ). texts (bytes_of text (record { start = s.start; end = n }))) (last_end_is text s ss) ∙ from_front text front s ss later whole e ∙ same_texts text (s ∷ ss) ∙ ap token_texts is
