-- The tokens of names and marks that stand with and without blanks between them.
use Rattle.std.proofs.Common.{◌≡◌, ℕ, zero, suc, ◌+◌, Bool, true, false, not, ◌&&◌, ◌||◌, eqb, List, [], ◌∷◌, ◌++◌, map, drop, refl, sym, ap, ◌∙◌, subst, append_assoc, codes, decimal, arith}
use Rattle.std.specs.List.{list_all, prefix_len, range_with_len}
use Rattle.std.specs.Str.{bytes_eq}
use Rattle.std.proofs.lemmas.Bool.Decides.{nat_tests}
use Rattle.std.proofs.lemmas.List.{append-nil, map-append}
use Rattle.std.proofs.lemmas.List.Concat.{flat_map-append}
use Rattle.std.proofs.lemmas.Bool.{and_parts, not-true}
use Rattle.base_types.proofs.TruthValues.{bytes_are}
use Rattle.token_forms.specs.declared.piece.Piece.TheVariants.{Blank, Token}
use Rattle.token_forms.proofs.Fronts.{texts-step}
use Rattle.verilog_syntax.specs.VerilogTokens.{is_blank, is_digit, is_word, open_piece, piece_at, texts}
use Rattle.verilog_syntax.specs.Seams.{is_identifier}
use Rattle.verilog_syntax.proofs.VerilogPieces.{verilog_cut}
use Rattle.verilog_syntax.proofs.NameTokens.{name_texts}
use Rattle.design_maker.specs.Pieces.{pieces}
use Rattle.made_law.specs.Designs.MadeStatements.{flat}
use Rattle.made_law.proofs.designs.Words.{digits_of}

-- bytes of blanks before a text
abbrev pub spaced : ℕ → List ℕ → List ℕ
spaced zero x = x
spaced (suc g) x = 32 ∷ spaced g x

-- words, each behind so many blanks, before a text
abbrev pub laid : List (ℕ × List ℕ) → List ℕ → List ℕ
laid [] behind = behind
laid (p ∷ ps) behind = spaced p.0 (p.1 ++ laid ps behind)

-- the words alone
abbrev pub words_of : List (ℕ × List ℕ) → List (List ℕ)
words_of ps = map (λ p. p.1) ps

-- the first byte of a word behind its blanks
abbrev first_of : ℕ → List ℕ → ℕ
first_of zero [] = 0
first_of zero (b ∷ bs) = b
first_of (suc g) w = 32

-- the first byte of what is laid out before a byte
abbrev next_of : List (ℕ × List ℕ) → ℕ → ℕ
next_of [] c = c
next_of (p ∷ ps) c = first_of p.0 p.1

-- a mark that is a token before everything
abbrev is_plain : List ℕ → Bool
is_plain w = bytes_eq w (codes ",") || (bytes_eq w (codes ";") || (bytes_eq w (codes ")") || (bytes_eq w (codes ".") || bytes_eq w (codes "="))))

-- the word is a token before this byte: an identifier that doesn't go on, or a mark
abbrev pub is_fit : List ℕ → ℕ → Bool
is_fit w next = (is_identifier w && not (is_word next)) || (is_plain w || (bytes_eq w (codes "(") && not (eqb next 42)))

-- each is
abbrev pub are_fit : List (ℕ × List ℕ) → ℕ → Bool
are_fit [] c = true
are_fit (p ∷ ps) c = is_fit p.1 (next_of ps c) && are_fit ps c

-- blanks before a text change nothing
skip_blanks : (z : List ℕ) → texts (drop (prefix_len is_blank z) z) ≡ texts z
unfolding piece_at
skip_blanks [] = refl
skip_blanks (b ∷ bs) =
    let cases : (t : Bool) → is_blank b ≡ t → texts (drop (prefix_len is_blank (b ∷ bs)) (b ∷ bs)) ≡ texts (b ∷ bs)
    = λ t. elim t as (λ t. is_blank b ≡ t → texts (drop (prefix_len is_blank (b ∷ bs)) (b ∷ bs)) ≡ texts (b ∷ bs)) [
      | true ↦ λ e.
          let p : piece_at (b ∷ bs) ≡ Blank (1 + prefix_len is_blank bs) = rw e refl in
          rw e (sym (texts-step piece_at (b ∷ bs) (Blank (1 + prefix_len is_blank bs)) verilog_cut p))
      | false ↦ λ e. rw e refl
    ]
    in cases (is_blank b) refl

pub blank_texts : (b : ℕ) (z : List ℕ) → is_blank b ≡ true → texts (b ∷ z) ≡ texts z
unfolding piece_at
blank_texts b z e =
    let p : piece_at (b ∷ z) ≡ Blank (1 + prefix_len is_blank z) = rw e refl in
    let d : drop (1 + prefix_len is_blank z) (b ∷ z) ≡ drop (prefix_len is_blank z) z = ap (λ (n : ℕ). drop n (b ∷ z)) (the (1 + prefix_len is_blank z) (suc (prefix_len is_blank z)) (omega arith)) in
    texts-step piece_at (b ∷ z) (Blank (1 + prefix_len is_blank z)) verilog_cut p ∙ ap texts d ∙ skip_blanks z
  where
    the : (m n : ℕ) → m ≡ n → m ≡ n
    the m n e = e

spaced_texts : (g : ℕ) (x z : List ℕ) → texts (spaced g x ++ z) ≡ texts (x ++ z)
spaced_texts zero x z = refl
spaced_texts (suc g) x z = blank_texts 32 (spaced g x ++ z) refl ∙ spaced_texts g x z

either : {P : Type 0} (a b : Bool) → (a || b) ≡ true → (a ≡ true → P) → (b ≡ true → P) → P
either true b e f g = f refl
either false b e f g = g e

-- a byte before others
record Begins (x : List ℕ) (c : ℕ) : Type 0 where
  rest : List ℕ
  is : x ≡ c ∷ rest

fit_some : (w : List ℕ) (next : ℕ) → is_fit w next ≡ true → Begins w (first_of zero w)
fit_some [] next e = absurd cc
fit_some (b ∷ bs) next e = record { rest = bs; is = refl }

begins : (ps : List (ℕ × List ℕ)) (c : ℕ) (rest z : List ℕ) → are_fit ps c ≡ true → Begins (laid ps (c ∷ rest) ++ z) (next_of ps c)
begins [] c rest z e = record { rest = rest ++ z; is = refl }
begins ((zero, w) ∷ ps) c rest z e =
    let h = and_parts (is_fit w (next_of ps c)) (are_fit ps c) e in
    let b = fit_some w (next_of ps c) h.0 in
    record { rest = (b.rest ++ laid ps (c ∷ rest)) ++ z; is = ap (λ (l : List ℕ). (l ++ laid ps (c ∷ rest)) ++ z) b.is }
begins ((suc g, w) ∷ ps) c rest z e = record { rest = spaced g (w ++ laid ps (c ∷ rest)) ++ z; is = refl }

-- one word
mark_texts : (c : ℕ) (z : List ℕ) → piece_at (c ∷ z) ≡ Token 1 → texts (c ∷ z) ≡ (c ∷ []) ∷ texts z
mark_texts c z e = texts-step piece_at (c ∷ z) (Token 1) verilog_cut e

plain_texts : (w z : List ℕ) → is_plain w ≡ true → texts (w ++ z) ≡ w ∷ texts z
unfolding piece_at
plain_texts w z e =
    let say = λ (m : ℕ) (is : piece_at (m ∷ z) ≡ Token 1) (same : bytes_eq w (m ∷ []) ≡ true). subst (λ (v : List ℕ). texts (v ++ z) ≡ v ∷ texts z) (sym (bytes_are w (m ∷ []) same)) (mark_texts m z is) in
    either (bytes_eq w (codes ",")) _ e (say 44 refl)
    (λ e. either (bytes_eq w (codes ";")) _ e (say 59 refl)
    (λ e. either (bytes_eq w (codes ")")) _ e (say 41 refl)
    (λ e. either (bytes_eq w (codes ".")) (bytes_eq w (codes "=")) e (say 46 refl) (say 61 refl))))

open_texts : (w z : List ℕ) (c : ℕ) (rest : List ℕ) → bytes_eq w (codes "(") ≡ true → eqb c 42 ≡ false → z ≡ c ∷ rest → texts (w ++ z) ≡ w ∷ texts z
unfolding piece_at open_piece
open_texts w z c rest e star is =
    let piece : piece_at (40 ∷ c ∷ rest) ≡ Token 1 = rw star refl in
    subst (λ (v : List ℕ). texts (v ++ z) ≡ v ∷ texts z) (sym (bytes_are w (40 ∷ []) e)) (mark_texts 40 z (ap (λ (x : List ℕ). piece_at (40 ∷ x)) is ∙ piece))

ident_texts : (w z : List ℕ) → is_identifier w ≡ true → prefix_len is_word z ≡ 0 → texts (w ++ z) ≡ w ∷ texts z
ident_texts [] z e stop = absurd cc
ident_texts (b ∷ bs) z e stop = let h = and_parts _ (list_all is_word bs) e in name_texts b bs z h.0 h.1 stop

stops : (z : List ℕ) (c : ℕ) (rest : List ℕ) → z ≡ c ∷ rest → is_word c ≡ false → prefix_len is_word z ≡ 0
stops z c rest is word = ap (prefix_len is_word) is ∙ rw word refl

word_texts : (w z : List ℕ) (c : ℕ) (rest : List ℕ) → is_fit w c ≡ true → z ≡ c ∷ rest → texts (w ++ z) ≡ w ∷ texts z
word_texts w z c rest e is =
    either (is_identifier w && not (is_word c)) _ e
    (λ h. let p = and_parts (is_identifier w) (not (is_word c)) h in ident_texts w z p.0 (stops z c rest is (not-true _ p.1)))
    (λ h. either (is_plain w) (bytes_eq w (codes "(") && not (eqb c 42)) h (plain_texts w z)
    (λ h. let p = and_parts (bytes_eq w (codes "(")) (not (eqb c 42)) h in open_texts w z c rest p.0 (not-true _ p.1) is))

pub laid_texts : (ps : List (ℕ × List ℕ)) (c : ℕ) (rest z : List ℕ) → are_fit ps c ≡ true → texts (laid ps (c ∷ rest) ++ z) ≡ words_of ps ++ texts (c ∷ rest ++ z)
laid_texts [] c rest z e = refl
laid_texts (p ∷ ps) c rest z e =
    let h = and_parts (is_fit p.1 (next_of ps c)) (are_fit ps c) e in
    let b = begins ps c rest z h.1 in
    spaced_texts p.0 (p.1 ++ laid ps (c ∷ rest)) z ∙ ap texts (append_assoc p.1 (laid ps (c ∷ rest)) z)
    ∙ word_texts p.1 (laid ps (c ∷ rest) ++ z) (next_of ps c) b.rest h.0 b.is
    ∙ ap (λ (l : List (List ℕ)). p.1 ∷ l) (laid_texts ps c rest z h.1)

-- digits go on in a word
word_digits : (ds : List ℕ) → list_all is_digit ds ≡ true → list_all is_word ds ≡ true
word_digits [] all = refl
word_digits (c ∷ cs) all =
    let h = and_parts (is_digit c) (list_all is_digit cs) all in
    let d = h.0 in
    let here : is_word c ≡ true = grind (arith, nat_tests) in
    rw here (word_digits cs h.1)

pub word_number : (n : ℕ) → list_all is_word (decimal n) ≡ true
word_number n = word_digits (decimal n) (digits_of n)

-- statements, whatever stands behind them
pub record Lines (text : List ℕ) (ss : List (List (List ℕ))) : Type 0 where
  pub goes : (z : List ℕ) → texts (text ++ z) ≡ flat ss ++ texts z

pub both_lines : (x y : List ℕ) (ss us : List (List (List ℕ))) → Lines x ss → Lines y us → Lines (x ++ y) (ss ++ us)
both_lines x y ss us f g = record {
  goes = λ z.
      ap texts (append_assoc x y z) ∙ f.goes (y ++ z) ∙ ap (λ (l : List (List ℕ)). flat ss ++ l) (g.goes z) ∙ sym (append_assoc (flat ss) (flat us) (texts z))
      ∙ ap (λ (l : List (List ℕ)). l ++ texts z) (sym (flat_map-append (λ s. s) ss us));
}

pub one_line : (ps : List (ℕ × List ℕ)) → are_fit ps 10 ≡ true → Lines (laid ps (10 ∷ [])) (words_of ps ∷ [])
one_line ps e = record {
  goes = λ z. laid_texts ps 10 [] z e ∙ ap (λ (l : List (List ℕ)). words_of ps ++ l) (blank_texts 10 z refl) ∙ ap (λ (l : List (List ℕ)). l ++ texts z) (sym (append-nil (words_of ps)));
}

range_last : (a n j : ℕ) → a + n ≡ j → range_with_len a (suc n) ≡ range_with_len a n ++ j ∷ []
range_last a zero j e = let same : a ≡ j = omega arith in ap (λ (k : ℕ). k ∷ []) same
range_last a (suc n) j e = ap (λ (l : List ℕ). a ∷ l) (range_last (a + 1) n j (omega arith))

pub map_last : {X : Type 0} (f : ℕ → X) (n : ℕ) → map f (range_with_len 0 (suc n)) ≡ map f (range_with_len 0 n) ++ f n ∷ []
map_last f n = ap (λ (l : List ℕ). map f l) (range_last 0 n n (omega arith)) ∙ map-append f (range_with_len 0 n) (n ∷ [])

pub line_pieces : (piece : ℕ → List ℕ) (words : ℕ → List (List ℕ)) → ((i : ℕ) → Lines (piece i) (words i ∷ [])) → (n : ℕ) → Lines (pieces piece n) (map words (range_with_len 0 n))
unfolding pieces
line_pieces piece words has zero = record { goes = λ z. refl }
line_pieces piece words has (suc n) =
    let r = both_lines (pieces piece n) (piece n) (map words (range_with_len 0 n)) (words n ∷ []) (line_pieces piece words has n) (has n) in
    record { goes = λ z. r.goes z ∙ ap (λ (l : List (List (List ℕ))). flat l ++ texts z) (sym (map_last words n)) }
