-- The tokens of a net bit's text, and what stands behind it.
use Rattle.std.proofs.Common.{◌≡◌, ℕ, suc, ◌+◌, ◌<◌, Bool, true, false, cond, not, ◌&&◌, eqb, min, List, [], ◌∷◌, ◌++◌, length, drop, refl, sym, ap, ◌∙◌, arith, length-append, append_assoc}
use Rattle.std.specs.Prelude.{nat_lt}
use Rattle.std.specs.List.{prefix_len, list_all}
use Rattle.std.proofs.lemmas.Bool.{and_parts}
use Rattle.std.proofs.lemmas.Bool.Decides.{nat_tests}
use Rattle.std.proofs.lemmas.List.{take_at, drop_at, append-nil}
use Rattle.token_forms.specs.declared.piece.Piece.TheVariants.{Token}
use Rattle.verilog_syntax.specs.VerilogTokens.{is_blank, is_digit, is_word_start, is_word, based_len, number_len, escaped_piece, piece_at, texts}
use Rattle.verilog_syntax.specs.Seams.{Starts, HasTexts, is_decimal, PlainLaw, PlainBitLaw, EscapedLaw, EscapedBitLaw}
use Rattle.verilog_syntax.proofs.VerilogPieces.{verilog_cut}
use Rattle.verilog_syntax.proofs.VerilogMarks.{Stop}
use Rattle.token_forms.proofs.Fronts.{texts-step, texts_nil}

run_over : (p : ℕ → Bool) (bs z : List ℕ) → list_all p bs ≡ true → prefix_len p z ≡ 0 → prefix_len p (bs ++ z) ≡ length bs
run_over p [] z all none = none
run_over p (b ∷ bs) z all none =
    let cases : (t : Bool) → (t && list_all p bs) ≡ true → cond t (1 + prefix_len p (bs ++ z)) 0 ≡ suc (length bs)
    = λ t. elim t as (λ t. (t && list_all p bs) ≡ true → cond t (1 + prefix_len p (bs ++ z)) 0 ≡ suc (length bs)) [
      | true ↦ λ e. let r = run_over p bs z e none in omega arith
      | false ↦ λ e. absurd cc
    ]
    in cases (p b) all

-- a text whose first piece is a token of its own
one_token : (w z : List ℕ) (n : ℕ) → n ≡ length w → piece_at (w ++ z) ≡ Token n → texts (w ++ z) ≡ w ∷ texts z
one_token w z n size is =
    texts-step piece_at (w ++ z) (Token n) verilog_cut is
    ∙ ap (λ (x : List ℕ). x ∷ texts (drop n (w ++ z))) (take_at w z n (sym size))
    ∙ ap (λ (r : List ℕ). w ∷ texts r) (drop_at w z n (sym size))

pub no_blank_start : (b : ℕ) → is_word_start b ≡ true → is_blank b ≡ false
no_blank_start b e = grind (arith, nat_tests)

name_piece : (b : ℕ) (bs z : List ℕ) → is_word_start b ≡ true → list_all is_word bs ≡ true → Stop z → piece_at (b ∷ bs ++ z) ≡ Token (suc (length bs))
unfolding piece_at
name_piece b bs z start all none =
    let r = run_over is_word bs z all none in
    let k : 1 + length bs ≡ suc (length bs) = omega arith in
    rw (no_blank_start b start, start, r, k) refl

pub name_texts : (b : ℕ) (bs z : List ℕ) → is_word_start b ≡ true → list_all is_word bs ≡ true → Stop z → texts (b ∷ bs ++ z) ≡ (b ∷ bs) ∷ texts z
name_texts b bs z start all none = one_token (b ∷ bs) z (suc (length bs)) refl (name_piece b bs z start all none)

-- an escaped name with its blank ends whatever follows
escaped_piece_is : (bs z : List ℕ) → 0 < length bs → list_all (λ c. not (is_blank c)) bs ≡ true → piece_at (92 ∷ bs ++ 32 ∷ z) ≡ Token (suc (suc (length bs)))
unfolding piece_at escaped_piece
escaped_piece_is bs z some all =
    let r = run_over (λ c. not (is_blank c)) bs (32 ∷ z) all refl in
    let l = length-append bs (32 ∷ z) in
    let no : eqb (length bs) 0 ≡ false = grind (arith, nat_tests) in
    let k : 1 + min (length bs + 1) (length (bs ++ 32 ∷ z)) ≡ suc (suc (length bs)) = omega arith in
    rw (r, no) (ap (λ (n : ℕ). Token n) k)

pub escaped_texts : (bs z : List ℕ) → 0 < length bs → list_all (λ c. not (is_blank c)) bs ≡ true → texts (92 ∷ (bs ++ 32 ∷ z)) ≡ (92 ∷ (bs ++ 32 ∷ [])) ∷ texts z
escaped_texts bs z some all =
    let n = suc (suc (length bs)) in
    let cut : 92 ∷ (bs ++ 32 ∷ z) ≡ (92 ∷ (bs ++ 32 ∷ [])) ++ z = ap (λ (l : List ℕ). 92 ∷ l) (sym (append_assoc bs (32 ∷ []) z)) in
    let l = length-append bs (32 ∷ []) in
    ap (λ (x : List ℕ). texts x) cut ∙ one_token (92 ∷ (bs ++ 32 ∷ [])) z n (omega arith) (ap piece_at (sym cut) ∙ escaped_piece_is bs z some all)

-- a decimal before a closing bracket
no_base : (z : List ℕ) → based_len (93 ∷ z) ≡ 0
unfolding based_len
no_base [] = refl
no_base (a ∷ []) = refl
no_base (a ∷ b ∷ z) = refl

number_piece : (b : ℕ) (bs z : List ℕ) → is_digit b ≡ true → list_all is_digit bs ≡ true → piece_at (b ∷ bs ++ 93 ∷ z) ≡ Token (suc (length bs))
unfolding piece_at number_len
number_piece b bs z start all =
    let r = run_over is_digit bs (93 ∷ z) all refl in
    let black : is_blank b ≡ false = grind (arith, nat_tests) in
    let no_word : is_word_start b ≡ false = grind (arith, nat_tests) in
    let rest = drop_at bs (93 ∷ z) (length bs) refl in
    let k : 1 + (length bs + 0) ≡ suc (length bs) = omega arith in
    rw (black, no_word, start, r, rest, no_base z, k) refl

open_piece : (z : List ℕ) → piece_at (91 ∷ z) ≡ Token 1
unfolding piece_at
open_piece z = refl

close_piece : (z : List ℕ) → piece_at (93 ∷ z) ≡ Token 1
unfolding piece_at
close_piece z = refl

pub index_texts : (b : ℕ) (bs z : List ℕ) → is_digit b ≡ true → list_all is_digit bs ≡ true → texts (91 ∷ b ∷ bs ++ 93 ∷ z) ≡ (91 ∷ []) ∷ (b ∷ bs) ∷ (93 ∷ []) ∷ texts z
index_texts b bs z start all =
    one_token (91 ∷ []) (b ∷ bs ++ 93 ∷ z) 1 refl (open_piece (b ∷ bs ++ 93 ∷ z))
    ∙ ap (λ (l : List (List ℕ)). (91 ∷ []) ∷ l)
    (one_token (b ∷ bs) (93 ∷ z) (suc (length bs)) refl (number_piece b bs z start all)
    ∙ ap (λ (l : List (List ℕ)). (b ∷ bs) ∷ l) (one_token (93 ∷ []) z 1 refl (close_piece z)))

-- a new text with its tokens wherever it stands
has_texts : (new : List ℕ) (ws : List (List ℕ)) → Starts new → ((z : List ℕ) → Stop z → texts (new ++ z) ≡ ws ++ texts z) → HasTexts new ws
has_texts new ws starts goes =
    let own : texts new ≡ ws = ap (λ (x : List ℕ). texts x) (sym (append-nil new)) ∙ goes [] refl ∙ ap (λ (l : List (List ℕ)). ws ++ l) (texts_nil piece_at) ∙ append-nil ws in
    record { ready = record { starts = starts; goes = λ z stop. goes z stop ∙ ap (λ (l : List (List ℕ)). l ++ texts z) (sym own) }; are = own }

start_no_star : (b : ℕ) → is_word_start b ≡ true → eqb b 42 ≡ false
start_no_star b e = grind (arith, nat_tests)

starts_word : (b : ℕ) (bs : List ℕ) → is_word_start b ≡ true → Starts (b ∷ bs)
starts_word b bs e = record { first = b; behind = bs; is = refl; black = no_blank_start b e; no_star = start_no_star b e }

starts_escape : (bs : List ℕ) → Starts (92 ∷ bs)
starts_escape bs = record { first = 92; behind = bs; is = refl; black = refl; no_star = refl }

pub plain_law : PlainLaw
plain_law [] e = absurd cc
plain_law (b ∷ bs) e = let p = and_parts (is_word_start b) (list_all is_word bs) e in has_texts (b ∷ bs) ((b ∷ bs) ∷ []) (starts_word b bs p.0) (λ z stop. name_texts b bs z p.0 p.1 stop)

-- an index behind a name
index_behind : (d z : List ℕ) → is_decimal d ≡ true → texts (91 ∷ (d ++ 93 ∷ z)) ≡ (91 ∷ []) ∷ d ∷ (93 ∷ []) ∷ texts z
index_behind [] z e = absurd cc
index_behind (b ∷ bs) z e =
    let q = and_parts (is_digit b) (list_all is_digit bs) (and_parts _ _ e).1 in
    index_texts b bs z q.0 q.1

pub plain_bit_law : PlainBitLaw
plain_bit_law [] d e f = absurd cc
plain_bit_law (b ∷ bs) d e f =
    let p = and_parts (is_word_start b) (list_all is_word bs) e in
    has_texts (b ∷ bs ++ 91 ∷ (d ++ 93 ∷ [])) _ (starts_word b (bs ++ 91 ∷ (d ++ 93 ∷ [])) p.0)
    (λ z stop.
    ap (λ (x : List ℕ). texts (b ∷ x)) (append_assoc bs (91 ∷ (d ++ 93 ∷ [])) z)
    ∙ name_texts b bs (91 ∷ ((d ++ 93 ∷ []) ++ z)) p.0 p.1 refl
    ∙ ap (λ (x : List ℕ). (b ∷ bs) ∷ texts (91 ∷ x)) (append_assoc d (93 ∷ []) z)
    ∙ ap (λ (l : List (List ℕ)). (b ∷ bs) ∷ l) (index_behind d z f))

some_of : (w : List ℕ) → nat_lt 0 (length w) ≡ true → 0 < length w
some_of w e = grind (arith, nat_tests)

pub escaped_law : EscapedLaw
escaped_law w e =
    let p = and_parts (nat_lt 0 (length w)) (list_all (λ c. not (is_blank c)) w) e in
    has_texts (92 ∷ (w ++ 32 ∷ [])) _ (starts_escape (w ++ 32 ∷ []))
    (λ z stop. ap (λ (x : List ℕ). texts (92 ∷ x)) (append_assoc w (32 ∷ []) z) ∙ escaped_texts w z (some_of w p.0) p.1)

pub escaped_bit_law : EscapedBitLaw
escaped_bit_law w d e f =
    let p = and_parts (nat_lt 0 (length w)) (list_all (λ c. not (is_blank c)) w) e in
    let index = 91 ∷ (d ++ 93 ∷ []) in
    has_texts (92 ∷ (w ++ 32 ∷ index)) _ (starts_escape (w ++ 32 ∷ index))
    (λ z stop.
    ap (λ (x : List ℕ). texts (92 ∷ x)) (append_assoc w (32 ∷ index) z)
    ∙ escaped_texts w (index ++ z) (some_of w p.0) p.1
    ∙ ap (λ (x : List ℕ). (92 ∷ (w ++ 32 ∷ [])) ∷ texts (91 ∷ x)) (append_assoc d (93 ∷ []) z)
    ∙ ap (λ (l : List (List ℕ)). (92 ∷ (w ++ 32 ∷ [])) ∷ l) (index_behind d z f))
