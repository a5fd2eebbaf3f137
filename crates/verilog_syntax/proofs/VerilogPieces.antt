-- Each piece of a Verilog text has a byte at least, and lies in the text.
use Rattle.std.proofs.Common.{◌≡◌, ℕ, ◌+◌, ◌<◌, ◌≤◌, Bool, true, false, cond, min, List, [], ◌∷◌, length, drop, get_or, eqb, not, refl, ap, ◌∙◌, arith, length-drop, ◌&&◌}
use Rattle.std.specs.Prelude.{nat_lt}
use Rattle.std.specs.List.{prefix_len}
use Rattle.std.proofs.lemmas.List.{drop_more}
use Rattle.std.proofs.lemmas.List.Sums.{prefix_len-le-length}
use Rattle.std.proofs.lemmas.Bool.Decides.{nat_tests}
use Rattle.token_forms.specs.declared.piece.Piece.{Piece}
use Rattle.token_forms.specs.declared.piece.Piece.TheVariants.{Blank, Token}
use Rattle.verilog_syntax.specs.VerilogTokens.{is_blank, is_digit, is_digit_of, is_word, digits_len, based_len, number_len, closed_len, line_len, slash_piece, open_piece, tick_piece, escaped_piece, piece_at}
use Rattle.token_forms.proofs.Cuts.{IsWithin, IsCut}

cond_within : (b : Bool) (p q : Piece) (n : ℕ) → IsWithin p n → IsWithin q n → IsWithin (cond b p q) n
cond_within true p q n h k = h
cond_within false p q n h k = k

pub closed_len-le : (closing : ℕ) (bs : List ℕ) → closed_len closing bs ≤ length bs
closed_len-le closing [] = omega arith
closed_len-le closing (b ∷ []) = omega arith
closed_len-le closing (b ∷ c ∷ bs) = let h = closed_len-le closing (c ∷ bs) in grind (arith, nat_tests)

pub closed_len-short : (closing : ℕ) (bs : List ℕ) → length bs ≤ 1 → closed_len closing bs ≡ length bs
closed_len-short closing [] h = refl
closed_len-short closing (b ∷ []) h = refl
closed_len-short closing (b ∷ c ∷ bs) h = absurd (omega arith)

-- one byte more of a constant's digits: n bytes of them stand behind it
abbrev digit_step : Bool → Bool → ℕ → ℕ
digit_step digit line n = cond digit (1 + n) (cond (line && nat_lt 0 n) (1 + n) 0)

pub digits_len-le : (base : ℕ) (bs : List ℕ) → digits_len base bs ≤ length bs
digits_len-le base [] = omega arith
digits_len-le base (c ∷ cs) = let h = digits_len-le base cs in grind (arith, nat_tests)

pub based_len-le : (bs : List ℕ) → based_len bs ≤ length bs
unfolding based_len
based_len-le [] = omega arith
based_len-le (q ∷ []) = omega arith
based_len-le (q ∷ base ∷ []) = omega arith
based_len-le (q ∷ base ∷ c ∷ cs) = let h = digits_len-le base cs in grind (arith, nat_tests)

pub number_len-le : (bs : List ℕ) → number_len bs ≤ length bs
unfolding number_len
number_len-le bs = omega (arith, prefix_len-le-length is_digit bs, based_len-le (drop (prefix_len is_digit bs) bs), length-drop (prefix_len is_digit bs) bs)

within_blank : (k n : ℕ) → 0 < k → k ≤ n → IsWithin (Blank k) n
within_blank k n some within = record { some = some; within = within }

within_token : (k n : ℕ) → 0 < k → k ≤ n → IsWithin (Token k) n
within_token k n some within = record { some = some; within = within }

one_token : (n : ℕ) → IsWithin (Token 1) (1 + n)
one_token n = within_token 1 (1 + n) (omega arith) (omega arith)

-- one byte and a run behind it
run_within : (p : ℕ → Bool) (bs : List ℕ) → 1 + prefix_len p bs ≤ 1 + length bs
run_within p bs = omega (arith, prefix_len-le-length p bs)

slash-within : (bs : List ℕ) → IsWithin (slash_piece bs) (1 + length bs)
unfolding slash_piece
slash-within [] = one_token 0
slash-within (b ∷ bs) =
    cond_within _ _ _ _ (within_blank (2 + line_len bs) (1 + length (b ∷ bs)) (omega arith) (omega (arith, prefix_len-le-length (λ c. not (eqb c 10)) bs)))
    (cond_within _ _ _ _ (within_blank (2 + closed_len 47 bs) (1 + length (b ∷ bs)) (omega arith) (omega (arith, closed_len-le 47 bs)))
    (one_token (length (b ∷ bs))))

open-within : (bs : List ℕ) → IsWithin (open_piece bs) (1 + length bs)
unfolding open_piece
open-within [] = one_token 0
open-within (b ∷ bs) =
    cond_within _ _ _ _ (within_blank (2 + closed_len 41 bs) (1 + length (b ∷ bs)) (omega arith) (omega (arith, closed_len-le 41 bs))) (one_token (length (b ∷ bs)))

tick-within : (bs : List ℕ) → IsWithin (tick_piece bs) (1 + length bs)
unfolding tick_piece
tick-within bs =
    let n = prefix_len is_word bs in
    let fits : n + line_len (drop n bs) ≤ length bs = omega (arith, prefix_len-le-length is_word bs, prefix_len-le-length (λ c. not (eqb c 10)) (drop n bs), length-drop n bs) in
    cond_within _ _ _ _ (within_blank (1 + (n + line_len (drop n bs))) (1 + length bs) (omega arith) (omega arith)) (one_token (length bs))

escaped-within : (bs : List ℕ) → IsWithin (escaped_piece bs) (1 + length bs)
unfolding escaped_piece
escaped-within bs =
    cond_within _ _ _ _ (one_token (length bs))
    (within_token (1 + min (prefix_len (λ c. not (is_blank c)) bs + 1) (length bs)) (1 + length bs) (omega arith) (omega arith))

piece-within : (b : ℕ) (bs : List ℕ) → IsWithin (piece_at (b ∷ bs)) (1 + length bs)
unfolding piece_at
piece-within b bs =
    cond_within _ _ _ _ (within_blank (1 + prefix_len is_blank bs) (1 + length bs) (omega arith) (run_within is_blank bs))
    (cond_within _ _ _ _ (within_token (1 + prefix_len is_word bs) (1 + length bs) (omega arith) (run_within is_word bs))
    (cond_within _ _ _ _ (within_token (1 + number_len bs) (1 + length bs) (omega arith) (omega (arith, number_len-le bs)))
    (cond_within _ _ _ _ (escaped-within bs)
    (cond_within _ _ _ _ (slash-within bs)
    (cond_within _ _ _ _ (open-within bs)
    (cond_within _ _ _ _ (tick-within bs) (one_token (length bs))))))))

pub verilog_cut : IsCut piece_at
unfolding piece_at
verilog_cut = record { empty = refl; each = piece-within }

-- the loop over a constant's digits: what is known of the whole, with so many bytes behind the last digit
pub record DigitsSoFar (base : ℕ) (bytes : List ℕ) (at len : ℕ) : Type 0 where
  pub more : 0 < digits_len base (drop at bytes) → digits_len base bytes ≡ at + digits_len base (drop at bytes)
  pub done : digits_len base (drop at bytes) ≡ 0 → digits_len base bytes ≡ len

pub digits_begin : (base : ℕ) (bytes : List ℕ) → DigitsSoFar base bytes 0 0
digits_begin base bytes = record { more = λ h. omega arith; done = λ h. h }

digits_at : (base : ℕ) (bytes : List ℕ) (at : ℕ) → at < length bytes → digits_len base (drop at bytes) ≡ digits_len base (get_or bytes at 0 ∷ drop (at + 1) bytes)
digits_at base bytes at lt = ap (digits_len base) (drop_more bytes at 0 lt)

pub digits_more : (base : ℕ) (bytes : List ℕ) (at len : ℕ) → at < length bytes → is_digit_of base (get_or bytes at 0) ≡ true → DigitsSoFar base bytes at len → DigitsSoFar base bytes (at + 1) (at + 1)
digits_more base bytes at len lt digit s =
    let r : digits_len base (drop at bytes) ≡ 1 + digits_len base (drop (at + 1) bytes) = digits_at base bytes at lt ∙ rw digit refl in
    let whole = s.more (omega arith) in
    record { more = λ h. omega arith; done = λ h. omega arith }

pub digits_line : (base : ℕ) (bytes : List ℕ) (at len : ℕ) → at < length bytes → is_digit_of base (get_or bytes at 0) ≡ false → eqb (get_or bytes at 0) 95 ≡ true
    → DigitsSoFar base bytes at len → DigitsSoFar base bytes (at + 1) len
digits_line base bytes at len lt digit line s =
    let n = digits_len base (drop (at + 1) bytes) in
    let r : digits_len base (drop at bytes) ≡ digit_step false true n = digits_at base bytes at lt ∙ rw (digit, line) refl in
    record {
      more = λ h. let l : nat_lt 0 n ≡ true = grind (arith, nat_tests) in let k : digits_len base (drop at bytes) ≡ 1 + n = r ∙ rw l refl in let whole = s.more (omega arith) in omega arith;
      done = λ h. let k : digits_len base (drop at bytes) ≡ 0 = r ∙ rw h refl in s.done k;
    }

pub digits_end : (base : ℕ) (bytes : List ℕ) (at len : ℕ) → at < length bytes → is_digit_of base (get_or bytes at 0) ≡ false → eqb (get_or bytes at 0) 95 ≡ false
    → DigitsSoFar base bytes at len → digits_len base bytes ≡ len
digits_end base bytes at len lt digit line s = s.done (digits_at base bytes at lt ∙ rw (digit, line) refl)

pub number_fits : (bs : List ℕ) → prefix_len is_digit bs + based_len (drop (prefix_len is_digit bs) bs) ≤ length bs
unfolding number_len
number_fits bs = number_len-le bs
