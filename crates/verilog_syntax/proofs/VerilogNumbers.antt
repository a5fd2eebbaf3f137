-- The digits of a constant, the constant, and the number: the longest front that is one.
use Rattle.std.proofs.Common.{◌≡◌, ℕ, zero, suc, ◌+◌, ◌-◌, ◌<◌, ◌≤◌, Bool, true, false, cond, ◌&&◌, ◌||◌, eqb, min, List, [], ◌∷◌, length, take, drop, refl, ap, ◌∙◌, arith, length-take, length-drop}
use Rattle.std.specs.Prelude.{nat_lt}
use Rattle.std.specs.List.{prefix_len}
use Rattle.std.proofs.lemmas.List.{drop-take}
use Rattle.std.proofs.lemmas.Bool.{and_parts, and_from, and_left, and_right, or_left, or_right}
use Rattle.std.proofs.lemmas.Bool.Decides.{nat_tests}
use Rattle.verilog_syntax.specs.VerilogTokens.{is_digit, is_digit_of, digits_len, based_len, number_len}
use Rattle.verilog_syntax.specs.VerilogSplit.{are_digits_of, is_based, is_number}
use Rattle.verilog_syntax.proofs.VerilogPieces.{number_fits}

pub prefix_len-take : (p : ℕ → Bool) (m : ℕ) (bs : List ℕ) → prefix_len p (take m bs) ≡ min m (prefix_len p bs)
prefix_len-take p zero bs = omega arith
prefix_len-take p (suc m) [] = omega arith
prefix_len-take p (suc m) (b ∷ bs) =
    let h = prefix_len-take p m bs in
    elim (p b) as (λ t. cond t (1 + prefix_len p (take m bs)) 0 ≡ min (suc m) (cond t (1 + prefix_len p bs) 0)) [ true ↦ omega arith | false ↦ omega arith ]

-- what is known of a byte and of how far the digits go on behind it
abbrev pub digit_step : Bool → Bool → ℕ → ℕ
digit_step digit line n = cond digit (1 + n) (cond (line && nat_lt 0 n) (1 + n) 0)

module _ (base : ℕ) where
  abbrev leads : ℕ → List ℕ → Bool
  leads c cs = is_digit_of base c || (eqb c 95 && nat_lt 0 (digits_len base cs))

  -- of a digit, or of _ with a digit somewhere behind it
  or_digit : (t u : Bool) → (t || (u && false)) ≡ true → t ≡ true
  or_digit true u e = refl
  or_digit false true e = e
  or_digit false false e = e

  or_line : (t u v : Bool) → v ≡ true → (t || (u && v)) ≡ true → (t || u) ≡ true
  or_line true u v s e = refl
  or_line false true v s e = refl
  or_line false false v s e = e

  digits_is : (c : ℕ) (cs : List ℕ) → leads c cs ≡ true → are_digits_of base (c ∷ take (digits_len base cs) cs) ≡ true
  digits_is c [] h = or_digit (is_digit_of base c) (eqb c 95) h
  digits_is c (e ∷ es) h =
      let n = digits_len base es in
      let k : 1 + n ≡ suc n = omega arith in
      let some : nat_lt 0 (1 + n) ≡ true = grind (arith, nat_tests) in
      let on : (is_digit_of base c || (eqb c 95 && nat_lt 0 (1 + n))) ≡ true → leads e es ≡ true → are_digits_of base (c ∷ take (1 + n) (e ∷ es)) ≡ true
      = λ l m. rw k (and_from (is_digit_of base c || eqb c 95) (are_digits_of base (e ∷ take n es)) (or_line (is_digit_of base c) (eqb c 95) (nat_lt 0 (1 + n)) some l) (digits_is e es m))
      in
      let line : (u : Bool) → (eqb e 95 && nat_lt 0 n) ≡ u → is_digit_of base e ≡ false → (is_digit_of base c || (eqb c 95 && nat_lt 0 (cond u (1 + n) 0))) ≡ true → are_digits_of base (c ∷ take (cond u (1 + n) 0) (e ∷ es)) ≡ true
      = λ u. elim u as (λ u. (eqb e 95 && nat_lt 0 n) ≡ u → is_digit_of base e ≡ false → (is_digit_of base c || (eqb c 95 && nat_lt 0 (cond u (1 + n) 0))) ≡ true → are_digits_of base (c ∷ take (cond u (1 + n) 0) (e ∷ es)) ≡ true) [
        | true ↦ λ is d l. on l (or_right (is_digit_of base e) (eqb e 95 && nat_lt 0 n) is)
        | false ↦ λ is d l. or_digit (is_digit_of base c) (eqb c 95) l
      ]
      in
      let digit : (t : Bool) → is_digit_of base e ≡ t → (is_digit_of base c || (eqb c 95 && nat_lt 0 (cond t (1 + n) (cond (eqb e 95 && nat_lt 0 n) (1 + n) 0)))) ≡ true
      → are_digits_of base (c ∷ take (cond t (1 + n) (cond (eqb e 95 && nat_lt 0 n) (1 + n) 0)) (e ∷ es)) ≡ true
      = λ t. elim t as (λ t. is_digit_of base e ≡ t → (is_digit_of base c || (eqb c 95 && nat_lt 0 (cond t (1 + n) (cond (eqb e 95 && nat_lt 0 n) (1 + n) 0)))) ≡ true
      → are_digits_of base (c ∷ take (cond t (1 + n) (cond (eqb e 95 && nat_lt 0 n) (1 + n) 0)) (e ∷ es)) ≡ true) [
        | true ↦ λ is l. on l (or_left (is_digit_of base e) (eqb e 95 && nat_lt 0 n) is)
        | false ↦ λ is l. line (eqb e 95 && nat_lt 0 n) refl is l
      ]
      in digit (is_digit_of base e) refl h

  digits_rest : (e : ℕ) (es : List ℕ) (m : ℕ) → digits_len base (e ∷ es) < suc m → m ≤ length es → are_digits_of base (e ∷ take m es) ≡ false
  digits_rest e es zero lt le =
      let cases : (t : Bool) (k : ℕ) → cond t (1 + digits_len base es) k < 1 → t ≡ false
      = λ t k. elim t as (λ t. cond t (1 + digits_len base es) k < 1 → t ≡ false) [ true ↦ λ l. absurd (omega arith) | false ↦ λ l. refl ]
      in cases (is_digit_of base e) _ lt
  digits_rest e [] (suc m) lt le = absurd (omega arith)
  digits_rest e (f ∷ fs) (suc m) lt le =
      let n = digits_len base (f ∷ fs) in
      let cases : (t u : Bool) → cond t (1 + n) (cond (u && nat_lt 0 n) (1 + n) 0) < suc (suc m) → (n < suc m → are_digits_of base (f ∷ take m fs) ≡ false) → ((t || u) && are_digits_of base (f ∷ take m fs)) ≡ false
      = λ t u. elim t as (λ t. cond t (1 + n) (cond (u && nat_lt 0 n) (1 + n) 0) < suc (suc m) → (n < suc m → are_digits_of base (f ∷ take m fs) ≡ false) → ((t || u) && are_digits_of base (f ∷ take m fs)) ≡ false) [
        | true ↦ λ l more. more (omega arith)
        | false ↦ elim u as (λ u. cond (u && nat_lt 0 n) (1 + n) 0 < suc (suc m) → (n < suc m → are_digits_of base (f ∷ take m fs) ≡ false) → (u && are_digits_of base (f ∷ take m fs)) ≡ false) [
          | true ↦ λ l more. more (grind (arith, nat_tests))
          | false ↦ λ l more. refl
        ]
      ]
      in cases (is_digit_of base e) (eqb e 95) lt (λ l. digits_rest f fs m l (omega arith))

  -- no longer front has such digits
  digits_longest : (c : ℕ) (cs : List ℕ) (m : ℕ) → digits_len base cs < m → m ≤ length cs → are_digits_of base (c ∷ take m cs) ≡ false
  digits_longest c [] m lt le = absurd (omega arith)
  digits_longest c (e ∷ es) zero lt le = absurd (omega arith)
  digits_longest c (e ∷ es) (suc m) lt le = and_right (is_digit_of base c || eqb c 95) (are_digits_of base (e ∷ take m es)) (digits_rest e es m lt (omega arith))

  based_is : (q c : ℕ) (cs : List ℕ) (t : Bool) → (eqb q 39 && is_digit_of base c) ≡ t → (eqb (cond t (3 + digits_len base cs) 0) 0 || is_based (take (cond t (3 + digits_len base cs) 0) (q ∷ base ∷ c ∷ cs))) ≡ true
  based_is q c cs false is = refl
  based_is q c cs true is =
      let parts = and_parts (eqb q 39) (is_digit_of base c) is in
      let d = digits_is c cs (or_left (is_digit_of base c) _ parts.1) in
      let k : 3 + digits_len base cs ≡ suc (suc (suc (digits_len base cs))) = omega arith in
      rw k (or_right (eqb (suc (suc (suc (digits_len base cs)))) 0) _ (and_from (eqb q 39 && is_digit_of base c) _ is d))

  based_longest : (q c : ℕ) (cs : List ℕ) (m : ℕ) (t : Bool) → (eqb q 39 && is_digit_of base c) ≡ t → cond t (3 + digits_len base cs) 0 < m → m ≤ suc (suc (suc (length cs))) → is_based (take m (q ∷ base ∷ c ∷ cs)) ≡ false
  based_longest q c cs zero t is lt le = absurd (omega arith)
  based_longest q c cs (suc zero) t is lt le = refl
  based_longest q c cs (suc (suc zero)) t is lt le = refl
  based_longest q c cs (suc (suc (suc m))) false is lt le = and_left (eqb q 39 && is_digit_of base c) (are_digits_of base (c ∷ take m cs)) is
  based_longest q c cs (suc (suc (suc m))) true is lt le = and_right (eqb q 39 && is_digit_of base c) (are_digits_of base (c ∷ take m cs)) (digits_longest c cs m (omega arith) (omega arith))

rest_is : (r : List ℕ) → (eqb (based_len r) 0 || is_based (take (based_len r) r)) ≡ true
unfolding based_len
rest_is [] = refl
rest_is (q ∷ []) = refl
rest_is (q ∷ base ∷ []) = refl
rest_is (q ∷ base ∷ c ∷ cs) = based_is base q c cs (eqb q 39 && is_digit_of base c) refl

rest_longest : (r : List ℕ) (m : ℕ) → based_len r < m → m ≤ length r → is_based (take m r) ≡ false
unfolding based_len
rest_longest [] m lt le = absurd (omega arith)
rest_longest (q ∷ []) zero lt le = absurd (omega arith)
rest_longest (q ∷ []) (suc zero) lt le = refl
rest_longest (q ∷ []) (suc (suc m)) lt le = absurd (omega arith)
rest_longest (q ∷ base ∷ []) zero lt le = absurd (omega arith)
rest_longest (q ∷ base ∷ []) (suc zero) lt le = refl
rest_longest (q ∷ base ∷ []) (suc (suc zero)) lt le = refl
rest_longest (q ∷ base ∷ []) (suc (suc (suc m))) lt le = absurd (omega arith)
rest_longest (q ∷ base ∷ c ∷ cs) m lt le = based_longest base q c cs m (eqb q 39 && is_digit_of base c) refl lt le

-- a front of j bytes more than the digits
number_front : (bs : List ℕ) (j : ℕ) → prefix_len is_digit bs + j ≤ length bs → is_number (take (prefix_len is_digit bs + j) bs) ≡ (eqb j 0 || is_based (take j (drop (prefix_len is_digit bs) bs)))
number_front bs j le =
    let n = prefix_len is_digit bs in
    let p : prefix_len is_digit (take (n + j) bs) ≡ n = prefix_len-take is_digit (n + j) bs ∙ omega arith in
    let l : length (take (n + j) bs) ≡ n + j = length-take (n + j) bs ∙ omega arith in
    let e : eqb n (n + j) ≡ eqb j 0 = grind (arith, nat_tests) in
    rw (p, l, e, drop-take n j bs) refl

pub number_is : (bs : List ℕ) → is_number (take (number_len bs) bs) ≡ true
unfolding number_len
number_is bs =
    let n = prefix_len is_digit bs in
    let r = drop n bs in
    number_front bs (based_len r) (number_fits bs) ∙ rest_is r

pub number_longest : (bs : List ℕ) (m : ℕ) → number_len bs < m → m ≤ length bs → is_number (take m bs) ≡ false
unfolding number_len
number_longest bs m lt le =
    let n = prefix_len is_digit bs in
    let j = m - n in
    let k : m ≡ n + j = omega arith in
    let d = length-drop n bs in
    let some : eqb j 0 ≡ false = grind (arith, nat_tests) in
    ap (λ (x : ℕ). is_number (take x bs)) k ∙ number_front bs j (omega arith) ∙ rw (some, rest_longest (drop n bs) j (omega arith) (omega arith)) refl
