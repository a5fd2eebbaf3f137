-- A piece of a Verilog text that is a token is the longest one there, and no comment, attribute or directive begins there.
use Rattle.std.proofs.Common.{◌≡◌, ℕ, zero, suc, ◌+◌, ◌<◌, ◌≤◌, Bool, true, false, cond, not, ◌&&◌, ◌||◌, eqb, min, List, [], ◌∷◌, length, take, refl, sym, ap, ◌∙◌, subst, arith, length-take}
use Rattle.std.specs.List.{prefix_len, list_all}
use Rattle.std.proofs.lemmas.List.Sums.{prefix_len-le-length}
use Rattle.std.proofs.lemmas.Bool.{eqb-true}
use Rattle.std.proofs.lemmas.Bool.Decides.{nat_tests}
use Rattle.token_forms.specs.declared.piece.Piece.{Piece}
use Rattle.token_forms.specs.declared.piece.Piece.TheVariants.{Token}
use Rattle.verilog_syntax.specs.VerilogTokens.{is_blank, is_digit, is_word_start, is_word, is_directive, number_len, slash_piece, open_piece, tick_piece, escaped_piece, piece_at}
use Rattle.verilog_syntax.specs.VerilogSplit.{is_escaped, is_token, begins_with_two, begins_remark, IsLongestToken}
use Rattle.verilog_syntax.proofs.VerilogNumbers.{prefix_len-take, number_is, number_longest}

-- the longest run passes, and no longer front does
run_all : (p : ℕ → Bool) (bs : List ℕ) → list_all p (take (prefix_len p bs) bs) ≡ true
run_all p [] = refl
run_all p (b ∷ bs) =
    let h = run_all p bs in
    let cases : (t : Bool) → p b ≡ t → list_all p (take (cond t (1 + prefix_len p bs) 0) (b ∷ bs)) ≡ true
    = λ t. elim t as (λ t. p b ≡ t → list_all p (take (cond t (1 + prefix_len p bs) 0) (b ∷ bs)) ≡ true) [
      | true ↦ λ e. let k : 1 + prefix_len p bs ≡ suc (prefix_len p bs) = omega arith in rw k (rw e h)
      | false ↦ λ e. refl
    ]
    in cases (p b) refl

run_longest : (p : ℕ → Bool) (bs : List ℕ) (m : ℕ) → prefix_len p bs < m → m ≤ length bs → list_all p (take m bs) ≡ false
run_longest p [] m lt le = absurd (omega arith)
run_longest p (b ∷ bs) zero lt le = absurd (omega arith)
run_longest p (b ∷ bs) (suc m) lt le =
    let cases : (t : Bool) → p b ≡ t → cond t (1 + prefix_len p bs) 0 < suc m → (p b && list_all p (take m bs)) ≡ false
    = λ t. elim t as (λ t. p b ≡ t → cond t (1 + prefix_len p bs) 0 < suc m → (p b && list_all p (take m bs)) ≡ false) [
      | true ↦ λ e l. rw e (run_longest p bs m (omega arith) (omega arith))
      | false ↦ λ e l. rw e refl
    ]
    in cases (p b) refl lt

longest_by : (b : ℕ) (bs : List ℕ) (n : ℕ) → is_token (b ∷ take n bs) ≡ true → ((m : ℕ) → n < m → m ≤ length bs → is_token (b ∷ take m bs) ≡ false)
    → begins_remark (b ∷ bs) ≡ false → IsLongestToken (b ∷ bs) (1 + n)
longest_by b bs n is longer remark =
    let k : 1 + n ≡ suc n = omega arith in
    let each : (m : ℕ) → suc n < m → m ≤ suc (length bs) → is_token (take m (b ∷ bs)) ≡ false
    = λ m. elim m as (λ m. suc n < m → m ≤ suc (length bs) → is_token (take m (b ∷ bs)) ≡ false) [
      | zero ↦ λ lt le. absurd (omega arith)
      | suc m ↦ λ lt le. longer m (omega arith) (omega arith)
    ]
    in
    rw k (record { is = is; longest = each; no_remark = remark })

-- a byte that a test passes is not one that it fails
pub not_byte : (p : ℕ → Bool) (b c : ℕ) → p c ≡ false → p b ≡ true → eqb b c ≡ false
not_byte p b c fails passes =
    let cases : (t : Bool) → eqb b c ≡ t → t ≡ false
    = λ t. elim t as (λ t. eqb b c ≡ t → t ≡ false) [ true ↦ λ e. let same = eqb-true b c e in let other : p b ≡ p c = ap p same in cc | false ↦ λ e. refl ]
    in cases (eqb b c) refl

two_by : (first second b : ℕ) (bs : List ℕ) → eqb b first ≡ false → begins_with_two first second (b ∷ bs) ≡ false
two_by first second b [] e = refl
two_by first second b (c ∷ cs) e = rw e refl

-- no remark begins with a byte that is no slash, no parenthesis and no backtick
no_remark_by : (b : ℕ) (bs : List ℕ) → eqb b 47 ≡ false → eqb b 40 ≡ false → eqb b 96 ≡ false → begins_remark (b ∷ bs) ≡ false
no_remark_by b bs slash paren tick = rw (two_by 47 47 b bs slash, two_by 47 42 b bs slash, two_by 40 42 b bs paren, tick) refl

no_remark_at : (p : ℕ → Bool) (b : ℕ) (bs : List ℕ) → p 47 ≡ false → p 40 ≡ false → p 96 ≡ false → p b ≡ true → begins_remark (b ∷ bs) ≡ false
no_remark_at p b bs slash paren tick is = no_remark_by b bs (not_byte p b 47 slash is) (not_byte p b 40 paren is) (not_byte p b 96 tick is)

ltb_pos : (n : ℕ) → 0 < n → eqb n 0 ≡ false
ltb_pos n h = grind (arith, nat_tests)

not_zero : (n : ℕ) → eqb n 0 ≡ false → 0 < n
not_zero n h = grind (arith, nat_tests)

token_is : (m n : ℕ) → Token m ≡ Token n → m ≡ n
token_is m n e = cc

pub choose : {P : Type 0} (t : Bool) (x y z : Piece) → cond t x y ≡ z → (t ≡ true → x ≡ z → P) → (t ≡ false → y ≡ z → P) → P
choose true x y z h f g = f refl h
choose false x y z h f g = g refl h

-- a slash, a parenthesis or a backtick that is a token begins no remark
slash_alone : (bs : List ℕ) (n : ℕ) → slash_piece bs ≡ Token n → (1 ≡ n) × (begins_remark (47 ∷ bs) ≡ false)
unfolding slash_piece
slash_alone [] n h = (token_is 1 n h, refl)
slash_alone (c ∷ cs) n h =
    choose (eqb c 47) _ _ _ h (λ e k. absurd cc)
    (λ one k. choose (eqb c 42) _ _ _ k (λ e l. absurd cc) (λ two l. (token_is 1 n l, rw (one, two) refl)))

open_alone : (bs : List ℕ) (n : ℕ) → open_piece bs ≡ Token n → (1 ≡ n) × (begins_remark (40 ∷ bs) ≡ false)
unfolding open_piece
open_alone [] n h = (token_is 1 n h, refl)
open_alone (c ∷ cs) n h = choose (eqb c 42) _ _ _ h (λ e k. absurd cc) (λ two l. (token_is 1 n l, rw two refl))

tick_alone : (bs : List ℕ) (n : ℕ) → tick_piece bs ≡ Token n → (1 ≡ n) × (begins_remark (96 ∷ bs) ≡ false)
unfolding tick_piece
tick_alone bs n h =
    choose (is_directive (take (prefix_len is_word bs) bs)) _ _ _ h (λ e k. absurd cc)
    (λ no l. (token_is 1 n l, rw (two_by 47 47 96 bs refl, no) refl))

module _ (b : ℕ) (bs : List ℕ) (blank : is_blank b ≡ false) where
  word : is_word_start b ≡ true → IsLongestToken (b ∷ bs) (1 + prefix_len is_word bs)
  word start =
      longest_by b bs (prefix_len is_word bs) (rw (blank, start) (run_all is_word bs)) (λ m lt le. rw (blank, start) (run_longest is_word bs m lt le))
      (no_remark_at is_word_start b bs refl refl refl start)

  module _ (start : is_word_start b ≡ false) where
    number : is_digit b ≡ true → IsLongestToken (b ∷ bs) (1 + number_len bs)
    number digit =
        longest_by b bs (number_len bs) (rw (blank, start, digit) (number_is bs)) (λ m lt le. rw (blank, start, digit) (number_longest bs m lt le))
        (no_remark_at is_digit b bs refl refl refl digit)

    module _ (digit : is_digit b ≡ false) where
      other : (xs : List ℕ) → is_token (b ∷ xs) ≡ (eqb b 92 && is_escaped xs || eqb (length xs) 0)
      other xs = rw (blank, start, digit) refl

      mark : eqb b 92 ≡ false → begins_remark (b ∷ bs) ≡ false → IsLongestToken (b ∷ bs) 1
      mark plain remark =
          longest_by b bs 0 (other [] ∙ rw plain refl)
          (λ m lt le. let len = length-take m bs in other (take m bs) ∙ rw plain (ltb_pos (length (take m bs)) (omega arith))) remark

      -- the bytes behind the backslash that aren't blanks
      named : ℕ
      named = prefix_len (λ c. not (is_blank c)) bs

      escaped_is : 0 < named → is_escaped (take (min (named + 1) (length bs)) bs) ≡ true
      unfolding named
      escaped_is some =
          let n = prefix_len-take (λ c. not (is_blank c)) (min (named + 1) (length bs)) bs in
          let len = length-take (min (named + 1) (length bs)) bs in
          let le = prefix_len-le-length (λ c. not (is_blank c)) bs in
          grind (arith, nat_tests)

      escaped_longest : (m : ℕ) → min (named + 1) (length bs) < m → m ≤ length bs → is_escaped (take m bs) ≡ false
      unfolding named
      escaped_longest m lt le =
          let n = prefix_len-take (λ c. not (is_blank c)) m bs in
          let len = length-take m bs in
          grind (arith, nat_tests)

      escaped_none : eqb named 0 ≡ true → (m : ℕ) → is_escaped (take m bs) ≡ false
      unfolding named
      escaped_none none m =
          let n = prefix_len-take (λ c. not (is_blank c)) m bs in
          let zero_is = eqb-true (prefix_len (λ c. not (is_blank c)) bs) 0 none in
          grind (arith, nat_tests)

      escaped : (n : ℕ) → eqb b 92 ≡ true → escaped_piece bs ≡ Token n → IsLongestToken (b ∷ bs) n
      unfolding escaped_piece named
      escaped n slash h =
          let remark = no_remark_at (λ c. eqb c 92) b bs refl refl refl slash in
          choose (eqb named 0) _ _ _ h
          (λ none k.
          subst (IsLongestToken (b ∷ bs)) (token_is 1 n k)
          (longest_by b bs 0 (other [] ∙ rw slash refl)
          (λ m lt le. let len = length-take m bs in other (take m bs) ∙ rw (slash, escaped_none none m) (ltb_pos (length (take m bs)) (omega arith)))
          remark))
          (λ some k.
          let positive : 0 < named = not_zero named some in
          subst (IsLongestToken (b ∷ bs)) (token_is (1 + min (named + 1) (length bs)) n k)
          (longest_by b bs (min (named + 1) (length bs)) (other (take (min (named + 1) (length bs)) bs) ∙ rw (slash, escaped_is positive) refl)
          (λ m lt le. let len = length-take m bs in other (take m bs) ∙ rw (slash, escaped_longest m lt le) (ltb_pos (length (take m bs)) (omega arith)))
          remark))

      -- one of the bytes that begin a remark, where none begins
      single : (c n : ℕ) → eqb b 92 ≡ false → eqb b c ≡ true → (1 ≡ n) × (begins_remark (c ∷ bs) ≡ false) → IsLongestToken (b ∷ bs) n
      single c n plain is r = let same = eqb-true b c is in subst (IsLongestToken (b ∷ bs)) r.0 (mark plain (subst (λ (x : ℕ). begins_remark (x ∷ bs) ≡ false) (sym same) r.1))

-- a piece that is a token is the longest one there
pub piece-longest : (b : ℕ) (bs : List ℕ) (n : ℕ) → piece_at (b ∷ bs) ≡ Token n → IsLongestToken (b ∷ bs) n
unfolding piece_at
piece-longest b bs n h =
    choose (is_blank b) _ _ _ h (λ e k. absurd cc)
    (λ blank k. choose (is_word_start b) _ _ _ k (λ start k. subst (IsLongestToken (b ∷ bs)) (token_is _ n k) (word b bs blank start))
    (λ start k. choose (is_digit b) _ _ _ k (λ digit k. subst (IsLongestToken (b ∷ bs)) (token_is _ n k) (number b bs blank start digit))
    (λ digit k. choose (eqb b 92) _ _ _ k (λ slash k. escaped b bs blank start digit n slash k)
    (λ plain k. choose (eqb b 47) _ _ _ k (λ slash k. single b bs blank start digit 47 n plain slash (slash_alone bs n k))
    (λ slash k. choose (eqb b 40) _ _ _ k (λ paren k. single b bs blank start digit 40 n plain paren (open_alone bs n k))
    (λ paren k. choose (eqb b 96) _ _ _ k (λ tick k. single b bs blank start digit 96 n plain tick (tick_alone bs n k))
    (λ tick k. subst (IsLongestToken (b ∷ bs)) (token_is 1 n k) (mark b bs blank start digit plain (no_remark_by b bs slash paren tick)))))))))
