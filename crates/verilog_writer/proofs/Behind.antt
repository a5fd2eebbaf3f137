-- Verilog's tokens at a place behind which anything may follow: a token that ends in front of a mark is decided, and so is what
-- counts as blanks, up to a token.
use Rattle.std.proofs.Common.{◌≡◌, ℕ, suc, ◌+◌, ◌<◌, ◌≤◌, Bool, true, false, cond, not, ◌&&◌, ◌||◌, eqb, min, List, [], ◌∷◌, ◌++◌, length, take, drop, refl, sym, ap, ◌∙◌, inl, inr, arith, length-append, length-drop}
use Rattle.std.specs.Prelude.{nat_le}
use Rattle.std.specs.List.{prefix_len, list_all}
use Rattle.std.proofs.lemmas.List.{drop-append-le, take-append-le}
use Rattle.std.proofs.lemmas.List.Sums.{prefix_len-le-length}
use Rattle.std.proofs.lemmas.Bool.{eqb-true, and_left, and_right, cases_Bool, false≢true}
use Rattle.std.proofs.lemmas.Bool.Decides.{nat_tests}
use Rattle.token_forms.specs.declared.piece.Piece.{Piece}
use Rattle.token_forms.specs.declared.piece.Piece.TheVariants.{Blank, Token}
use Rattle.verilog_syntax.specs.VerilogTokens.{is_blank, is_digit, is_word_start, is_word, is_unknown, is_hex_digit, is_digit_of, is_directive, digits_len, based_len, number_len, closed_len, line_len, slash_piece, open_piece, tick_piece, escaped_piece, piece_at}
use Rattle.verilog_syntax.proofs.VerilogLongest.{choose}
use Rattle.verilog_syntax.proofs.VerilogSeams.{is_inner, Hard}

-- a text that begins with a byte that is no blank
pub record Black (z : List ℕ) : Type 0 where
  pub first : ℕ
  pub behind : List ℕ
  pub is : z ≡ first ∷ behind
  pub black : is_blank first ≡ false

pub token_black : (z : List ℕ) (n : ℕ) → piece_at z ≡ Token n → Black z
unfolding piece_at
token_black [] n e = absurd cc
token_black (b ∷ bs) n e = record { first = b; behind = bs; is = refl; black = choose (is_blank b) _ _ _ e (λ t k. absurd cc) (λ t k. t) }

-- a run that ends within bs
run : (p : ℕ → Bool) (bs y z : List ℕ) → prefix_len p (bs ++ y) < length bs → prefix_len p (bs ++ z) ≡ prefix_len p (bs ++ y)
run p [] y z h = absurd (omega arith)
run p (b ∷ bs) y z h =
    let cases : (t : Bool) → cond t (1 + prefix_len p (bs ++ y)) 0 < suc (length bs) → cond t (1 + prefix_len p (bs ++ z)) 0 ≡ cond t (1 + prefix_len p (bs ++ y)) 0
    = λ t. elim t as (λ t. cond t (1 + prefix_len p (bs ++ y)) 0 < suc (length bs) → cond t (1 + prefix_len p (bs ++ z)) 0 ≡ cond t (1 + prefix_len p (bs ++ y)) 0) [
      | true ↦ λ l. ap (λ (n : ℕ). 1 + n) (run p bs y z (omega arith))
      | false ↦ λ l. refl
    ]
    in cases (p b) h

-- a run that goes on behind bs where what follows goes on with it
run_over : (p : ℕ → Bool) (bs : List ℕ) (c : ℕ) (cs : List ℕ) → p c ≡ true → prefix_len p (bs ++ c ∷ cs) ≤ length bs → prefix_len p (bs ++ c ∷ cs) < length bs
run_over p [] c cs passes le =
    let le' : prefix_len p (c ∷ cs) ≤ 0 = le in
    absurd (omega (arith, rw passes at le'))
run_over p (b ∷ bs) c cs passes le =
    let cases : (t : Bool) → cond t (1 + prefix_len p (bs ++ c ∷ cs)) 0 ≤ suc (length bs) → cond t (1 + prefix_len p (bs ++ c ∷ cs)) 0 < suc (length bs)
    = λ t. elim t as (λ t. cond t (1 + prefix_len p (bs ++ c ∷ cs)) 0 ≤ suc (length bs) → cond t (1 + prefix_len p (bs ++ c ∷ cs)) 0 < suc (length bs)) [
      | true ↦ λ l. let r = run_over p bs c cs passes (omega arith) in omega arith
      | false ↦ λ l. omega arith
    ]
    in cases (p b) le

no_feed : (b : ℕ) → is_blank b ≡ false → not (eqb b 10) ≡ true
no_feed b black = grind (arith, nat_tests)

-- the rest of a line, up to a seam before a byte that is no blank, is decided
line_same : (bs y z : List ℕ) → Black y → line_len (bs ++ y) ≤ length bs → line_len (bs ++ z) ≡ line_len (bs ++ y)
line_same bs y z b le =
    let le' : line_len (bs ++ b.first ∷ b.behind) ≤ length bs = rw (← b.is) le in
    let lt = run_over (λ c. not (eqb c 10)) bs b.first b.behind (no_feed b.first b.black) le' in
    let lt' : line_len (bs ++ y) < length bs = rw b.is lt in
    run (λ c. not (eqb c 10)) bs y z lt'

closed_some : (k b : ℕ) (bs : List ℕ) → 0 < closed_len k (b ∷ bs)
closed_some k b [] = omega arith
closed_some k b (c ∷ bs) = elim (eqb b 42 && eqb c k) as (λ t. 0 < cond t 2 (1 + closed_len k (c ∷ bs))) [ true ↦ omega arith | false ↦ omega arith ]

-- so is a comment or an attribute that ends within bs or with it
closed_same : (k : ℕ) (bs : List ℕ) (c : ℕ) (cs z : List ℕ) → closed_len k (bs ++ c ∷ cs) ≤ length bs → closed_len k (bs ++ z) ≡ closed_len k (bs ++ c ∷ cs)
closed_same k [] c cs z le = absurd (omega (arith, closed_some k c cs))
closed_same k (b ∷ []) c cs z le =
    let some = closed_some k c cs in
    let cases : (t : Bool) → cond t 2 (1 + closed_len k (c ∷ cs)) ≤ 1 → closed_len k (b ∷ z) ≡ cond t 2 (1 + closed_len k (c ∷ cs))
    = λ t. elim t as (λ t. cond t 2 (1 + closed_len k (c ∷ cs)) ≤ 1 → closed_len k (b ∷ z) ≡ cond t 2 (1 + closed_len k (c ∷ cs))) [ true ↦ λ l. absurd (omega arith) | false ↦ λ l. absurd (omega arith) ]
    in cases (eqb b 42 && eqb c k) le
closed_same k (a ∷ b ∷ bs) c cs z le =
    let cases : (t : Bool) → cond t 2 (1 + closed_len k (b ∷ bs ++ c ∷ cs)) ≤ suc (suc (length bs)) → cond t 2 (1 + closed_len k (b ∷ bs ++ z)) ≡ cond t 2 (1 + closed_len k (b ∷ bs ++ c ∷ cs))
    = λ t. elim t as (λ t. cond t 2 (1 + closed_len k (b ∷ bs ++ c ∷ cs)) ≤ suc (suc (length bs)) → cond t 2 (1 + closed_len k (b ∷ bs ++ z)) ≡ cond t 2 (1 + closed_len k (b ∷ bs ++ c ∷ cs))) [
      | true ↦ λ l. refl
      | false ↦ λ l. ap (λ (n : ℕ). 1 + n) (closed_same k (b ∷ bs) c cs z (omega arith))
    ]
    in cases (eqb a 42 && eqb b k) le

closed_here : (k : ℕ) (bs y z : List ℕ) → Black y → closed_len k (bs ++ y) ≤ length bs → closed_len k (bs ++ z) ≡ closed_len k (bs ++ y)
closed_here k bs y z b le =
    let le' : closed_len k (bs ++ b.first ∷ b.behind) ≤ length bs = rw (← b.is) le in
    rw b.is (closed_same k bs b.first b.behind z le')

-- numbers and backticks: a run of inner bytes that ends within x
module _ (p : ℕ → Bool) (inner : (c : ℕ) → p c ≡ true → is_inner c ≡ true) where
  run_hard : (bs z : List ℕ) → Hard bs → prefix_len p (bs ++ z) ≡ prefix_len p bs
  run_hard [] z hard = absurd cc
  run_hard (b ∷ bs) z hard =
      let cases : (t : Bool) → p b ≡ t → cond t (1 + prefix_len p (bs ++ z)) 0 ≡ cond t (1 + prefix_len p bs) 0
      = λ t. elim t as (λ t. p b ≡ t → cond t (1 + prefix_len p (bs ++ z)) 0 ≡ cond t (1 + prefix_len p bs) 0) [
        | true ↦ λ e. let is = inner b e in let hard' : Hard bs = rw is at hard in ap (λ (n : ℕ). 1 + n) (run_hard bs z hard')
        | false ↦ λ e. refl
      ]
      in cases (p b) refl

  drop_hard : (bs : List ℕ) → Hard bs → Hard (drop (prefix_len p bs) bs)
  drop_hard [] hard = hard
  drop_hard (b ∷ bs) hard =
      let k : 1 + prefix_len p bs ≡ suc (prefix_len p bs) = omega arith in
      let cases : (t : Bool) → p b ≡ t → Hard (drop (cond t (1 + prefix_len p bs) 0) (b ∷ bs))
      = λ t. elim t as (λ t. p b ≡ t → Hard (drop (cond t (1 + prefix_len p bs) 0) (b ∷ bs))) [
        | true ↦ λ e. let is = inner b e in let hard' : Hard bs = rw is at hard in rw k (drop_hard bs hard')
        | false ↦ λ e. hard
      ]
      in cases (p b) refl

digit_is_inner : (c : ℕ) → is_digit c ≡ true → is_inner c ≡ true
digit_is_inner c e = grind (arith, nat_tests)

word_is_inner : (c : ℕ) → is_word c ≡ true → is_inner c ≡ true
word_is_inner c e = rw e refl

one_inner : (c d : ℕ) → is_inner d ≡ true → is_inner c ≡ false → eqb c d ≡ false
one_inner c d passes none =
    let cases : (t : Bool) → eqb c d ≡ t → t ≡ false
    = λ t. elim t as (λ t. eqb c d ≡ t → t ≡ false) [ true ↦ λ e. let same = eqb-true c d e in let other : is_inner c ≡ is_inner d = ap is_inner same in cc | false ↦ λ e. refl ]
    in cases (eqb c d) refl

-- no constant has a base letter or a digit that is no inner byte
base_none : (base c : ℕ) → is_inner base ≡ false → is_digit_of base c ≡ false
unfolding is_digit_of
base_none base c none =
    rw (one_inner base 98 refl none, one_inner base 66 refl none, one_inner base 111 refl none, one_inner base 79 refl none, one_inner base 100 refl none, one_inner base 68 refl none, one_inner base 104 refl none, one_inner base 72 refl none) refl

unknown_none : (c : ℕ) → is_inner c ≡ false → is_unknown c ≡ false
unknown_none c none = rw (one_inner c 120 refl none, one_inner c 122 refl none, one_inner c 88 refl none, one_inner c 90 refl none, one_inner c 63 refl none) refl

digit_none : (base c : ℕ) → is_inner c ≡ false → is_digit_of base c ≡ false
unfolding is_digit_of
digit_none base c none =
    let unknown = unknown_none c none in
    let digit : is_digit c ≡ false = grind (arith, nat_tests) in
    let octal : (nat_le 48 c && nat_le c 55) ≡ false = grind (arith, nat_tests) in
    let hex : is_hex_digit c ≡ false = grind (arith, nat_tests) in
    let cases : (t u v w : Bool) → cond t false (cond u false (cond v false (cond w false false))) ≡ false
    = λ t u v w. elim t as (λ t. cond t false (cond u false (cond v false (cond w false false))) ≡ false) [
      | true ↦ refl
      | false ↦ elim u as (λ u. cond u false (cond v false (cond w false false)) ≡ false) [ true ↦ refl | false ↦ elim v as (λ v. cond v false (cond w false false) ≡ false) [ true ↦ refl | false ↦ elim w as (λ w. cond w false false ≡ false) [ true ↦ refl | false ↦ refl ] ] ]
    ]
    in
    rw (unknown, one_inner c 48 refl none, one_inner c 49 refl none, octal, hex, digit) (cases (eqb base 98 || eqb base 66) (eqb base 111 || eqb base 79) (eqb base 100 || eqb base 68) (eqb base 104 || eqb base 72))

module _ (base : ℕ) where
  digits_hard : (cs z : List ℕ) → Hard cs → digits_len base (cs ++ z) ≡ digits_len base cs
  digits_hard [] z hard = absurd cc
  digits_hard (c ∷ cs) z hard =
      let cases : (t : Bool) → is_inner c ≡ t → digits_len base (c ∷ cs ++ z) ≡ digits_len base (c ∷ cs)
      = λ t. elim t as (λ t. is_inner c ≡ t → digits_len base (c ∷ cs ++ z) ≡ digits_len base (c ∷ cs)) [
        | true ↦ λ e. let hard' : Hard cs = rw e at hard in rw (digits_hard cs z hard') refl
        | false ↦ λ e. rw (digit_none base c e, one_inner c 95 refl e) refl
      ]
      in cases (is_inner c) refl

first_none : (t : Bool) → (t && true) ≡ false → t ≡ false
first_none true e = e
first_none false e = e

quote_only : (q : ℕ) → is_inner q ≡ false → eqb q 39 ≡ false
quote_only q none = one_inner q 39 refl none

based_hard : (r z : List ℕ) → Hard r → based_len (r ++ z) ≡ based_len r
unfolding based_len
based_hard [] z hard = absurd cc
based_hard (q ∷ []) [] hard = refl
based_hard (q ∷ []) (a ∷ []) hard = refl
based_hard (q ∷ []) (a ∷ b ∷ z) hard =
    let none : is_inner q ≡ false = first_none (is_inner q) hard in
    rw (quote_only q none) refl
based_hard (q ∷ base ∷ []) [] hard = refl
based_hard (q ∷ base ∷ []) (a ∷ z) hard =
    let no : (t : Bool) → is_inner q ≡ t → (eqb q 39 && is_digit_of base a) ≡ false
    = λ t. elim t as (λ t. is_inner q ≡ t → (eqb q 39 && is_digit_of base a) ≡ false) [
      | true ↦ λ e. let hard' : (is_inner base && true) ≡ false = rw e at hard in and_right (eqb q 39) (is_digit_of base a) (base_none base a (first_none (is_inner base) hard'))
      | false ↦ λ e. and_left (eqb q 39) (is_digit_of base a) (quote_only q e)
    ]
    in rw (no (is_inner q) refl) refl
based_hard (q ∷ base ∷ c ∷ cs) z hard =
    let m = digits_len base (cs ++ z) in
    let n = digits_len base cs in
    let never : (eqb q 39 && is_digit_of base c) ≡ false → cond (eqb q 39 && is_digit_of base c) (3 + m) 0 ≡ cond (eqb q 39 && is_digit_of base c) (3 + n) 0 = λ e. rw e refl in
    elim (cases_Bool (is_inner q)) [
      | inr e ↦ never (and_left (eqb q 39) (is_digit_of base c) (quote_only q e))
      | inl e ↦ elim (cases_Bool (is_inner base)) [
        | inr f ↦ never (and_right (eqb q 39) (is_digit_of base c) (base_none base c f))
        | inl f ↦ elim (cases_Bool (is_inner c)) [
          | inr g ↦ never (and_right (eqb q 39) (is_digit_of base c) (digit_none base c g))
          | inl g ↦ let hard' : Hard cs = rw (e, f, g) at hard in ap (λ (k : ℕ). cond (eqb q 39 && is_digit_of base c) (3 + k) 0) (digits_hard base cs z hard')
        ]
      ]
    ]

number_hard : (bs z : List ℕ) → Hard bs → number_len (bs ++ z) ≡ number_len bs
unfolding number_len
number_hard bs z hard =
    let n = prefix_len is_digit bs in
    let r = run_hard is_digit digit_is_inner bs z hard in
    let d = drop-append-le n bs z (prefix_len-le-length is_digit bs) in
    ap (λ (k : ℕ). k + based_len (drop k (bs ++ z))) r
    ∙ ap (λ (x : List ℕ). n + based_len x) d
    ∙ ap (λ (k : ℕ). n + k) (based_hard (drop n bs) z (drop_hard is_digit digit_is_inner bs hard))

-- what stands in a branch keeps its answer
Keeps : Piece → Piece → Piece → Type 0
Keeps r p q = p ≡ r → q ≡ r

cond_keeps : (r : Piece) (t : Bool) (p p' q q' : Piece) → (t ≡ true → Keeps r p q) → (t ≡ false → Keeps r p' q') → Keeps r (cond t p p') (cond t q q')
cond_keeps r true p p' q q' h k = h refl
cond_keeps r false p p' q q' h k = k refl

blank_is : (m n : ℕ) → Blank m ≡ Blank n → m ≡ n
blank_is m n e = cc

token_is : (m n : ℕ) → Token m ≡ Token n → m ≡ n
token_is m n e = cc

no_token : (m n : ℕ) (q : Piece) → Keeps (Blank n) (Token m) q
unfolding Keeps
no_token m n q = λ e. absurd cc

no_blank : (m n : ℕ) (q : Piece) → Keeps (Token n) (Blank m) q
unfolding Keeps
no_blank m n q = λ e. absurd cc

same_one : (n : ℕ) → Keeps (Token n) (Token 1) (Token 1)
unfolding Keeps
same_one n = λ e. e

hard_behind : (b : ℕ) (bs : List ℕ) → is_inner b ≡ true → Hard (b ∷ bs) → Hard bs
hard_behind b bs is hard = rw is at hard

same_token : (n j k : ℕ) → (1 + j ≡ n → k ≡ j) → Keeps (Token n) (Token (1 + j)) (Token (1 + k))
unfolding Keeps
same_token n j k e = λ i. ap (λ (m : ℕ). Token (1 + m)) (e (token_is (1 + j) n i)) ∙ i

-- a comment or an attribute has two bytes at least
two_blank : (t u : Bool) (k l n : ℕ) → cond t (Blank (2 + k)) (cond u (Blank (2 + l)) (Token 1)) ≡ Blank n → 2 ≤ n
two_blank true u k l n e = let i = blank_is (2 + k) n e in omega arith
two_blank false true k l n e = let i = blank_is (2 + l) n e in omega arith
two_blank false false k l n e = absurd cc

slash_long : (y : List ℕ) (n : ℕ) → slash_piece y ≡ Blank n → n ≤ 1 → ⊥
unfolding slash_piece
slash_long [] n e le = cc
slash_long (c ∷ cs) n e le = let l = two_blank (eqb c 47) (eqb c 42) (line_len cs) (closed_len 47 cs) n e in omega arith

open_long : (y : List ℕ) (n : ℕ) → open_piece y ≡ Blank n → n ≤ 1 → ⊥
unfolding open_piece
open_long [] n e le = cc
open_long (c ∷ cs) n e le = let l = two_blank (eqb c 42) false (closed_len 41 cs) 0 n e in omega arith

abbrev tick_shape : Bool → ℕ → ℕ → Piece
tick_shape d w m = cond d (Blank (1 + (w + m))) (Token 1)

tick_long : (d : Bool) (w m n : ℕ) → tick_shape d w m ≡ Blank n → n ≡ 1 + (w + m)
tick_long true w m n e = sym (blank_is (1 + (w + m)) n e)
tick_long false w m n e = absurd cc

escaped_no_blank : (bs : List ℕ) (n : ℕ) (q : Piece) → Keeps (Blank n) (escaped_piece bs) q
unfolding Keeps escaped_piece
escaped_no_blank bs n q = λ e. absurd (choose (eqb (prefix_len (λ c. not (is_blank c)) bs) 0) _ _ _ e (λ t k. cc) (λ t k. cc))

-- blanks, and what counts as blanks, up to or before a seam
module _ (y z : List ℕ) (n : ℕ) (b : Black y) where
  slash_keeps : (bs : List ℕ) → n ≤ suc (length bs) → Keeps (Blank n) (slash_piece (bs ++ y)) (slash_piece (bs ++ z))
  unfolding Keeps slash_piece
  slash_keeps [] le = λ e. absurd (slash_long y n e le)
  slash_keeps (c ∷ cs) le =
      cond_keeps (Blank n) (eqb c 47) _ _ _ _
      (λ t e. let k = blank_is _ n e in ap (λ (m : ℕ). Blank (2 + m)) (line_same cs y z b (omega arith)) ∙ e)
      (λ t. cond_keeps (Blank n) (eqb c 42) _ _ _ _
      (λ t e. let k = blank_is _ n e in ap (λ (m : ℕ). Blank (2 + m)) (closed_here 47 cs y z b (omega arith)) ∙ e)
      (λ t e. e))

  open_keeps : (bs : List ℕ) → n ≤ suc (length bs) → Keeps (Blank n) (open_piece (bs ++ y)) (open_piece (bs ++ z))
  unfolding Keeps open_piece
  open_keeps [] le = λ e. absurd (open_long y n e le)
  open_keeps (c ∷ cs) le =
      cond_keeps (Blank n) (eqb c 42) _ _ _ _ (λ t e. let k = blank_is _ n e in ap (λ (m : ℕ). Blank (2 + m)) (closed_here 41 cs y z b (omega arith)) ∙ e) (λ t e. e)

  -- the line behind the word of a directive
  tick_line : (bs : List ℕ) (w : ℕ) → w ≤ length bs → w + line_len (drop w (bs ++ y)) ≤ length bs → (line_len (drop w (bs ++ z)) ≡ line_len (drop w (bs ++ y))) × (w < length bs)
  tick_line bs w le short =
      let dy = drop-append-le w bs y le in
      let dz = drop-append-le w bs z le in
      let len = length-drop w bs in
      let short' : w + line_len (drop w bs ++ y) ≤ length bs = rw (← dy) short in
      let within : line_len (drop w bs ++ y) ≤ length (drop w bs) = omega arith in
      let same = line_same (drop w bs) y z b within in
      let within' : line_len (drop w bs ++ b.first ∷ b.behind) ≤ length (drop w bs) = rw (← b.is) within in
      let lt = run_over (λ c. not (eqb c 10)) (drop w bs) b.first b.behind (no_feed b.first b.black) within' in
      (ap (λ (x : List ℕ). line_len x) dz ∙ same ∙ sym (ap (λ (x : List ℕ). line_len x) dy), omega arith)

  tick_keeps : (bs : List ℕ) → n ≤ suc (length bs) → Keeps (Blank n) (tick_piece (bs ++ y)) (tick_piece (bs ++ z))
  unfolding Keeps tick_piece
  tick_keeps bs le = λ e.
      let w = prefix_len is_word (bs ++ y) in
      let size = tick_long (is_directive (take w (bs ++ y))) w (line_len (drop w (bs ++ y))) n e in
      let fits : w ≤ length bs = omega arith in
      let line = tick_line bs w fits (omega arith) in
      let same = run is_word bs y z line.1 in
      let words : take w (bs ++ z) ≡ take w (bs ++ y) = take-append-le w bs z fits ∙ sym (take-append-le w bs y fits) in
      ap (λ (k : ℕ). tick_shape (is_directive (take k (bs ++ z))) k (line_len (drop k (bs ++ z)))) same
      ∙ ap (λ (x : List ℕ). tick_shape (is_directive x) w (line_len (drop w (bs ++ z)))) words
      ∙ ap (λ (k : ℕ). tick_shape (is_directive (take w (bs ++ y))) w k) line.0
      ∙ e

  remark_keeps : (a : ℕ) (bs : List ℕ) → is_blank a ≡ false → n ≤ suc (length bs) → Keeps (Blank n) (piece_at (a ∷ bs ++ y)) (piece_at (a ∷ bs ++ z))
  unfolding piece_at
  remark_keeps a bs black le =
      cond_keeps (Blank n) (is_blank a) _ _ _ _ (λ t. absurd (false≢true (sym black ∙ t)))
      (λ t. cond_keeps (Blank n) (is_word_start a) _ _ _ _ (λ t. no_token _ n _)
      (λ t. cond_keeps (Blank n) (is_digit a) _ _ _ _ (λ t. no_token _ n _)
      (λ t. cond_keeps (Blank n) (eqb a 92) _ _ _ _ (λ t. escaped_no_blank (bs ++ y) n (escaped_piece (bs ++ z)))
      (λ t. cond_keeps (Blank n) (eqb a 47) _ _ _ _ (λ t. slash_keeps bs le)
      (λ t. cond_keeps (Blank n) (eqb a 40) _ _ _ _ (λ t. open_keeps bs le)
      (λ t. cond_keeps (Blank n) (eqb a 96) _ _ _ _ (λ t. tick_keeps bs le) (λ t. no_token 1 n (Token 1))))))))

-- a token within a text that decides its tokens
abbrev escaped_shape : ℕ → ℕ → Piece
escaped_shape n m = cond (eqb n 0) (Token 1) (Token (1 + min (n + 1) m))

escaped_short : (n m k i : ℕ) → escaped_shape n m ≡ Token i → i < suc k → k ≤ m → n < k
escaped_short n m k i e lt le =
    let cases : (t : Bool) → eqb n 0 ≡ t → cond t (Token 1) (Token (1 + min (n + 1) m)) ≡ Token i → n < k
    = λ t. elim t as (λ t. eqb n 0 ≡ t → cond t (Token 1) (Token (1 + min (n + 1) m)) ≡ Token i → n < k) [
      | true ↦ λ e l. let z = eqb-true n 0 e in let j = token_is 1 i l in omega arith
      | false ↦ λ e l. let j = token_is (1 + min (n + 1) m) i l in omega arith
    ]
    in cases (eqb n 0) refl e

escaped_shape_same : (n m m' k : ℕ) → n < k → k ≤ m → k ≤ m' → escaped_shape n m' ≡ escaped_shape n m
escaped_shape_same n m m' k h l l' = let e : min (n + 1) m' ≡ min (n + 1) m = omega arith in ap (λ (x : ℕ). cond (eqb n 0) (Token 1) (Token (1 + x))) e

module _ (y z : List ℕ) (n : ℕ) where
  escaped_keeps : (bs : List ℕ) → n < suc (length bs) → Keeps (Token n) (escaped_piece (bs ++ y)) (escaped_piece (bs ++ z))
  unfolding Keeps escaped_piece
  escaped_keeps bs lt = λ e.
      let le = length-append bs y in
      let lz = length-append bs z in
      let short = escaped_short (prefix_len (λ c. not (is_blank c)) (bs ++ y)) (length (bs ++ y)) (length bs) n e lt (omega arith) in
      let same = run (λ c. not (is_blank c)) bs y z short in
      rw same (escaped_shape_same (prefix_len (λ c. not (is_blank c)) (bs ++ y)) (length (bs ++ y)) (length (bs ++ z)) (length bs) short (omega arith) (omega arith) ∙ e)

  -- a slash, a parenthesis or a backtick has one byte as a token
  slash_token : (bs : List ℕ) → n < suc (length bs) → Keeps (Token n) (slash_piece (bs ++ y)) (slash_piece (bs ++ z))
  unfolding Keeps slash_piece
  slash_token [] lt = λ e. absurd (slash_one y e)
    where
      slash_one : (y : List ℕ) → slash_piece y ≡ Token n → ⊥
      slash_one [] e = let k = token_is 1 n e in omega arith
      slash_one (c ∷ cs) e = choose (eqb c 47) _ _ _ e (λ t k. cc) (λ t k. choose (eqb c 42) _ _ _ k (λ t k. cc) (λ t k. let j = token_is 1 n k in omega arith))
  slash_token (c ∷ cs) lt = cond_keeps (Token n) (eqb c 47) _ _ _ _ (λ t. no_blank _ n _) (λ t. cond_keeps (Token n) (eqb c 42) _ _ _ _ (λ t. no_blank _ n _) (λ t e. e))

  open_token : (bs : List ℕ) → n < suc (length bs) → Keeps (Token n) (open_piece (bs ++ y)) (open_piece (bs ++ z))
  unfolding Keeps open_piece
  open_token [] lt = λ e. absurd (open_one y e)
    where
      open_one : (y : List ℕ) → open_piece y ≡ Token n → ⊥
      open_one [] e = let k = token_is 1 n e in omega arith
      open_one (c ∷ cs) e = choose (eqb c 42) _ _ _ e (λ t k. cc) (λ t k. let j = token_is 1 n k in omega arith)
  open_token (c ∷ cs) lt = cond_keeps (Token n) (eqb c 42) _ _ _ _ (λ t. no_blank _ n _) (λ t e. e)

  tick_token : (bs : List ℕ) → Hard bs → Keeps (Token n) (tick_piece (bs ++ y)) (tick_piece (bs ++ z))
  unfolding Keeps tick_piece
  tick_token bs hard = λ e.
      let w = prefix_len is_word bs in
      let le = prefix_len-le-length is_word bs in
      let ry = run_hard is_word word_is_inner bs y hard in
      let rz = run_hard is_word word_is_inner bs z hard in
      let ty = take-append-le w bs y le in
      let tz = take-append-le w bs z le in
      let none : is_directive (take w bs) ≡ false = tick_none (is_directive (take w bs)) w (line_len (drop w (bs ++ y)))
      (ap (λ (x : List ℕ). tick_shape (is_directive x) w (line_len (drop w (bs ++ y)))) (sym ty) ∙ ap (λ (k : ℕ). tick_shape (is_directive (take k (bs ++ y))) k (line_len (drop k (bs ++ y)))) (sym ry) ∙ e)
      in
      let one : 1 ≡ n = tick_one _ _ _ e in
      ap (λ (k : ℕ). tick_shape (is_directive (take k (bs ++ z))) k (line_len (drop k (bs ++ z)))) rz
      ∙ ap (λ (x : List ℕ). tick_shape (is_directive x) w (line_len (drop w (bs ++ z)))) tz
      ∙ ap (λ (t : Bool). tick_shape t w (line_len (drop w (bs ++ z)))) none
      ∙ ap (λ (k : ℕ). Token k) one
    where
      tick_none : (d : Bool) (w m : ℕ) → tick_shape d w m ≡ Token n → d ≡ false
      tick_none true w m e = absurd cc
      tick_none false w m e = refl

      tick_one : (d : Bool) (w m : ℕ) → tick_shape d w m ≡ Token n → 1 ≡ n
      tick_one true w m e = absurd cc
      tick_one false w m e = token_is 1 n e

  token_keeps : (a : ℕ) (bs : List ℕ) → Hard (a ∷ bs) → n < suc (length bs) → Keeps (Token n) (piece_at (a ∷ bs ++ y)) (piece_at (a ∷ bs ++ z))
  unfolding piece_at
  token_keeps a bs hard lt =
      cond_keeps (Token n) (is_blank a) _ _ _ _ (λ t. no_blank _ n _)
      (λ t. cond_keeps (Token n) (is_word_start a) _ _ _ _ (λ t. same_token n _ _ (λ i. run is_word bs y z (omega arith)))
      (λ t. cond_keeps (Token n) (is_digit a) _ _ _ _
      (λ t. same_token n _ _ (λ i. let hard' = hard_behind a bs (digit_is_inner a t) hard in number_hard bs z hard' ∙ sym (number_hard bs y hard')))
      (λ t. cond_keeps (Token n) (eqb a 92) _ _ _ _ (λ t. escaped_keeps bs lt)
      (λ t. cond_keeps (Token n) (eqb a 47) _ _ _ _ (λ t. slash_token bs lt)
      (λ t. cond_keeps (Token n) (eqb a 40) _ _ _ _ (λ t. open_token bs lt)
      (λ t. cond_keeps (Token n) (eqb a 96) _ _ _ _ (λ t. let same = eqb-true a 96 t in tick_token bs (hard_behind a bs (rw same refl) hard)) (λ t. same_one n)))))))

-- what counts as blanks and begins with none, up to a token
pub remark_decided : (a : ℕ) (bs y z : List ℕ) (n : ℕ) → Black y → is_blank a ≡ false → n ≤ suc (length bs) → piece_at (a ∷ bs ++ y) ≡ Blank n → piece_at (a ∷ bs ++ z) ≡ Blank n
unfolding Keeps
remark_decided a bs y z n b black le e = remark_keeps y z n b a bs black le e

-- a token that ends within a text with a byte of no number and no word
pub token_decided : (a : ℕ) (bs y z : List ℕ) (n : ℕ) → Hard (a ∷ bs) → n < suc (length bs) → piece_at (a ∷ bs ++ y) ≡ Token n → piece_at (a ∷ bs ++ z) ≡ Token n
unfolding Keeps
token_decided a bs y z n hard lt e = token_keeps y z n a bs hard lt e
