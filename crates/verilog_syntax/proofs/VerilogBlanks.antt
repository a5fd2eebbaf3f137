-- A piece of a Verilog text that is no token is what counts as blanks.
use Rattle.std.proofs.Common.{◌≡◌, ℕ, zero, suc, ◌+◌, ◌<◌, Bool, true, false, cond, not, ◌&&◌, eqb, List, [], ◌∷◌, take, drop, get_or, refl, sym, ap, ◌∙◌, arith}
use Rattle.std.specs.List.{prefix_len}
use Rattle.std.proofs.lemmas.List.{drop-drop}
use Rattle.std.proofs.lemmas.Bool.{eqb-true, and_right}
use Rattle.token_forms.specs.declared.piece.Piece.TheVariants.{Blank}
use Rattle.token_forms.specs.Splits.{AreBlanks}
use Rattle.verilog_syntax.specs.VerilogTokens.{is_blank, is_digit, is_word_start, is_word, is_directive, closed_len, line_len, slash_piece, open_piece, tick_piece, escaped_piece, piece_at}
use Rattle.verilog_syntax.specs.VerilogSplit.{closes_at, IsClosed, Closed, Unclosed, IsBlankPart, Space, LineComment, Directive, Comment, Attribute}
use Rattle.token_forms.proofs.SplitLaw.{no_blanks, one_blank, blanks_join}
use Rattle.verilog_syntax.proofs.VerilogLongest.{choose, not_byte}

blank_is : (m n : ℕ) → Blank m ≡ Blank n → m ≡ n
blank_is m n e = cc

-- where a comment or an attribute is closed
module _ (closing : ℕ) where
  closed_more : (b c : ℕ) (bs : List ℕ) (n : ℕ) → closes_at closing (b ∷ c ∷ bs) 0 ≡ false → IsClosed closing (c ∷ bs) n → IsClosed closing (b ∷ c ∷ bs) (1 + n)
  closed_more b c bs n none (Closed i is here before) =
      Closed (suc i) (omega arith) here (λ j. elim j as (λ j. j < suc i → closes_at closing (b ∷ c ∷ bs) j ≡ false) [ zero ↦ λ lt. none | suc j ↦ λ lt. before j (omega arith) ])
  closed_more b c bs n none (Unclosed is never) =
      Unclosed (omega arith) (λ j. elim j as (λ j. closes_at closing (b ∷ c ∷ bs) j ≡ false) [ zero ↦ none | suc j ↦ never j ])

  module _ (some : eqb 0 closing ≡ false) where
    no_end : (b : ℕ) (j : ℕ) → closes_at closing (b ∷ []) j ≡ false
    no_end b j = and_right (eqb (get_or (b ∷ []) j 0) 42) (eqb 0 closing) some

    pub closed_is : (bs : List ℕ) → IsClosed closing bs (closed_len closing bs)
    closed_is [] = Unclosed refl (λ j. refl)
    closed_is (b ∷ []) = Unclosed refl (no_end b)
    closed_is (b ∷ c ∷ bs) =
        let cases : (t : Bool) → (eqb b 42 && eqb c closing) ≡ t → IsClosed closing (b ∷ c ∷ bs) (cond t 2 (1 + closed_len closing (c ∷ bs)))
        = λ t. elim t as (λ t. (eqb b 42 && eqb c closing) ≡ t → IsClosed closing (b ∷ c ∷ bs) (cond t 2 (1 + closed_len closing (c ∷ bs)))) [
          | true ↦ λ e. Closed 0 refl e (λ j lt. absurd (omega arith))
          | false ↦ λ e. closed_more b c bs (closed_len closing (c ∷ bs)) e (closed_is (c ∷ bs))
        ]
        in cases (eqb b 42 && eqb c closing) refl

-- behind a run of bytes that end no line, the line goes on
pub run_in_line : (p : ℕ → Bool) (bs : List ℕ) → p 10 ≡ false → line_len bs ≡ prefix_len p bs + line_len (drop (prefix_len p bs) bs)
run_in_line p [] fails = refl
run_in_line p (b ∷ bs) fails =
    let more = run_in_line p bs fails in
    let k : 1 + prefix_len p bs ≡ suc (prefix_len p bs) = omega arith in
    let cases : (t : Bool) → p b ≡ t → line_len (b ∷ bs) ≡ cond t (1 + prefix_len p bs) 0 + line_len (drop (cond t (1 + prefix_len p bs) 0) (b ∷ bs))
    = λ t. elim t as (λ t. p b ≡ t → line_len (b ∷ bs) ≡ cond t (1 + prefix_len p bs) 0 + line_len (drop (cond t (1 + prefix_len p bs) 0) (b ∷ bs))) [
      | true ↦ λ e. let plain : eqb b 10 ≡ false = not_byte p b 10 fails e in rw (k, plain) (omega arith)
      | false ↦ λ e. omega arith
    ]
    in cases (p b) refl

slash_blank : (bs : List ℕ) (n : ℕ) → slash_piece bs ≡ Blank n → IsBlankPart (47 ∷ bs) n
unfolding slash_piece
slash_blank [] n h = absurd cc
slash_blank (c ∷ cs) n h =
    choose (eqb c 47) _ _ _ h
    (λ e k. let is = blank_is (2 + line_len cs) n k in let same = eqb-true c 47 e in LineComment (rw same refl) (rw same (omega arith)))
    (λ one k. choose (eqb c 42) _ _ _ k
    (λ e k. let same = eqb-true c 42 e in Comment (closed_len 47 cs) cs (ap (λ (x : ℕ). 47 ∷ x ∷ cs) same) (closed_is 47 refl cs) (sym (blank_is _ n k)))
    (λ two k. absurd cc))

open_blank : (bs : List ℕ) (n : ℕ) → open_piece bs ≡ Blank n → IsBlankPart (40 ∷ bs) n
unfolding open_piece
open_blank [] n h = absurd cc
open_blank (c ∷ cs) n h =
    choose (eqb c 42) _ _ _ h
    (λ e k. let same = eqb-true c 42 e in Attribute (closed_len 41 cs) cs (ap (λ (x : ℕ). 40 ∷ x ∷ cs) same) (closed_is 41 refl cs) (sym (blank_is _ n k)))
    (λ two k. absurd cc)

tick_blank : (bs : List ℕ) (n : ℕ) → tick_piece bs ≡ Blank n → IsBlankPart (96 ∷ bs) n
unfolding tick_piece
tick_blank bs n h =
    choose (is_directive (take (prefix_len is_word bs) bs)) _ _ _ h
    (λ e k. let is = blank_is (1 + (prefix_len is_word bs + line_len (drop (prefix_len is_word bs) bs))) n k in let line = run_in_line is_word bs refl in Directive e (omega arith))
    (λ n k. absurd cc)

escaped_no_blank : (bs : List ℕ) (n : ℕ) → escaped_piece bs ≡ Blank n → ⊥
unfolding escaped_piece
escaped_no_blank bs n e = choose (eqb (prefix_len (λ c. not (is_blank c)) bs) 0) _ _ _ e (λ t k. absurd cc) (λ t k. absurd cc)

at_byte : (b c : ℕ) (bs : List ℕ) (n : ℕ) → eqb b c ≡ true → IsBlankPart (c ∷ bs) n → IsBlankPart (b ∷ bs) n
at_byte b c bs n e part = let same = eqb-true b c e in rw same part

-- a blank piece that begins with no blank
pub part_is : (b : ℕ) (bs : List ℕ) (n : ℕ) → is_blank b ≡ false → piece_at (b ∷ bs) ≡ Blank n → IsBlankPart (b ∷ bs) n
unfolding piece_at
part_is b bs n black h =
    choose (is_blank b) _ _ _ h (λ e k. absurd cc)
    (λ blank k. choose (is_word_start b) _ _ _ k (λ t k. absurd cc)
    (λ start k. choose (is_digit b) _ _ _ k (λ t k. absurd cc)
    (λ digit k. choose (eqb b 92) _ _ _ k (λ t k. absurd (escaped_no_blank bs n k))
    (λ plain k. choose (eqb b 47) _ _ _ k (λ t k. at_byte b 47 bs n t (slash_blank bs n k))
    (λ slash k. choose (eqb b 40) _ _ _ k (λ t k. at_byte b 40 bs n t (open_blank bs n k))
    (λ paren k. choose (eqb b 96) _ _ _ k (λ t k. at_byte b 96 bs n t (tick_blank bs n k)) (λ tick k. absurd cc)))))))

-- the blanks of a run, one by one
spaces : (text bs : List ℕ) (at : ℕ) → drop at text ≡ bs → AreBlanks IsBlankPart text at (at + prefix_len is_blank bs)
spaces text [] at cut = let k : at + 0 ≡ at = omega arith in rw k (no_blanks IsBlankPart text at)
spaces text (b ∷ bs) at cut =
    let cases : (t : Bool) → is_blank b ≡ t → AreBlanks IsBlankPart text at (at + cond t (1 + prefix_len is_blank bs) 0)
    = λ t. elim t as (λ t. is_blank b ≡ t → AreBlanks IsBlankPart text at (at + cond t (1 + prefix_len is_blank bs) 0)) [
      | true ↦ λ e.
          let k : at + (1 + prefix_len is_blank bs) ≡ at + 1 + prefix_len is_blank bs = omega arith in
          let next : drop (at + 1) text ≡ bs = sym (drop-drop 1 at text) ∙ ap (λ (x : List ℕ). drop 1 x) cut in
          rw k (blanks_join IsBlankPart text at (at + 1) (at + 1 + prefix_len is_blank bs) (one_blank IsBlankPart text at 1 (Space b bs cut e refl)) (spaces text bs (at + 1) next))
      | false ↦ λ e. let k : at + 0 ≡ at = omega arith in rw k (no_blanks IsBlankPart text at)
    ]
    in cases (is_blank b) refl

blank_piece : (b : ℕ) (bs : List ℕ) (n : ℕ) → is_blank b ≡ true → piece_at (b ∷ bs) ≡ Blank n → prefix_len is_blank (b ∷ bs) ≡ n
unfolding piece_at
blank_piece b bs n blank h =
    choose (is_blank b) _ _ _ h (λ e k. rw blank (blank_is _ n k)) (λ n k. absurd cc)

pub piece-blanks : (text : List ℕ) (b : ℕ) (bs : List ℕ) (at n : ℕ) → drop at text ≡ b ∷ bs → piece_at (b ∷ bs) ≡ Blank n → AreBlanks IsBlankPart text at (at + n)
piece-blanks text b bs at n cut h =
    let cases : (t : Bool) → is_blank b ≡ t → AreBlanks IsBlankPart text at (at + n)
    = λ t. elim t as (λ t. is_blank b ≡ t → AreBlanks IsBlankPart text at (at + n)) [
      | true ↦ λ e. let k = blank_piece b bs n e h in rw (← k) (spaces text (b ∷ bs) at cut)
      | false ↦ λ e. one_blank IsBlankPart text at n (rw cut (part_is b bs n e h))
    ]
    in cases (is_blank b) refl
