-- A Verilog text has one split at most: its tokens.
use Rattle.std.proofs.Common.{◌≡◌, ℕ, zero, suc, ◌+◌, ◌<◌, ◌≤◌, Bool, true, false, cond, ◌&&◌, eqb, List, [], ◌∷◌, ◌++◌, length, take, drop, get_or, refl, sym, ap, ◌∙◌, subst, inl, inr, arith}
use Rattle.std.specs.List.{prefix_len}
use Rattle.std.proofs.lemmas.Bool.{eqb-true, and_parts, and_right, or_left, or_right, cases_Bool, cases_order}
use Rattle.token_forms.specs.declared.piece.Piece.{Piece}
use Rattle.token_forms.specs.declared.piece.Piece.TheVariants.{Blank, Token}
use Rattle.token_forms.specs.Pieces.{piece_len, span_of, tokens_from}
use Rattle.verilog_syntax.specs.VerilogTokens.{is_blank, is_word, is_directive, closed_len, line_len, slash_piece, open_piece, tick_piece, piece_at}
use Rattle.verilog_syntax.specs.VerilogSplit.{is_token, begins_with_two, begins_directive, begins_remark, closes_at, IsLongestToken, IsClosed, Closed, Unclosed, IsBlankPart, Space, LineComment, Directive, Comment, Attribute, OnlyLaw}
use Rattle.token_forms.proofs.Cuts.{tokens_from-cons}
use Rattle.verilog_syntax.proofs.VerilogPieces.{verilog_cut}
use Rattle.verilog_syntax.proofs.VerilogLongest.{piece-longest}
use Rattle.verilog_syntax.proofs.VerilogBlanks.{part_is, run_in_line}
use Rattle.token_forms.proofs.SplitUnique.{IsExactForm, only}

module _ (closing : ℕ) (some : eqb 0 closing ≡ false) where
  never_one : (b i : ℕ) → closes_at closing (b ∷ []) i ≡ false
  never_one b i = and_right (eqb (get_or (b ∷ []) i 0) 42) (eqb 0 closing) some

  closed_only : (bs : List ℕ) (m : ℕ) → IsClosed closing bs m → m ≡ closed_len closing bs
  closed_only [] m (Closed i is here before) = absurd cc
  closed_only [] m (Unclosed is never) = is
  closed_only (b ∷ []) m (Closed i is here before) = let no = never_one b i in absurd cc
  closed_only (b ∷ []) m (Unclosed is never) = is
  closed_only (b ∷ c ∷ bs) m closed =
      elim (cases_Bool (eqb b 42 && eqb c closing)) [
        | inl at ↦ closed_first b c bs m at closed ∙ rw at refl
        | inr past ↦ closed_later b c bs m past (closed_only (c ∷ bs)) closed ∙ rw past refl
      ]
    where
      closed_first : (b c : ℕ) (bs : List ℕ) (m : ℕ) → closes_at closing (b ∷ c ∷ bs) 0 ≡ true → IsClosed closing (b ∷ c ∷ bs) m → m ≡ 2
      closed_first b c bs m at (Closed zero is here before) = is
      closed_first b c bs m at (Closed (suc i) is here before) = let no = before 0 (omega arith) in absurd cc
      closed_first b c bs m at (Unclosed is never) = let no = never 0 in absurd cc

      closed_later : (b c : ℕ) (bs : List ℕ) (m : ℕ) → closes_at closing (b ∷ c ∷ bs) 0 ≡ false → ((n : ℕ) → IsClosed closing (c ∷ bs) n → n ≡ closed_len closing (c ∷ bs)) → IsClosed closing (b ∷ c ∷ bs) m → m ≡ 1 + closed_len closing (c ∷ bs)
      closed_later b c bs m past more (Closed zero is here before) = absurd cc
      closed_later b c bs m past more (Closed (suc i) is here before) =
          let k = more (suc (suc i)) (Closed i refl here (λ j lt. before (suc j) (omega arith))) in omega arith
      closed_later b c bs m past more (Unclosed is never) = let k = more (length (c ∷ bs)) (Unclosed refl (λ j. never (suc j))) in omega arith

-- the tokens behind a piece that is blank
over : (at b : ℕ) (bs : List ℕ) (n : ℕ) → piece_at (b ∷ bs) ≡ Blank n → tokens_from piece_at at 0 (b ∷ bs) ≡ tokens_from piece_at (at + n) 0 (drop n (b ∷ bs))
over at b bs n is =
    let some = (verilog_cut.each b bs).some in
    tokens_from-cons piece_at at b bs some ∙ ap (λ (p : Piece). span_of at p ++ tokens_from piece_at (at + piece_len p) 0 (drop (piece_len p) (b ∷ bs))) is

space_piece : (b : ℕ) (bs : List ℕ) → is_blank b ≡ true → piece_at (b ∷ bs) ≡ Blank (1 + prefix_len is_blank bs)
unfolding piece_at
space_piece b bs e = rw e refl

-- behind one blank of a run
over_space : (at b : ℕ) (bs : List ℕ) → is_blank b ≡ true → tokens_from piece_at at 0 (b ∷ bs) ≡ tokens_from piece_at (at + 1) 0 bs
over_space at b bs e = over at b bs (1 + prefix_len is_blank bs) (space_piece b bs e) ∙ behind bs
  where
    behind : (bs : List ℕ) → tokens_from piece_at (at + (1 + prefix_len is_blank bs)) 0 (drop (1 + prefix_len is_blank bs) (b ∷ bs)) ≡ tokens_from piece_at (at + 1) 0 bs
    behind [] = refl
    behind (c ∷ cs) =
        let cases : (t : Bool) → is_blank c ≡ t → tokens_from piece_at (at + (1 + cond t (1 + prefix_len is_blank cs) 0)) 0 (drop (1 + cond t (1 + prefix_len is_blank cs) 0) (b ∷ c ∷ cs)) ≡ tokens_from piece_at (at + 1) 0 (c ∷ cs)
        = λ t. elim t as (λ t. is_blank c ≡ t → tokens_from piece_at (at + (1 + cond t (1 + prefix_len is_blank cs) 0)) 0 (drop (1 + cond t (1 + prefix_len is_blank cs) 0) (b ∷ c ∷ cs)) ≡ tokens_from piece_at (at + 1) 0 (c ∷ cs)) [
          | true ↦ λ f.
              let n = 1 + prefix_len is_blank cs in
              let k : 1 + n ≡ suc n = omega arith in
              let l : at + suc n ≡ at + 1 + n = omega arith in
              ap (λ (x : ℕ). tokens_from piece_at (at + x) 0 (drop x (b ∷ c ∷ cs))) k ∙ ap (λ (x : ℕ). tokens_from piece_at x 0 (drop n (c ∷ cs))) l
              ∙ sym (over (at + 1) c cs n (space_piece c cs f))
          | false ↦ λ f. refl
        ]
        in cases (is_blank c) refl

line_piece : (b : ℕ) (bs : List ℕ) → begins_with_two 47 47 (b ∷ bs) ≡ true → piece_at (b ∷ bs) ≡ Blank (line_len (b ∷ bs))
unfolding piece_at slash_piece
line_piece b [] e = absurd cc
line_piece b (c ∷ cs) e =
    let p = and_parts (eqb b 47) (eqb c 47) e in
    let first = eqb-true b 47 p.0 in
    let second = eqb-true c 47 p.1 in
    let k : 2 + line_len cs ≡ 1 + (1 + line_len cs) = omega arith in
    rw (first, second) (ap (λ (n : ℕ). Blank n) k)

directive_piece : (b : ℕ) (bs : List ℕ) → begins_directive (b ∷ bs) ≡ true → piece_at (b ∷ bs) ≡ Blank (line_len (b ∷ bs))
unfolding piece_at tick_piece
directive_piece b bs e =
    let p = and_parts (eqb b 96) (is_directive (take (prefix_len is_word bs) bs)) e in
    let first = eqb-true b 96 p.0 in
    let line = run_in_line is_word bs refl in
    rw (first, p.1) (ap (λ (n : ℕ). Blank (1 + n)) (sym line))

comment_piece : (bs : List ℕ) → piece_at (47 ∷ 42 ∷ bs) ≡ Blank (2 + closed_len 47 bs)
unfolding piece_at slash_piece
comment_piece bs = refl

attribute_piece : (bs : List ℕ) → piece_at (40 ∷ 42 ∷ bs) ≡ Blank (2 + closed_len 41 bs)
unfolding piece_at open_piece
attribute_piece bs = refl

blank_at : (at b : ℕ) (bs : List ℕ) (n : ℕ) → IsBlankPart (b ∷ bs) n → tokens_from piece_at at 0 (b ∷ bs) ≡ tokens_from piece_at (at + n) 0 (drop n (b ∷ bs))
blank_at at b bs n (Space c cs cut blank one) =
    let same : b ≡ c = cc in
    let blank' : is_blank b ≡ true = rw same blank in
    rw one (over_space at b bs blank')
blank_at at b bs n (LineComment begins is) = over at b bs n (line_piece b bs begins ∙ ap (λ (x : ℕ). Blank x) (sym is))
blank_at at b bs n (Directive begins is) = over at b bs n (directive_piece b bs begins ∙ ap (λ (x : ℕ). Blank x) (sym is))
blank_at at b bs n (Comment m cs cut closed is) =
    let k : n ≡ 2 + closed_len 47 cs = is ∙ ap (λ (x : ℕ). 2 + x) (closed_only 47 refl cs m closed) in
    over at b bs n (ap piece_at cut ∙ comment_piece cs ∙ ap (λ (x : ℕ). Blank x) (sym k))
blank_at at b bs n (Attribute m cs cut closed is) =
    let k : n ≡ 2 + closed_len 41 cs = is ∙ ap (λ (x : ℕ). 2 + x) (closed_only 41 refl cs m closed) in
    over at b bs n (ap piece_at cut ∙ attribute_piece cs ∙ ap (λ (x : ℕ). Blank x) (sym k))

none_at : (n : ℕ) → IsBlankPart [] n → ⊥
none_at n (Space c cs cut blank one) = cc
none_at n (LineComment begins is) = cc
none_at n (Directive begins is) = cc
none_at n (Comment m cs cut closed is) = cc
none_at n (Attribute m cs cut closed is) = cc

-- where no token can begin
remark_begins : (b : ℕ) (bs : List ℕ) (n : ℕ) → is_blank b ≡ false → IsBlankPart (b ∷ bs) n → begins_remark (b ∷ bs) ≡ true
remark_begins b bs n black (Space c cs cut blank one) = let same : b ≡ c = cc in let blank' : is_blank b ≡ true = rw same blank in absurd cc
remark_begins b bs n black (LineComment begins is) = or_left (begins_with_two 47 47 (b ∷ bs)) _ begins
remark_begins b bs n black (Directive begins is) = or_right (begins_with_two 47 47 (b ∷ bs)) _ (or_right (begins_with_two 47 42 (b ∷ bs)) _ (or_right (begins_with_two 40 42 (b ∷ bs)) _ begins))
remark_begins b bs n black (Comment m cs cut closed is) = subst (λ (x : List ℕ). begins_remark x ≡ true) (sym cut) refl
remark_begins b bs n black (Attribute m cs cut closed is) = subst (λ (x : List ℕ). begins_remark x ≡ true) (sym cut) refl

no_token : (b : ℕ) (bs : List ℕ) (n : ℕ) → 0 < n → is_blank b ≡ true → is_token (take n (b ∷ bs)) ≡ true → ⊥
no_token b bs zero some blank is = omega arith
no_token b bs (suc n) some blank is = let none : is_token (b ∷ take n bs) ≡ false = rw blank refl in cc

token_at : (b : ℕ) (bs : List ℕ) (n : ℕ) → 0 < n → n ≤ suc (length bs) → IsLongestToken (b ∷ bs) n → piece_at (b ∷ bs) ≡ Token n
token_at b bs n some within is =
    let w = verilog_cut.each b bs in
    let by : (p : Piece) → piece_at (b ∷ bs) ≡ p → p ≡ Token n
    = λ p. elim p as (λ p. piece_at (b ∷ bs) ≡ p → p ≡ Token n) [
      | Token m ↦ λ e.
          let here = piece-longest b bs m e in
          let fits : m ≤ 1 + length bs = let le = w.within in rw e at le in
          ap (λ (x : ℕ). Token x) (same_longest m n (omega arith) within here is)
      | Blank m ↦ λ e.
          elim (cases_Bool (is_blank b)) [
            | inl blank ↦ absurd (no_token b bs n some blank is.is)
            | inr black ↦ let begins = remark_begins b bs m black (part_is b bs m black e) in let none = is.no_remark in absurd cc
          ]
    ]
    in by (piece_at (b ∷ bs)) refl
  where
    same_longest : (m n : ℕ) → m ≤ suc (length bs) → n ≤ suc (length bs) → IsLongestToken (b ∷ bs) m → IsLongestToken (b ∷ bs) n → m ≡ n
    same_longest m n le le' first second =
        elim (cases_order m n) [
          | inl e ↦ e
          | inr (inl lt) ↦ let longer = first.longest n lt le' in let is = second.is in absurd cc
          | inr (inr gt) ↦ let longer = second.longest m gt le in let is = first.is in absurd cc
        ]

verilog_exact : IsExactForm piece_at IsBlankPart IsLongestToken
verilog_exact = record { cut = verilog_cut; none = none_at; blank = blank_at; token = token_at }

pub only_law : OnlyLaw
only_law text spans split = only piece_at IsBlankPart IsLongestToken verilog_exact text 0 spans split
