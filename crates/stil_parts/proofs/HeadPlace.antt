-- The head of a text ends where the first statement begins whose word is Pattern, by the tokens of the text.
use Rattle.std.specs.Prelude.{nat_lt}
use Rattle.std.proofs.Common.{◌≡◌, ℕ, zero, suc, ◌+◌, ◌-◌, ◌<◌, ◌≤◌, Bool, true, false, cond, eqb, not, ◌&&◌, ◌||◌, List, [], ◌∷◌, length, drop, take, Option, Some, None, refl, sym, ap, subst, ◌∙◌, arith, inl, inr}
use Rattle.std.specs.List.{prefix_len}
use Rattle.std.proofs.lemmas.Bool.{cases_Bool, cond_both, eqb-true, or_cases, not-true, not-false, lt-ltb, true≢false}
use Rattle.std.proofs.lemmas.Option.{same_Some}
use Rattle.std.proofs.lemmas.List.{drop_all, drop-drop, length-drop, length-take-le, take-append-drop}
use Rattle.token_forms.specs.declared.piece.Piece.{Piece}
use Rattle.token_forms.specs.declared.piece.Piece.TheVariants.{Blank, Token as token}
use Rattle.token_forms.specs.Tokens.{Token, place_of}
use Rattle.stil_tokens.specs.StilTokens.{is_blank, is_quote, other_mark, is_mark, is_run, quoted_len, closed_len, line_len, brace_piece, slash_piece, piece_at}
use Rattle.stil_tokens.specs.StilStatements.{is_only, token_ends, depth_behind, len_in, statement_len, statements_within, stil_statements}
use Rattle.stil_tokens.proofs.StilCuts.{first_law, statement_len-some}
use Rattle.stil_parts.specs.declared.gap.Place.TheVariants.{Top}
use Rattle.stil_parts.specs.declared.gap.Comment.{Comment}
use Rattle.stil_parts.specs.declared.gap.Comment.TheVariants.{Outside, Line, Block}
use Rattle.stil_parts.specs.declared.gap.Gap.{Gap}
use Rattle.stil_parts.specs.declared.scan.Found.{Found}
use Rattle.stil_parts.specs.declared.head.HeadTurn.TheVariants.{Passed}
use Rattle.stil_parts.specs.declared.word.Word.TheVariants.{Start, Known}
use Rattle.stil_parts.specs.Gaps.{gap_of, line_gap, block_gap, slash_gap, outside_gap, gap_at}
use Rattle.stil_parts.specs.Scanner.{found, later, end_of}
use Rattle.stil_parts.specs.Parts.{begin}
use Rattle.stil_parts.specs.Ending.{statement_end}
use Rattle.stil_parts.specs.Heads.{word_of, statement_turn, head_turn, head_end, head_len}
use Rattle.stil_parts.specs.Coming.{largest}
use Rattle.stil_parts.specs.ByTokens.{is_pattern, ended, pattern_place, head_place, HeadPlaceLaw}
use Rattle.stil_parts.proofs.HeadTurns.{behind, behind_none, behind_both, end_here, end_open, end_none, end_passed}
use Rattle.stil_parts.proofs.HeadStable.{head_law}
use Rattle.stil_parts.proofs.Stages.{Stage, Begin, Sure, behind_token}
use Rattle.stil_parts.proofs.TokenEnds.{IsDull, dull}
use Rattle.stil_parts.proofs.TokenScan.{word_in, AtEnd, AtBlank, AtToken, at-place, tokens_at, token_at, tokens-nothing, holds}
use Rattle.stil_parts.proofs.Labels.{word-is, word-sure, pattern-taken, ends-top, top_end, only-is, cond-one}

-- from a comment on, so many bytes are passed
abbrev Passes : Comment → List ℕ → ℕ → Comment → Type 0
Passes c x n d = head_end true c 0 x ≡ behind n (head_end true d 0 (drop n x))

turn-gap : (c d : Comment) (n : ℕ) (x : List ℕ) → 0 < n → gap_at Top c x ≡ gap_of n Top d → head_turn true c x ≡ Some (Passed n d)
unfolding head_turn
turn-gap c d n x some e =
    let yes : nat_lt 0 n ≡ true = lt-ltb 0 n some in
    let rest = statement_turn (word_of true (begin Start) x) (end_of true (begin (Known false)) x) in
    ap (λ (g : Gap). cond (nat_lt 0 g.len) (Some (Passed g.len g.comment)) rest) e ∙ ap (λ (t : Bool). cond t (Some (Passed n d)) rest) yes

gap-pass : (c d : Comment) (n : ℕ) (x : List ℕ) → 0 < n → n ≤ length x → gap_at Top c x ≡ gap_of n Top d → Passes c x n d
gap-pass c d n x some le e = end_passed c d n x some le (turn-gap c d n x some e)

pass-more : (c d e : Comment) (b n : ℕ) (bs : List ℕ) → Passes c (b ∷ bs) 1 d → Passes d bs n e → Passes c (b ∷ bs) (1 + n) e
pass-more c d e b n bs p q =
    let k : suc n ≡ 1 + n = omega arith in
    p ∙ ap (behind 1) q ∙ behind_both 1 n (head_end true e 0 (drop n bs)) ∙ ap (λ (i : ℕ). behind (1 + n) (head_end true e 0 (drop i (b ∷ bs)))) k

pass-two : (c d e : Comment) (a b n : ℕ) (bs : List ℕ) → Passes c (a ∷ b ∷ bs) 2 d → Passes d bs n e → Passes c (a ∷ b ∷ bs) (2 + n) e
pass-two c d e a b n bs p q =
    let k : suc (suc n) ≡ 2 + n = omega arith in
    p ∙ ap (behind 2) q ∙ behind_both 2 n (head_end true e 0 (drop n bs)) ∙ ap (λ (i : ℕ). behind (2 + n) (head_end true e 0 (drop i (a ∷ b ∷ bs)))) k

pass-none : (c : Comment) → Passes c [] 0 Outside
pass-none c = end_none c ∙ sym (ap (behind 0) (end_none Outside))

one-le : (b : ℕ) (bs : List ℕ) → 1 ≤ length (b ∷ bs)
one-le b bs = omega arith

two-le : (a b : ℕ) (bs : List ℕ) → 2 ≤ length (a ∷ b ∷ bs)
two-le a b bs = omega arith

blank-pass : (b : ℕ) (bs : List ℕ) → is_blank b ≡ true → Passes Outside (b ∷ bs) 1 Outside
unfolding gap_at outside_gap
blank-pass b bs e = gap-pass Outside Outside 1 (b ∷ bs) (omega arith) (one-le b bs) (rw e refl)

semicolon-pass : (bs : List ℕ) → Passes Outside (59 ∷ bs) 1 Outside
unfolding gap_at outside_gap
semicolon-pass bs = gap-pass Outside Outside 1 (59 ∷ bs) (omega arith) (one-le 59 bs) refl

line-begins : (bs : List ℕ) → Passes Outside (47 ∷ 47 ∷ bs) 2 Line
unfolding gap_at outside_gap slash_gap
line-begins bs = gap-pass Outside Line 2 (47 ∷ 47 ∷ bs) (omega arith) (two-le 47 47 bs) refl

block-begins : (bs : List ℕ) → Passes Outside (47 ∷ 42 ∷ bs) 2 (Block false)
unfolding gap_at outside_gap slash_gap
block-begins bs = gap-pass Outside (Block false) 2 (47 ∷ 42 ∷ bs) (omega arith) (two-le 47 42 bs) refl

line-goes : (b : ℕ) (bs : List ℕ) → eqb b 10 ≡ false → Passes Line (b ∷ bs) 1 Line
unfolding gap_at line_gap
line-goes b bs e = gap-pass Line Line 1 (b ∷ bs) (omega arith) (one-le b bs) (ap (λ (t : Bool). gap_of 1 Top (cond t Outside Line)) e)

line-ends : (b : ℕ) (bs : List ℕ) → eqb b 10 ≡ true → Passes Line (b ∷ bs) 1 Outside
unfolding gap_at line_gap
line-ends b bs e = gap-pass Line Outside 1 (b ∷ bs) (omega arith) (one-le b bs) (ap (λ (t : Bool). gap_of 1 Top (cond t Outside Line)) e)

block-goes : (star : Bool) (b : ℕ) (bs : List ℕ) → (star && eqb b 47) ≡ false → Passes (Block star) (b ∷ bs) 1 (Block (eqb b 42))
unfolding gap_at block_gap
block-goes star b bs e = gap-pass (Block star) (Block (eqb b 42)) 1 (b ∷ bs) (omega arith) (one-le b bs) (ap (λ (t : Bool). gap_of 1 Top (cond t Outside (Block (eqb b 42)))) e)

block-ends : (star : Bool) (b : ℕ) (bs : List ℕ) → (star && eqb b 47) ≡ true → Passes (Block star) (b ∷ bs) 1 Outside
unfolding gap_at block_gap
block-ends star b bs e = gap-pass (Block star) Outside 1 (b ∷ bs) (omega arith) (one-le b bs) (ap (λ (t : Bool). gap_of 1 Top (cond t Outside (Block (eqb b 42)))) e)

feed-blank : (b : ℕ) → eqb b 10 ≡ true → is_blank b ≡ true
feed-blank b e = let i = eqb-true b 10 e in rw i refl

line-walk : (bs : List ℕ) → Passes Line bs (line_len bs) Outside
line-walk [] = pass-none Line
line-walk (b ∷ bs) = cond_both (not (eqb b 10)) (1 + line_len bs) 0 (λ n. Passes Line (b ∷ bs) n Outside)
    (λ e. pass-more Line Line Outside b (line_len bs) bs (line-goes b bs (not-true (eqb b 10) e)) (line-walk bs))
    (λ e. let feed = not-false (eqb b 10) e in line-ends b bs feed ∙ sym (blank-pass b bs (feed-blank b feed)) ∙ sym (behind_none (head_end true Outside 0 (b ∷ bs))))

block-walk : (star : Bool) (bs : List ℕ) → Passes (Block star) bs (closed_len 47 star bs) Outside
block-walk star [] = pass-none (Block star)
block-walk star (b ∷ bs) = cond_both (star && eqb b 47) 1 (1 + closed_len 47 (eqb b 42) bs) (λ n. Passes (Block star) (b ∷ bs) n Outside)
    (λ e. block-ends star b bs e)
    (λ e. pass-more (Block star) (Block (eqb b 42)) Outside b (closed_len 47 (eqb b 42) bs) bs (block-goes star b bs e) (block-walk (eqb b 42) bs))

-- at the pieces of a text: a blank is passed, and at a token no gap begins but at a ;
abbrev WalkedBy : List ℕ → Piece → Type 0
WalkedBy x (Blank n) = Passes Outside x n Outside
WalkedBy x (token n) = is_only 59 (take n x) ≡ false → (gap_at Top Outside x).len ≡ 0

record Walked (x : List ℕ) (p : Piece) : Type 0 where
  is : WalkedBy x p

no-gap : (x : List ℕ) (n : ℕ) → (gap_at Top Outside x).len ≡ 0 → Walked x (token n)
no-gap x n e = record { is = λ apart. e }

passed : (x : List ℕ) (n : ℕ) → Passes Outside x n Outside → Walked x (Blank n)
passed x n p = record { is = p }

quote-gap : (b : ℕ) (bs : List ℕ) → is_quote b ≡ true → (gap_at Top Outside (b ∷ bs)).len ≡ 0
unfolding gap_at outside_gap
quote-gap b bs e = elim (or_cases (eqb b 34) (eqb b 39) e) [
  | inl k ↦ (let i = eqb-true b 34 k in rw i refl)
  | inr k ↦ (let i = eqb-true b 39 k in rw i refl)
]

brace-gap : (bs : List ℕ) → (gap_at Top Outside (123 ∷ bs)).len ≡ 0
unfolding gap_at outside_gap
brace-gap bs = refl

brace-walked : (bs : List ℕ) → Walked (123 ∷ bs) (brace_piece bs)
unfolding brace_piece
brace-walked [] = no-gap (123 ∷ []) 1 (brace-gap [])
brace-walked (c ∷ cs) = cond_both (eqb c 42) (token (2 + closed_len 125 false cs)) (token 1) (Walked (123 ∷ c ∷ cs))
    (λ e. no-gap (123 ∷ c ∷ cs) (2 + closed_len 125 false cs) (brace-gap (c ∷ cs))) (λ e. no-gap (123 ∷ c ∷ cs) 1 (brace-gap (c ∷ cs)))

close-gap : (bs : List ℕ) → (gap_at Top Outside (125 ∷ bs)).len ≡ 0
unfolding gap_at outside_gap
close-gap bs = refl

other-gap : (b : ℕ) (bs : List ℕ) → other_mark b ≡ true → (gap_at Top Outside (b ∷ bs)).len ≡ 0
unfolding gap_at outside_gap
other-gap b bs e = elim (or_cases (eqb b 61 || eqb b 58) (eqb b 33) e) [
  | inl f ↦ elim (or_cases (eqb b 61) (eqb b 58) f) [ inl k ↦ (let i = eqb-true b 61 k in rw i refl) | inr k ↦ (let i = eqb-true b 58 k in rw i refl) ]
  | inr k ↦ (let i = eqb-true b 33 k in rw i refl)
]

mark-walked : (b : ℕ) (bs : List ℕ) → eqb b 123 ≡ false → is_mark b ≡ true → Walked (b ∷ bs) (token 1)
mark-walked b bs o m = elim (or_cases (eqb b 123) (eqb b 125 || (eqb b 59 || other_mark b)) m) [
  | inl e ↦ absurd (true≢false (sym e ∙ o))
  | inr f ↦ elim (or_cases (eqb b 125) (eqb b 59 || other_mark b) f) [
    | inl e ↦ subst (λ (c : ℕ). Walked (c ∷ bs) (token 1)) (sym (eqb-true b 125 e)) (no-gap (125 ∷ bs) 1 (close-gap bs))
    | inr h ↦ elim (or_cases (eqb b 59) (other_mark b) h) [
      | inl e ↦ record { is = λ apart. absurd (true≢false (sym e ∙ apart)) }
      | inr e ↦ no-gap (b ∷ bs) 1 (other-gap b bs e)
    ]
  ]
]

slash-alone : (gap_at Top Outside (47 ∷ [])).len ≡ 0
unfolding gap_at outside_gap slash_gap
slash-alone = refl

slash-run : (c : ℕ) (cs : List ℕ) → eqb c 47 ≡ false → eqb c 42 ≡ false → (gap_at Top Outside (47 ∷ c ∷ cs)).len ≡ 0
unfolding gap_at outside_gap slash_gap
slash-run c cs e f = rw (e, f) refl

slash-walked : (bs : List ℕ) → Walked (47 ∷ bs) (slash_piece bs)
unfolding slash_piece
slash-walked [] = no-gap (47 ∷ []) 1 slash-alone
slash-walked (c ∷ cs) = cond_both (eqb c 47) (Blank (2 + line_len cs)) (cond (eqb c 42) (Blank (2 + closed_len 47 false cs)) (token (1 + prefix_len is_run (c ∷ cs)))) (Walked (47 ∷ c ∷ cs))
    (λ e. subst (λ (b : ℕ). Walked (47 ∷ b ∷ cs) (Blank (2 + line_len cs))) (sym (eqb-true c 47 e)) (passed (47 ∷ 47 ∷ cs) (2 + line_len cs) (pass-two Outside Line Outside 47 47 (line_len cs) cs (line-begins cs) (line-walk cs))))
    (λ e. cond_both (eqb c 42) (Blank (2 + closed_len 47 false cs)) (token (1 + prefix_len is_run (c ∷ cs))) (Walked (47 ∷ c ∷ cs))
    (λ f. subst (λ (b : ℕ). Walked (47 ∷ b ∷ cs) (Blank (2 + closed_len 47 false cs))) (sym (eqb-true c 42 f))
    (passed (47 ∷ 42 ∷ cs) (2 + closed_len 47 false cs) (pass-two Outside (Block false) Outside 47 42 (closed_len 47 false cs) cs (block-begins cs) (block-walk false cs))))
    (λ f. no-gap (47 ∷ c ∷ cs) (1 + prefix_len is_run (c ∷ cs)) (slash-run c cs e f)))

run-gap : (b : ℕ) (bs : List ℕ) → IsDull b → eqb b 47 ≡ false → (gap_at Top Outside (b ∷ bs)).len ≡ 0
unfolding gap_at outside_gap
run-gap b bs i slash = rw (i.blank, i.semicolon, slash, i.closing) refl

walked : (b : ℕ) (bs : List ℕ) → Walked (b ∷ bs) (piece_at (b ∷ bs))
unfolding piece_at
walked b bs = cond_both (is_blank b) _ _ (λ p. Walked (b ∷ bs) p)
    (λ e. passed (b ∷ bs) 1 (blank-pass b bs e))
    (λ blank. cond_both (is_quote b) _ _ (λ p. Walked (b ∷ bs) p)
    (λ e. no-gap (b ∷ bs) (1 + quoted_len b bs) (quote-gap b bs e))
    (λ quote. cond_both (eqb b 123) _ _ (λ p. Walked (b ∷ bs) p)
    (λ e. subst (λ (c : ℕ). Walked (c ∷ bs) (brace_piece bs)) (sym (eqb-true b 123 e)) (brace-walked bs))
    (λ open_brace. cond_both (is_mark b) _ _ (λ p. Walked (b ∷ bs) p)
    (λ e. mark-walked b bs open_brace e)
    (λ mark. cond_both (eqb b 47) _ _ (λ p. Walked (b ∷ bs) p)
    (λ e. subst (λ (c : ℕ). Walked (c ∷ bs) (slash_piece bs)) (sym (eqb-true b 47 e)) (slash-walked bs))
    (λ slash. no-gap (b ∷ bs) (1 + prefix_len is_run bs) (run-gap b bs (dull b (rw (blank, quote, mark) refl)) slash))))))

walked-at : (x : List ℕ) (p : Piece) → 0 < length x → p ≡ piece_at x → WalkedBy x p
walked-at [] p some e = absurd (omega arith)
walked-at (b ∷ bs) p some e = let w : Walked (b ∷ bs) p = subst (Walked (b ∷ bs)) (sym e) (walked b bs) in w.is

-- a lone semicolon is passed
semicolon-first : (x : List ℕ) (n : ℕ) → n ≤ length x → take n x ≡ 59 ∷ [] → Passes Outside x n Outside
semicolon-first [] zero le e = absurd cc
semicolon-first [] (suc n) le e = absurd cc
semicolon-first (b ∷ bs) zero le e = absurd cc
semicolon-first (b ∷ bs) (suc n) le e =
    let first : b ≡ 59 = cc in
    let rest : take n bs ≡ [] = cc in
    let len = length-take-le n bs (omega arith) in
    let none : length (take n bs) ≡ 0 = ap length rest in
    let one : 1 ≡ suc n = omega arith in
    subst (λ (k : ℕ). Passes Outside (b ∷ bs) k Outside) one (subst (λ (c : ℕ). Passes Outside (c ∷ bs) 1 Outside) (sym first) (semicolon-pass bs))

-- the turn at a statement, by its word and its end
turn-statement : (x : List ℕ) (word : Bool) (end : Option Found) → (gap_at Top Outside x).len ≡ 0 → word_of true (begin Start) x ≡ Some word → end_of true (begin (Known false)) x ≡ end
    → head_turn true Outside x ≡ statement_turn (Some word) end
unfolding head_turn
turn-statement x word end gap is ends =
    ap (λ (k : ℕ). cond (nat_lt 0 k) (Some (Passed (gap_at Top Outside x).len (gap_at Top Outside x).comment)) (statement_turn (word_of true (begin Start) x) (end_of true (begin (Known false)) x))) gap
    ∙ ap (λ (o : Option Bool). statement_turn o (end_of true (begin (Known false)) x)) is ∙ ap (statement_turn (Some word)) ends

-- the first statement and those behind it
first-start : (m : ℕ) (t : Token) (ts : List Token) → 0 < m → (place_of (take m (t ∷ ts))).start ≡ t.start
first-start zero t ts some = absurd (omega arith)
first-start (suc m) t ts some = refl

place-first : (n : ℕ) (t : Token) (ts : List Token)
    → pattern_place n (stil_statements (t ∷ ts)) ≡ cond (is_pattern (t ∷ ts)) t.start (pattern_place n (stil_statements (drop (statement_len (t ∷ ts)) (t ∷ ts))))
place-first n t ts =
    let len = statement_len (t ∷ ts) in
    let rest = pattern_place n (stil_statements (drop len (t ∷ ts))) in
    ap (pattern_place n) (first_law t ts) ∙ ap (λ (b : Bool). cond b (place_of (take len (t ∷ ts))).start rest) (pattern-taken (t ∷ ts))
    ∙ ap (λ (i : ℕ). cond (is_pattern (t ∷ ts)) i rest) (first-start len t ts (statement_len-some t ts))

place-nothing : (n : ℕ) → pattern_place n (stil_statements []) ≡ n
unfolding statements_within
place-nothing n = refl

-- a lone semicolon is a statement of another word
semicolon-statement : (n : ℕ) (t : Token) (ts : List Token) → t.text ≡ 59 ∷ [] → pattern_place n (stil_statements (t ∷ ts)) ≡ pattern_place n (stil_statements ts)
semicolon-statement n t ts e =
    let one : statement_len (t ∷ ts) ≡ 1 = ap (λ (w : List ℕ). cond (token_ends 0 w) 1 (1 + len_in (depth_behind 0 w) ts)) e in
    let sure : behind_token Begin t.text ≡ Sure false = ap (behind_token Begin) e in
    let other : is_pattern (t ∷ ts) ≡ false =
    sym (word-is 0 (t ∷ ts)) ∙ ap (λ (g : Stage). word_in (behind_token g t.text) t.end ts) (cond-one (eqb t.start 0) Begin) ∙ ap (λ (g : Stage). word_in g t.end ts) sure ∙ word-sure false t.end ts in
    place-first n t ts ∙ ap (λ (b : Bool). cond b t.start (pattern_place n (stil_statements (drop (statement_len (t ∷ ts)) (t ∷ ts))))) other
    ∙ ap (λ (k : ℕ). pattern_place n (stil_statements (drop k (t ∷ ts)))) one

-- where no token ends the statement, none stands behind it
none-behind : (d : ℕ) (ts : List Token) → statement_end d ts ≡ None → drop (len_in d ts) ts ≡ []
none-behind d [] e = refl
none-behind d (t ∷ ts) e = elim (cases_Bool (token_ends d t.text)) [
  | inl h ↦ absurd (let k : Some t.end ≡ None = sym (ap (λ (b : Bool). cond b (Some t.end) (statement_end (depth_behind d t.text) ts)) h) ∙ e in cc)
  | inr h ↦ (
      let m = len_in (depth_behind d t.text) ts in
      let s : 1 + m ≡ suc m = omega arith in
      let len : len_in d (t ∷ ts) ≡ suc m = ap (λ (b : Bool). cond b 1 (1 + m)) h ∙ s in
      let later : statement_end (depth_behind d t.text) ts ≡ None = sym (ap (λ (b : Bool). cond b (Some t.end) (statement_end (depth_behind d t.text) ts)) h) ∙ e in
      ap (λ (n : ℕ). drop n (t ∷ ts)) len ∙ none-behind (depth_behind d t.text) ts later)
]

-- an end that was found, by tokens
ended-none : (k : ℕ) (o : Option ℕ) → later k None ≡ ended o → o ≡ None
ended-none k None e = refl
ended-none k (Some n) e = absurd cc

ended-some : (k : ℕ) (f : Found) (o : Option ℕ) → later k (Some f) ≡ ended o → o ≡ Some (k + f.len)
ended-some k f None e = absurd cc
ended-some k f (Some n) e = let same : found (k + f.len) f.opens ≡ found n false = cc in ap (λ (g : Found). Some g.len) (sym same)

module _ (text : List ℕ) where
  -- behind a statement stand the tokens from its end on
  record EndsAt (k d e : ℕ) (ts : List Token) : Type 0 where
    same : drop (len_in d ts) ts ≡ tokens_at text e
    more : k < e
    within : e ≤ length text

  ends-later : (k d e n : ℕ) (t : Token) (ts : List Token) → token_ends d t.text ≡ false → EndsAt (k + n) (depth_behind d t.text) e ts → EndsAt k d e (t ∷ ts)
  ends-later k d e n t ts h r =
      let m = len_in (depth_behind d t.text) ts in
      let s : 1 + m ≡ suc m = omega arith in
      let len : len_in d (t ∷ ts) ≡ suc m = ap (λ (b : Bool). cond b 1 (1 + m)) h ∙ s in
      let over = r.more in
      record { same = ap (λ (i : ℕ). drop i (t ∷ ts)) len ∙ r.same; more = omega arith; within = r.within }

  ends-here : (k d e n : ℕ) (t : Token) (ts : List Token) → token_ends d t.text ≡ true → ts ≡ tokens_at text e → e ≡ k + n → 0 < n → k + n ≤ length text → EndsAt k d e (t ∷ ts)
  ends-here k d e n t ts h same is some within =
      let len : len_in d (t ∷ ts) ≡ 1 = ap (λ (b : Bool). cond b 1 (1 + len_in (depth_behind d t.text) ts)) h in
      record { same = ap (λ (i : ℕ). drop i (t ∷ ts)) len ∙ same; more = omega arith; within = omega arith }

  -- from a place on, for so many bytes behind it
  abbrev EndsFrom : ℕ → Type 0
  EndsFrom k = (d e : ℕ) → statement_end d (tokens_at text k) ≡ Some e → EndsAt k d e (tokens_at text k)

  ends-token : (k n : ℕ) → 0 < n → k + n ≤ length text → tokens_at text k ≡ token_at text k n ∷ tokens_at text (k + n) → EndsFrom (k + n) → EndsFrom k
  ends-token k n some within cut more d e is =
      let t = token_at text k n in
      let ts = tokens_at text (k + n) in
      let there : statement_end d (t ∷ ts) ≡ Some e = sym (ap (statement_end d) cut) ∙ is in
      subst (EndsAt k d e) (sym cut)
      (elim (cases_Bool (token_ends d t.text)) [
        | inl h ↦ (
            let same : k + n ≡ e = same_Some _ _ (sym (ap (λ (b : Bool). cond b (Some t.end) (statement_end (depth_behind d t.text) ts)) h) ∙ there) in
            ends-here k d e n t ts h (ap (tokens_at text) same) (sym same) some within)
        | inr h ↦ ends-later k d e n t ts h (more (depth_behind d t.text) e (sym (ap (λ (b : Bool). cond b (Some t.end) (statement_end (depth_behind d t.text) ts)) h) ∙ there))
      ])

  ends-blank : (k n : ℕ) → tokens_at text k ≡ tokens_at text (k + n) → EndsFrom (k + n) → EndsFrom k
  ends-blank k n cut more d e is =
      let r = more d e (sym (ap (statement_end d) cut) ∙ is) in
      let over = r.more in
      record { same = ap (λ (ts : List Token). drop (len_in d ts) ts) cut ∙ r.same; more = omega arith; within = r.within }

  ends-within : (fuel k : ℕ) → length text ≤ k + fuel → EndsFrom k
  ends-within zero k le = λ d e is. absurd (let none = tokens-nothing text k (omega arith) in let q : None ≡ Some e = sym (ap (statement_end d) none) ∙ is in cc)
  ends-within (suc fuel) k le = elim (at-place text k) [
    | AtEnd ge none ↦ λ d e is. absurd (let q : None ≡ Some e = sym (ap (statement_end d) none) ∙ is in cc)
    | AtBlank n is some within cut ↦ ends-blank k n cut (ends-within fuel (k + n) (omega arith))
    | AtToken n is some within cut ↦ ends-token k n some within cut (ends-within fuel (k + n) (omega arith))
  ]

  -- the law from a place on
  abbrev total : ℕ
  total = length text

  abbrev EndsBy : ℕ → Type 0
  EndsBy k = behind k (head_end true Outside 0 (drop k text)) ≡ Some (pattern_place total (stil_statements (tokens_at text k)))

  place-end : (k : ℕ) → k ≤ total → total ≤ k → tokens_at text k ≡ [] → EndsBy k
  place-end k le ge none =
      let here : k + 0 ≡ total = omega arith in
      ap (λ (x : List ℕ). behind k (head_end true Outside 0 x)) (drop_all k text ge) ∙ ap (behind k) (end_none Outside) ∙ ap (λ (n : ℕ). Some n) here
      ∙ sym (ap (λ (n : ℕ). Some n) (ap (λ (ts : List Token). pattern_place total (stil_statements ts)) none ∙ place-nothing total))

  place-passed : (k n : ℕ) → Passes Outside (drop k text) n Outside → pattern_place total (stil_statements (tokens_at text k)) ≡ pattern_place total (stil_statements (tokens_at text (k + n))) → EndsBy (k + n) → EndsBy k
  place-passed k n p same more =
      ap (behind k) p ∙ behind_both k n (head_end true Outside 0 (drop n (drop k text))) ∙ ap (λ (x : List ℕ). behind (k + n) (head_end true Outside 0 x)) (drop-drop n k text) ∙ more
      ∙ sym (ap (λ (i : ℕ). Some i) same)

  -- at a statement
  module _ (k n : ℕ) (le : k < total) (some : 0 < n) (within : k + n ≤ total) (is : token n ≡ piece_at (drop k text)) (cut : tokens_at text k ≡ token_at text k n ∷ tokens_at text (k + n))
      (more : (m : ℕ) → 0 < m → k + m ≤ total → EndsBy (k + m)) where
    abbrev rest : List ℕ
    rest = drop k text

    abbrev ts : List Token
    ts = tokens_at text k

    left : length rest ≡ total - k
    left = length-drop k text

    rest-some : 0 < length rest
    rest-some = omega (arith, left)

    at-semicolon : is_only 59 (take n (drop k text)) ≡ true → EndsBy k
    at-semicolon e =
        let word = only-is 59 (take n (drop k text)) e in
        let same = ap (λ (l : List Token). pattern_place total (stil_statements l)) cut ∙ semicolon-statement total (token_at text k n) (tokens_at text (k + n)) word in
        place-passed k n (semicolon-first (drop k text) n (omega (arith, left)) word) same (more n some within)

    place-of : (b : Bool) → is_pattern ts ≡ b → pattern_place total (stil_statements ts) ≡ cond b k (pattern_place total (stil_statements (drop (statement_len ts) ts)))
    place-of b e =
        ap (λ (l : List Token). pattern_place total (stil_statements l)) cut ∙ place-first total (token_at text k n) (tokens_at text (k + n))
        ∙ sym (ap (λ (l : List Token). cond (is_pattern l) k (pattern_place total (stil_statements (drop (statement_len l) l)))) cut)
        ∙ ap (λ (c : Bool). cond c k (pattern_place total (stil_statements (drop (statement_len ts) ts)))) e

    word-there : (b : Bool) → is_pattern ts ≡ b → word_of true (begin Start) rest ≡ Some b
    word-there b e = let h = holds text Begin 0 k in h.word ∙ ap (λ (c : Bool). Some c) (word-is k ts ∙ e)

    end-there : (o : Option Found) → end_of true (begin (Known false)) rest ≡ o → later k o ≡ ended (statement_end 0 ts)
    end-there o e =
        let h = holds text (Sure false) 0 k in
        ap (later k) (sym e) ∙ h.ends ∙ ends-top (Sure false) k ts ∙ ap (λ (b : Bool). top_end b ts) (word-sure false k ts)

    at-pattern : (gap_at Top Outside (drop k text)).len ≡ 0 → is_pattern ts ≡ true → EndsBy k
    at-pattern gap e =
        let turn = turn-statement rest true (end_of true (begin (Known false)) rest) gap (word-there true e) refl in
        let here : k + 0 ≡ k = omega arith in
        ap (behind k) (end_here Outside rest rest-some turn) ∙ ap (λ (i : ℕ). Some i) here ∙ sym (ap (λ (i : ℕ). Some i) (place-of true e))

    at-open : (gap_at Top Outside (drop k text)).len ≡ 0 → is_pattern ts ≡ false → end_of true (begin (Known false)) rest ≡ None → EndsBy k
    at-open gap e none =
        let turn = turn-statement rest false None gap (word-there false e) none in
        let last : k + length rest ≡ total = omega (arith, left) in
        let behind-it = none-behind 0 ts (ended-none k (statement_end 0 ts) (end-there None none)) in
        ap (behind k) (end_open Outside rest rest-some turn) ∙ ap (λ (i : ℕ). Some i) last
        ∙ sym (ap (λ (i : ℕ). Some i) (place-of false e ∙ ap (λ (l : List Token). pattern_place total (stil_statements l)) behind-it ∙ place-nothing total))

    at-other : (f : Found) → (gap_at Top Outside (drop k text)).len ≡ 0 → is_pattern ts ≡ false → end_of true (begin (Known false)) rest ≡ Some f → EndsBy k
    at-other f gap e end =
        let turn = turn-statement rest false (Some f) gap (word-there false e) end in
        let found_at = ended-some k f (statement_end 0 ts) (end-there (Some f) end) in
        let r = ends-within total k (omega arith) 0 (k + f.len) found_at in
        let over = r.more in
        let under = r.within in
        let pass = end_passed Outside Outside f.len rest (omega arith) (omega (arith, left)) turn in
        place-passed k f.len pass (place-of false e ∙ ap (λ (l : List Token). pattern_place total (stil_statements l)) r.same) (more f.len (omega arith) under)

    at-statement : is_only 59 (take n (drop k text)) ≡ false → EndsBy k
    at-statement apart =
        let gap = walked-at rest (token n) rest-some is apart in
        elim (cases_Bool (is_pattern ts)) [
          | inl e ↦ at-pattern gap e
          | inr e ↦ by gap e (end_of true (begin (Known false)) (drop k text)) refl
        ]
      where
        by : (gap_at Top Outside (drop k text)).len ≡ 0 → is_pattern ts ≡ false → (o : Option Found) → end_of true (begin (Known false)) (drop k text) ≡ o → EndsBy k
        by gap e None end = at-open gap e end
        by gap e (Some f) end = at-other f gap e end

    at-token : EndsBy k
    at-token = elim (cases_Bool (is_only 59 (take n (drop k text)))) [ inl e ↦ at-semicolon e | inr e ↦ at-statement e ]

  place-within : (fuel k : ℕ) → k ≤ total → total ≤ k + fuel → EndsBy k
  place-within zero k le far = place-end k le (omega arith) (tokens-nothing text k (omega arith))
  place-within (suc fuel) k le far = elim (at-place text k) [
    | AtEnd ge none ↦ place-end k le ge none
    | AtBlank n is some within cut ↦
        (let left = length-drop k text in
        let walk = walked-at (drop k text) (Blank n) (omega (arith, left)) is in
        place-passed k n walk (ap (λ (l : List Token). pattern_place total (stil_statements l)) cut) (place-within fuel (k + n) within (omega arith)))
    | AtToken n is some within cut ↦ at-token k n (omega arith) some within is cut (λ m more fits. place-within fuel (k + m) fits (omega arith))
  ]

-- the whole head
head_ends : (text : List ℕ) → head_end true Outside 0 text ≡ Some (head_place text)
head_ends text = sym (behind_none (head_end true Outside 0 text)) ∙ place-within text (length text) 0 (omega arith) (omega arith)

head_within : (text : List ℕ) → nat_lt largest (length text) ≡ false → head_len text ≡ Some (head_place text)
head_within text e = ap (λ (b : Bool). cond b (head_end false Outside 0 (take largest text)) (head_end true Outside 0 text)) e ∙ head_ends text

head_shown : (text : List ℕ) (n : ℕ) → head_len text ≡ Some n → n ≡ head_place text
head_shown text n e = elim (cases_Bool (nat_lt largest (length text))) [
  | inl over ↦ (
      let shown : head_end false Outside 0 (take largest text) ≡ Some n = sym (ap (λ (b : Bool). cond b (head_end false Outside 0 (take largest text)) (head_end true Outside 0 text)) over) ∙ e in
      let whole = head_law true Outside 0 n (take largest text) (drop largest text) shown in
      same_Some _ _ (sym whole ∙ ap (head_end true Outside 0) (take-append-drop largest text) ∙ head_ends text))
  | inr under ↦ same_Some _ _ (sym e ∙ head_within text under)
]

pub head_place_law : HeadPlaceLaw
head_place_law = record { ends = head_ends; within = head_within; shown = head_shown }
