-- What is passed on the way to a head's end: blanks, comments, empty statements and statements of another word than Pattern.
use Rattle.std.specs.Prelude.{⊤, nat_lt}
use Rattle.std.proofs.Common.{◌≡◌, ℕ, zero, suc, ◌+◌, ◌-◌, ◌<◌, ◌≤◌, Bool, true, false, cond, eqb, ◌&&◌, ◌||◌, not, ◌⊎◌, inl, inr, List, [], ◌∷◌, ◌++◌, length, Option, Some, None, refl, sym, ap, ◌∙◌, subst, arith, append_assoc, length-append}
use Rattle.std.specs.List.{prefix_len}
use Rattle.std.proofs.lemmas.Bool.{cases_Bool, true≢false, eqb-true, not-true}
use Rattle.std.proofs.lemmas.Bool.Decides.{nat_tests}
use Rattle.token_forms.specs.declared.piece.Piece.{Piece}
use Rattle.token_forms.specs.declared.piece.Piece.TheVariants.{Blank, Token as token}
use Rattle.token_forms.specs.Pieces.{piece_len}
use Rattle.stil_tokens.specs.StilTokens.{is_blank, is_quote, is_mark, is_run, quoted_len, closed_len, line_len, brace_piece, slash_piece, piece_at}
use Rattle.stil_parts.specs.declared.gap.Place.TheVariants.{Top}
use Rattle.stil_parts.specs.declared.gap.Comment.{Comment}
use Rattle.stil_parts.specs.declared.gap.Comment.TheVariants.{Outside, Line, Block}
use Rattle.stil_parts.specs.declared.gap.Gap.{Gap}
use Rattle.stil_parts.specs.declared.scan.Found.{Found}
use Rattle.stil_parts.specs.declared.head.HeadTurn.{HeadTurn}
use Rattle.stil_parts.specs.declared.head.HeadTurn.TheVariants.{Passed, Here}
use Rattle.stil_parts.specs.declared.word.Word.TheVariants.{Start, Known}
use Rattle.stil_parts.specs.Scanner.{end_of}
use Rattle.stil_parts.specs.Parts.{begin}
use Rattle.stil_parts.specs.Gaps.{gap_of, line_gap, block_gap, slash_gap, close_gap, outside_gap, gap_at}
use Rattle.stil_parts.specs.Heads.{word_of, statement_turn, head_turn, head_end}
use Rattle.head_text.specs.Mixes.{bytes_in, piece_for, AreLaid}
use Rattle.head_text.specs.Ready.{AreBlank}
use Rattle.head_text.proofs.Cutting.{Pieces}

-- so many bytes further
abbrev pub plus : ℕ → Option ℕ → Option ℕ
plus n None = None
plus n (Some m) = Some (n + m)

pub plus_plus : (m n : ℕ) (o : Option ℕ) → plus m (plus n o) ≡ plus (m + n) o
plus_plus m n None = refl
plus_plus m n (Some k) = let e : m + (n + k) ≡ m + n + k = omega arith in ap (λ (i : ℕ). Some i) e

plus_zero : (o : Option ℕ) → plus 0 o ≡ o
plus_zero None = refl
plus_zero (Some k) = let e : 0 + k ≡ k = omega arith in ap (λ (i : ℕ). Some i) e

as_plus : (o : Option ℕ) → elim o [ None ↦ None | Some n ↦ Some (1 + n) ] ≡ plus 1 o
as_plus None = refl
as_plus (Some n) = refl

inside_over : (c : Comment) (x z : List ℕ) → head_end true c (length x) (x ++ z) ≡ plus (length x) (head_end true c 0 z)
unfolding head_end
inside_over c [] z = sym (plus_zero (head_end true c 0 z))
inside_over c (b ∷ x) z =
    let e : 1 + length x ≡ suc (length x) = omega arith in
    as_plus (head_end true c (length x) (x ++ z)) ∙ ap (plus 1) (inside_over c x z) ∙ plus_plus 1 (length x) (head_end true c 0 z) ∙ ap (λ (n : ℕ). plus n (head_end true c 0 z)) e

end_at : (c d : Comment) (b n : ℕ) (bs : List ℕ) → head_turn true c (b ∷ bs) ≡ Some (Passed n d) → head_end true c 0 (b ∷ bs) ≡ plus 1 (head_end true d (n - 1) bs)
unfolding head_end
end_at c d b n bs e = rw (e, head_end) (as_plus (head_end true d (n - 1) bs))

pub end_here : (c : Comment) (b : ℕ) (bs : List ℕ) → head_turn true c (b ∷ bs) ≡ Some Here → head_end true c 0 (b ∷ bs) ≡ Some 0
unfolding head_end
end_here c b bs e = rw (e, head_end) refl

pub end_nothing : (c : Comment) → head_end true c 0 [] ≡ Some 0
unfolding head_end
end_nothing c = refl

pub turn_pass : (c d : Comment) (b : ℕ) (x z : List ℕ) → head_turn true c (b ∷ (x ++ z)) ≡ Some (Passed (suc (length x)) d) → head_end true c 0 (b ∷ (x ++ z)) ≡ plus (suc (length x)) (head_end true d 0 z)
turn_pass c d b x z e =
    let n : suc (length x) - 1 ≡ length x = omega arith in
    let m : 1 + length x ≡ suc (length x) = omega arith in
    end_at c d b (suc (length x)) (x ++ z) e ∙ ap (λ (k : ℕ). plus 1 (head_end true d k (x ++ z))) n ∙ ap (plus 1) (inside_over d x z) ∙ plus_plus 1 (length x) (head_end true d 0 z)
    ∙ ap (λ (k : ℕ). plus k (head_end true d 0 z)) m

-- some bytes are passed, whatever follows
pub record Passes (c : Comment) (u : List ℕ) (d : Comment) : Type 0 where
  pub is : (z : List ℕ) → head_end true c 0 (u ++ z) ≡ plus (length u) (head_end true d 0 z)

pub passes_none : (c : Comment) → Passes c [] c
passes_none c = record { is = λ z. sym (plus_zero (head_end true c 0 z)) }

pub passes_both : (c d e : Comment) (u v : List ℕ) → Passes c u d → Passes d v e → Passes c (u ++ v) e
passes_both c d e u v p q = record {
  is = λ z. ap (head_end true c 0) (append_assoc u v z) ∙ p.is (v ++ z) ∙ ap (plus (length u)) (q.is z) ∙ plus_plus (length u) (length v) (head_end true e 0 z)
      ∙ ap (λ (n : ℕ). plus n (head_end true e 0 z)) (sym (length-append u v));
}

gap_turn : (c : Comment) (x : List ℕ) (n : ℕ) (d : Comment) → gap_at Top c x ≡ gap_of (suc n) Top d → head_turn true c x ≡ Some (Passed (suc n) d)
unfolding head_turn
gap_turn c x n d e =
    let some : nat_lt 0 (suc n) ≡ true = grind (arith, nat_tests) in
    let other = statement_turn (word_of true (begin Start) x) (end_of true (begin (Known false)) x) in
    ap (λ (g : Gap). cond (nat_lt 0 g.len) (Some (Passed g.len g.comment)) other) e ∙ ap (λ (t : Bool). cond t (Some (Passed (suc n) d)) other) some

one_gap : (c d : Comment) (b : ℕ) → ((z : List ℕ) → gap_at Top c (b ∷ z) ≡ gap_of 1 Top d) → Passes c (b ∷ []) d
one_gap c d b h = record { is = λ z. turn_pass c d b [] z (gap_turn c (b ∷ z) zero d (h z)) }

two_gap : (c d : Comment) (a b : ℕ) → ((z : List ℕ) → gap_at Top c (a ∷ b ∷ z) ≡ gap_of 2 Top d) → Passes c (a ∷ b ∷ []) d
two_gap c d a b h = record { is = λ z. turn_pass c d a (b ∷ []) z (gap_turn c (a ∷ b ∷ z) (suc zero) d (h z)) }

blank_gap : (b : ℕ) → is_blank b ≡ true → Passes Outside (b ∷ []) Outside
unfolding gap_at outside_gap
blank_gap b e = one_gap Outside Outside b (λ z. rw e refl)

pub semicolon_gap : Passes Outside (59 ∷ []) Outside
unfolding gap_at outside_gap
semicolon_gap = one_gap Outside Outside 59 (λ z. refl)

line_begins : Passes Outside (47 ∷ 47 ∷ []) Line
unfolding gap_at outside_gap slash_gap
line_begins = two_gap Outside Line 47 47 (λ z. refl)

block_begins : Passes Outside (47 ∷ 42 ∷ []) (Block false)
unfolding gap_at outside_gap slash_gap
block_begins = two_gap Outside (Block false) 47 42 (λ z. refl)

line_ends : Passes Line (10 ∷ []) Outside
unfolding gap_at line_gap
line_ends = one_gap Line Outside 10 (λ z. refl)

line_goes : (b : ℕ) → eqb b 10 ≡ false → Passes Line (b ∷ []) Line
unfolding gap_at line_gap
line_goes b e = one_gap Line Line b (λ z. ap (λ (t : Bool). gap_of 1 Top (cond t Outside Line)) e)

block_ends : (star : Bool) (b : ℕ) → (star && eqb b 47) ≡ true → Passes (Block star) (b ∷ []) Outside
unfolding gap_at block_gap
block_ends star b e = one_gap (Block star) Outside b (λ z. ap (λ (t : Bool). gap_of 1 Top (cond t Outside (Block (eqb b 42)))) e)

block_goes : (star : Bool) (b : ℕ) → (star && eqb b 47) ≡ false → Passes (Block star) (b ∷ []) (Block (eqb b 42))
unfolding gap_at block_gap
block_goes star b e = one_gap (Block star) (Block (eqb b 42)) b (λ z. ap (λ (t : Bool). gap_of 1 Top (cond t Outside (Block (eqb b 42)))) e)

-- in a comment each byte is passed
pub line_any : (b : ℕ) → Passes Line (b ∷ []) (cond (eqb b 10) Outside Line)
unfolding gap_at line_gap
line_any b = one_gap Line (cond (eqb b 10) Outside Line) b (λ z. refl)

pub block_any : (star : Bool) (b : ℕ) → Passes (Block star) (b ∷ []) (cond (star && eqb b 47) Outside (Block (eqb b 42)))
unfolding gap_at block_gap
block_any star b = one_gap (Block star) (cond (star && eqb b 47) Outside (Block (eqb b 42))) b (λ z. refl)

-- where a line's comment ends
abbrev AtLine : List ℕ → Type 0
AtLine [] = ⊤
AtLine (b ∷ r) = b ≡ 10

line_step : (t : Bool) (m n : ℕ) → cond t (1 + m) 0 ≡ suc n → (t ≡ true) × (m ≡ n)
line_step true m n e = (refl, omega (arith, e))
line_step false m n e = absurd cc

line_none : (b m : ℕ) (t : Bool) → eqb b 10 ≡ t → cond (not t) (1 + m) 0 ≡ 0 → b ≡ 10
line_none b m true e f = eqb-true b 10 e
line_none b m false e f = absurd (omega (arith, f))

line_pass : (x r : List ℕ) → line_len (x ++ r) ≡ length x → Passes Line x Line × AtLine r
line_pass [] [] e = (passes_none Line, tt)
line_pass [] (b ∷ r) e = (passes_none Line, line_none b (line_len r) (eqb b 10) refl e)
line_pass (b ∷ x) r e =
    let s = line_step (not (eqb b 10)) (line_len (x ++ r)) (length x) e in
    let k = line_pass x r s.1 in
    (passes_both Line Line Line (b ∷ []) x (line_goes b (not-true (eqb b 10) s.0)) k.0, k.1)

-- a comment in /*
data BlockPasses (star : Bool) (x r : List ℕ) : Type 0 where
  Closed : Passes (Block star) x Outside → BlockPasses star x r
  Unclosed : (s : Bool) → Passes (Block star) x (Block s) → r ≡ [] → BlockPasses star x r

count_none : (t : Bool) (m : ℕ) → cond t 1 (1 + m) ≡ 0 → ⊥
count_none true m e = absurd (omega (arith, e))
count_none false m e = absurd (omega (arith, e))

block_more : (star : Bool) (b : ℕ) (x r : List ℕ) → (star && eqb b 47) ≡ false → BlockPasses (eqb b 42) x r → BlockPasses star (b ∷ x) r
block_more star b x r e k = elim k [
  | Closed p ↦ Closed (passes_both (Block star) (Block (eqb b 42)) Outside (b ∷ []) x (block_goes star b e) p)
  | Unclosed s p none ↦ Unclosed s (passes_both (Block star) (Block (eqb b 42)) (Block s) (b ∷ []) x (block_goes star b e) p) none
]

block_pass : (star : Bool) (x r : List ℕ) → closed_len 47 star (x ++ r) ≡ length x → BlockPasses star x r
block_pass star [] [] e = Unclosed star (passes_none (Block star)) refl
block_pass star [] (b ∷ r) e = absurd (count_none (star && eqb b 47) (closed_len 47 (eqb b 42) r) e)
block_pass star (b ∷ x) r e = by (λ g. block_pass (eqb b 42) x r g) (star && eqb b 47) refl e
  where
    last : (x : List ℕ) → 1 ≡ suc (length x) → (star && eqb b 47) ≡ true → BlockPasses star (b ∷ x) r
    last [] g f = Closed (block_ends star b f)
    last (c ∷ x) g f = absurd (omega (arith, g))

    by : (closed_len 47 (eqb b 42) (x ++ r) ≡ length x → BlockPasses (eqb b 42) x r) → (t : Bool) → (star && eqb b 47) ≡ t → cond t 1 (1 + closed_len 47 (eqb b 42) (x ++ r)) ≡ suc (length x) → BlockPasses star (b ∷ x) r
    by more true f g = last x g f
    by more false f g = block_more star b x r f (more (omega (arith, g)))

-- where blanks end
pub data Stands (c : Comment) (r : List ℕ) : Type 0 where
  IsOutside : c ≡ Outside → Stands c r
  IsLine : c ≡ Line → AtLine r → Stands c r
  IsEnd : r ≡ [] → Stands c r

pub record Passed_to (c : Comment) (u r : List ℕ) : Type 0 where
  pub comment : Comment
  pub passes : Passes c u comment
  pub stands : Stands comment r

no_blank : (m n : ℕ) {X : Type 0} → token m ≡ Blank n → X
no_blank m n e = absurd cc

no_brace : (x : List ℕ) (n : ℕ) {X : Type 0} → brace_piece x ≡ Blank n → X
unfolding brace_piece
no_brace [] n e = absurd cc
no_brace (c ∷ x) n {X} e = by (eqb c 42) e
  where
    by : (t : Bool) → cond t (token (2 + closed_len 125 false x)) (token 1) ≡ Blank n → X
    by true e = absurd cc
    by false e = absurd cc

two_more : (c : Comment) (a b : ℕ) (x r : List ℕ) (d : Comment) → Passes Outside (a ∷ b ∷ []) c → Passes c x d → Stands d r → Passed_to Outside (a ∷ b ∷ x) r
two_more c a b x r d p q s = record { comment = d; passes = passes_both Outside c d (a ∷ b ∷ []) x p q; stands = s }

block_to : (x r : List ℕ) → BlockPasses false x r → Passed_to Outside (47 ∷ 42 ∷ x) r
block_to x r k = elim k [
  | Closed p ↦ two_more (Block false) 47 42 x r Outside block_begins p (IsOutside refl)
  | Unclosed s p none ↦ two_more (Block false) 47 42 x r (Block s) block_begins p (IsEnd none)
]

slash_blank : (x r : List ℕ) → slash_piece (x ++ r) ≡ Blank (suc (length x)) → Passed_to Outside (47 ∷ x) r
unfolding slash_piece
slash_blank [] [] e = absurd cc
slash_blank [] (c ∷ r) e = by (eqb c 47) (eqb c 42) e
  where
    by : (t u : Bool) → cond t (Blank (2 + line_len r)) (cond u (Blank (2 + closed_len 47 false r)) (token (1 + prefix_len is_run (c ∷ r)))) ≡ Blank 1 → Passed_to Outside (47 ∷ []) (c ∷ r)
    by true u e = absurd (let k = ap piece_len e in omega (arith, k))
    by false true e = absurd (let k = ap piece_len e in omega (arith, k))
    by false false e = absurd cc
slash_blank (c ∷ x) r e = by (eqb c 47) (eqb c 42) refl refl e
  where
    by : (t u : Bool) → eqb c 47 ≡ t → eqb c 42 ≡ u → cond t (Blank (2 + line_len (x ++ r))) (cond u (Blank (2 + closed_len 47 false (x ++ r))) (token (1 + prefix_len is_run (c ∷ (x ++ r))))) ≡ Blank (suc (suc (length x))) → Passed_to Outside (47 ∷ c ∷ x) r
    by true u f g e =
        let k = ap piece_len e in
        let l = line_pass x r (omega (arith, k)) in
        subst (λ (b : ℕ). Passed_to Outside (47 ∷ b ∷ x) r) (sym (eqb-true c 47 f)) (two_more Line 47 47 x r Line line_begins l.0 (IsLine refl l.1))
    by false true f g e =
        let k = ap piece_len e in
        subst (λ (b : ℕ). Passed_to Outside (47 ∷ b ∷ x) r) (sym (eqb-true c 42 g)) (block_to x r (block_pass false x r (omega (arith, k))))
    by false false f g e = absurd cc

blank_piece_pass : (b : ℕ) (x r : List ℕ) → piece_at (b ∷ (x ++ r)) ≡ Blank (suc (length x)) → Passed_to Outside (b ∷ x) r
unfolding piece_at
blank_piece_pass b x r e = by (is_blank b) (is_quote b) (eqb b 123) (is_mark b) (eqb b 47) refl refl e
  where
    one : (x : List ℕ) → 1 ≡ suc (length x) → is_blank b ≡ true → Passed_to Outside (b ∷ x) r
    one [] g f = record { comment = Outside; passes = blank_gap b f; stands = IsOutside refl }
    one (c ∷ x) g f = absurd (omega (arith, g))

    by : (s q o m l : Bool) → is_blank b ≡ s → eqb b 47 ≡ l
        → cond s (Blank 1) (cond q (token (1 + quoted_len b (x ++ r))) (cond o (brace_piece (x ++ r)) (cond m (token 1) (cond l (slash_piece (x ++ r)) (token (1 + prefix_len is_run (x ++ r))))))) ≡ Blank (suc (length x)) → Passed_to Outside (b ∷ x) r
    by true q o m l f g e = one x (let k = ap piece_len e in omega (arith, k)) f
    by false true o m l f g e = absurd cc
    by false false true m l f g e = no_brace (x ++ r) (suc (length x)) e
    by false false false true l f g e = absurd cc
    by false false false false true f g e = subst (λ (b : ℕ). Passed_to Outside (b ∷ x) r) (sym (eqb-true b 47 g)) (slash_blank x r e)
    by false false false false false f g e = absurd cc

-- behind a line's comment its end is a blank of its own
line_feed : (x r : List ℕ) → piece_at (10 ∷ (x ++ r)) ≡ Blank (suc (length x)) → Passed_to Line (10 ∷ x) r
unfolding piece_at
line_feed [] r e = record { comment = Outside; passes = line_ends; stands = IsOutside refl }
line_feed (c ∷ x) r e = absurd (let k = ap piece_len e in omega (arith, k))

blank_at : (c : Comment) (w r : List ℕ) → 0 < length w → piece_at (w ++ r) ≡ Blank (length w) → Stands c (w ++ r) → Passed_to c w r
blank_at c [] r some e s = absurd (omega arith)
blank_at c (b ∷ x) r some e s = elim s [
  | IsOutside f ↦ subst (λ (c : Comment). Passed_to c (b ∷ x) r) (sym f) (blank_piece_pass b x r e)
  | IsLine f g ↦ subst (λ (c : Comment). Passed_to c (b ∷ x) r) (sym f) (subst (λ (b : ℕ). Passed_to Line (b ∷ x) r) (sym g) (line_feed x r (subst (λ (b : ℕ). piece_at (b ∷ (x ++ r)) ≡ Blank (suc (length x))) g e)))
  | IsEnd f ↦ absurd cc
]

pub blanks_pass : (ps : Pieces) (z : List ℕ) (c : Comment) → AreBlank ps → AreLaid z ps → Stands c (bytes_in ps ++ z) → Passed_to c (bytes_in ps) z
blanks_pass [] z c none are s = record { comment = c; passes = passes_none c; stands = s }
blanks_pass ((true, w) ∷ ps) z c none are s = absurd (true≢false none.0)
blanks_pass ((false, w) ∷ ps) z c none are s =
    let a = blank_at c w (bytes_in ps ++ z) are.0 are.1 (subst (Stands c) (append_assoc w (bytes_in ps) z) s) in
    let b = blanks_pass ps z a.comment none.1 are.2 a.stands in
    record { comment = b.comment; passes = passes_both c a.comment b.comment w (bytes_in ps) a.passes b.passes; stands = b.stands }

-- before a token blanks end outside a comment
token_not_line : (x r : List ℕ) (n : ℕ) → piece_at (10 ∷ (x ++ r)) ≡ token n → ⊥
unfolding piece_at
token_not_line x r n e = absurd (let k = e in cc)

pub before_token : (c : Comment) (w r : List ℕ) → 0 < length w → piece_at (w ++ r) ≡ token (length w) → Stands c (w ++ r) → c ≡ Outside
before_token c [] r some e s = absurd (omega arith)
before_token c (b ∷ x) r some e s = elim s [
  | IsOutside f ↦ f
  | IsLine f g ↦ absurd (token_not_line x r (suc (length x)) (subst (λ (b : ℕ). piece_at (b ∷ (x ++ r)) ≡ token (suc (length x))) g e))
  | IsEnd f ↦ absurd cc
]

-- at the first token of a statement no gap begins
slash_no_gap : (x : List ℕ) (n : ℕ) → slash_piece x ≡ token n → (slash_gap Top x).len ≡ 0
unfolding slash_piece slash_gap
slash_no_gap [] n e = refl
slash_no_gap (c ∷ x) n e = by (eqb c 47) (eqb c 42) e
  where
    by : (t u : Bool) → cond t (Blank (2 + line_len x)) (cond u (Blank (2 + closed_len 47 false x)) (token (1 + prefix_len is_run (c ∷ x)))) ≡ token n
        → (cond t (gap_of 2 Top Line) (cond u (gap_of 2 Top (Block false)) (gap_of 0 Top Outside))).len ≡ 0
    by true u e = absurd cc
    by false true e = absurd cc
    by false false e = refl

blank_token : (t : Bool) (p : Piece) (n : ℕ) → t ≡ true → cond t (Blank 1) p ≡ token n → ⊥
blank_token true p n f e = absurd (let k = e in cc)
blank_token false p n f e = absurd cc

pub no_gap : (b : ℕ) (x : List ℕ) (n : ℕ) → eqb b 59 ≡ false → piece_at (b ∷ x) ≡ token n → (gap_at Top Outside (b ∷ x)).len ≡ 0
unfolding gap_at outside_gap piece_at
no_gap b x n s e = elim (cases_Bool (is_blank b)) [
  | inl f ↦ absurd (blank_token (is_blank b) _ n f e)
  | inr f ↦ elim (cases_Bool (eqb b 47)) [
    | inl g ↦ (
        let is = eqb-true b 47 g in
        let k : slash_piece x ≡ token n = sym slash_is ∙ subst (λ (b : ℕ). piece_at (b ∷ x) ≡ token n) is e in
        let h : (gap_at Top Outside (47 ∷ x)).len ≡ 0 = slash_no_gap x n k in
        subst (λ (b : ℕ). (gap_at Top Outside (b ∷ x)).len ≡ 0) (sym is) h)
    | inr g ↦ (rw (f, s, g) (close_len (eqb b 125)))
  ]
]
  where
    slash_is : piece_at (47 ∷ x) ≡ slash_piece x
    slash_is = refl

    close_len : (t : Bool) → (cond t (gap_of 0 Top Outside) (gap_of 0 Top Outside)).len ≡ 0
    close_len true = refl
    close_len false = refl

-- a statement of another word, and its end
pub statement_pass : (x : List ℕ) (n : ℕ) (f : Found) → (gap_at Top Outside x).len ≡ 0 → word_of true (begin Start) x ≡ Some false → end_of true (begin (Known false)) x ≡ Some f → f.len ≡ n → head_turn true Outside x ≡ Some (Passed n Outside)
unfolding head_turn
statement_pass x n f gap word end len =
    ap (λ (k : ℕ). cond (nat_lt 0 k) (Some (Passed (gap_at Top Outside x).len (gap_at Top Outside x).comment)) (statement_turn (word_of true (begin Start) x) (end_of true (begin (Known false)) x))) gap
    ∙ ap (λ (o : Option Bool). statement_turn o (end_of true (begin (Known false)) x)) word ∙ ap (statement_turn (Some false)) end ∙ ap (λ (k : ℕ). Some (Passed k Outside)) len

-- and a Pattern
pub pattern_here : (x : List ℕ) → (gap_at Top Outside x).len ≡ 0 → word_of true (begin Start) x ≡ Some true → head_turn true Outside x ≡ Some Here
unfolding head_turn
pattern_here x gap word =
    ap (λ (k : ℕ). cond (nat_lt 0 k) (Some (Passed (gap_at Top Outside x).len (gap_at Top Outside x).comment)) (statement_turn (word_of true (begin Start) x) (end_of true (begin (Known false)) x))) gap
    ∙ ap (λ (o : Option Bool). statement_turn o (end_of true (begin (Known false)) x)) word

-- nothing is no Pattern
pub nothing_here : head_turn true Outside [] ≡ Some Here → ⊥
unfolding head_turn gap_at outside_gap word_of end_of
nothing_here e = absurd (let k = e in cc)
