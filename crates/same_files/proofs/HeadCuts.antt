-- Where a head ends in a text, it ends in the text's front by itself.
use Rattle.std.proofs.Common.{◌≡◌, ℕ, zero, suc, ◌+◌, ◌-◌, ◌<◌, ◌≤◌, Bool, true, false, cond, eqb, ◌⊎◌, inl, inr, List, [], ◌∷◌, ◌++◌, length, take, drop, Option, Some, None, refl, sym, ap, ◌∙◌, arith, append_assoc, length-append}
use Rattle.std.specs.Prelude.{nat_lt}
use Rattle.std.proofs.lemmas.Bool.{cases_Bool, cases_eq, ne_eqb, ltb-true, true≢false}
use Rattle.std.proofs.lemmas.List.{append-nil, take-append-drop, length-take-le}
use Rattle.std.proofs.lemmas.Option.{same_Some}
use Rattle.stil_parts.specs.declared.gap.Place.TheVariants.{Top}
use Rattle.stil_parts.specs.declared.gap.Comment.{Comment}
use Rattle.stil_parts.specs.declared.gap.Comment.TheVariants.{Outside, Line, Block}
use Rattle.stil_parts.specs.declared.gap.Gap.{Gap}
use Rattle.stil_parts.specs.declared.scan.Found.{Found}
use Rattle.stil_parts.specs.declared.head.HeadTurn.{HeadTurn}
use Rattle.stil_parts.specs.declared.head.HeadTurn.TheVariants.{Passed, Here}
use Rattle.stil_parts.specs.declared.word.Word.TheVariants.{Start, Known}
use Rattle.stil_parts.specs.Scanner.{end_of}
use Rattle.stil_parts.specs.Parts.{begin}
use Rattle.stil_parts.specs.Gaps.{gap_of, gap_at, outside_gap, slash_gap, line_gap, block_gap}
use Rattle.stil_parts.specs.Heads.{word_of, statement_turn, head_turn, head_end}
use Rattle.stil_parts.proofs.Ends.{end-stable}
use Rattle.stil_parts.proofs.GapLemmas.{gap-two, outside-one}
use Rattle.stil_written.proofs.Alone.{end_alone}
use Rattle.head_text.proofs.WordScan.{word_where_ended, word_stays}

-- a statement that ends in the front ends there without the bytes behind it, and its word is the same
end_in_front : (x y : List ℕ) (f : Found) → end_of true (begin (Known false)) (x ++ y) ≡ Some f → f.len ≤ length x → end_of false (begin (Known false)) x ≡ Some f
end_in_front x y f e le =
    let n = f.len in
    let cut : take n x ++ drop n x ≡ x = take-append-drop n x in
    let whole : take n x ++ (drop n x ++ y) ≡ x ++ y = sym (append_assoc (take n x) (drop n x) y) ∙ ap (λ (l : List ℕ). l ++ y) cut in
    let alone = end_alone (begin (Known false)) (take n x) (drop n x ++ y) f refl (sym (length-take-le n x le)) (ap (end_of true (begin (Known false))) whole ∙ e) in
    sym (ap (end_of false (begin (Known false))) cut) ∙ end-stable false (begin (Known false)) (take n x) (drop n x) f alone

end_same : (x y : List ℕ) (f : Found) → end_of true (begin (Known false)) (x ++ y) ≡ Some f → f.len ≤ length x → end_of true (begin (Known false)) x ≡ end_of true (begin (Known false)) (x ++ y)
end_same x y f e le =
    let here = end-stable true (begin (Known false)) x [] f (end_in_front x y f e le) in
    sym (ap (end_of true (begin (Known false))) (append-nil x)) ∙ here ∙ sym e

word_same : (x y : List ℕ) (f : Found) → end_of true (begin (Known false)) (x ++ y) ≡ Some f → f.len ≤ length x → word_of true (begin Start) x ≡ word_of true (begin Start) (x ++ y)
word_same x y f e le =
    let w = word_where_ended x f (end_in_front x y f e le) in
    sym (ap (word_of true (begin Start)) (append-nil x)) ∙ word_stays true (begin Start) x [] w.word w.is ∙ sym (word_stays true (begin Start) x y w.word w.is)

-- a gap of the front
slash_by : (t u : Bool) → (cond t (gap_of 2 Top Line) (cond u (gap_of 2 Top (Block false)) (gap_of 0 Top Outside))).len ≡ 1 → ⊥
slash_by true u e = omega (arith, e)
slash_by false true e = omega (arith, e)
slash_by false false e = omega (arith, e)

slash_never : (y : List ℕ) → (outside_gap Top (47 ∷ y)).len ≡ 1 → ⊥
unfolding outside_gap slash_gap
slash_never [] e = omega (arith, e)
slash_never (b ∷ y) e = slash_by (eqb b 47) (eqb b 42) e

slash_alone : (outside_gap Top (47 ∷ [])).len ≡ 0
unfolding outside_gap slash_gap
slash_alone = refl

one_gap : (b : ℕ) (y : List ℕ) → (outside_gap Top (b ∷ y)).len ≡ 1 → outside_gap Top (b ∷ []) ≡ outside_gap Top (b ∷ y)
one_gap b y e = elim (cases_eq b 47) [
  | inl is ↦ absurd (slash_never y (ap (λ (c : ℕ). (outside_gap Top (c ∷ y)).len) (sym is) ∙ e))
  | inr other ↦ outside-one Top b [] y (ne_eqb b 47 other)
]

gap_same : (c : Comment) (x y : List ℕ) → 0 < (gap_at Top c (x ++ y)).len → (gap_at Top c (x ++ y)).len ≤ length x → gap_at Top c x ≡ gap_at Top c (x ++ y)
unfolding gap_at line_gap block_gap
gap_same c [] y some le = absurd (omega (arith, some, le))
gap_same Outside (b ∷ []) y some le = one_gap b y (omega (arith, some, le))
gap_same Line (b ∷ []) y some le = refl
gap_same (Block star) (b ∷ []) y some le = refl
gap_same c (b ∷ d ∷ bs) y some le = sym (gap-two Top c (b ∷ d ∷ bs) y (omega arith))

no_gap_one : (b : ℕ) (y : List ℕ) → nat_lt 0 (outside_gap Top (b ∷ y)).len ≡ false → nat_lt 0 (outside_gap Top (b ∷ [])).len ≡ false
no_gap_one b y none = elim (cases_eq b 47) [
  | inl is ↦ ap (λ (c : ℕ). nat_lt 0 (outside_gap Top (c ∷ [])).len) is ∙ ap (nat_lt 0) slash_alone
  | inr other ↦ ap (λ (g : Gap). nat_lt 0 g.len) (outside-one Top b [] y (ne_eqb b 47 other)) ∙ none
]

no_gap : (c : Comment) (x y : List ℕ) → 0 < length x → nat_lt 0 (gap_at Top c (x ++ y)).len ≡ false → nat_lt 0 (gap_at Top c x).len ≡ false
unfolding gap_at line_gap block_gap
no_gap c [] y some none = absurd (omega (arith, some))
no_gap Outside (b ∷ []) y some none = no_gap_one b y none
no_gap Line (b ∷ []) y some none = absurd (true≢false none)
no_gap (Block star) (b ∷ []) y some none = absurd (true≢false none)
no_gap c (b ∷ d ∷ bs) y some none = ap (λ (g : Gap). nat_lt 0 g.len) (sym (gap-two Top c (b ∷ d ∷ bs) y (omega arith))) ∙ none

-- what is passed in the front is passed without the bytes behind it
turn_at_gap : (c : Comment) (x : List ℕ) → nat_lt 0 (gap_at Top c x).len ≡ true → head_turn true c x ≡ Some (Passed (gap_at Top c x).len (gap_at Top c x).comment)
unfolding head_turn
turn_at_gap c x e = rw e refl

turn_at_word : (c : Comment) (x : List ℕ) → nat_lt 0 (gap_at Top c x).len ≡ false → head_turn true c x ≡ statement_turn (word_of true (begin Start) x) (end_of true (begin (Known false)) x)
unfolding head_turn
turn_at_word c x e = rw e refl

record IsPassed (e : Option Found) (n : ℕ) : Type 0 where
  end : Found
  is : e ≡ Some end
  len : end.len ≡ n

passed_by : (w : Option Bool) (e : Option Found) (n : ℕ) (d : Comment) → statement_turn w e ≡ Some (Passed n d) → IsPassed e n
passed_by None e n d h = absurd cc
passed_by (Some true) e n d h = absurd cc
passed_by (Some false) None n d h = absurd cc
passed_by (Some false) (Some f) n d h = record { end = f; is = refl; len = (let k : Passed f.len Outside ≡ Passed n d = same_Some _ _ h in cc) }

turn_same : (c d : Comment) (n : ℕ) (x y : List ℕ) → head_turn true c (x ++ y) ≡ Some (Passed n d) → n ≤ length x → 0 < length x → head_turn true c x ≡ head_turn true c (x ++ y)
turn_same c d n x y h le some = elim (cases_Bool (nat_lt 0 (gap_at Top c (x ++ y)).len)) [
  | inl e ↦ (
      let k : Passed (gap_at Top c (x ++ y)).len (gap_at Top c (x ++ y)).comment ≡ Passed n d = same_Some _ _ (sym (turn_at_gap c (x ++ y) e) ∙ h) in
      let l : (gap_at Top c (x ++ y)).len ≡ n = cc in
      let same = gap_same c x y (ltb-true 0 _ e) (omega (arith, l, le)) in
      turn_at_gap c x (ap (λ (g : Gap). nat_lt 0 g.len) same ∙ e) ∙ ap (λ (g : Gap). Some (Passed g.len g.comment)) same ∙ sym (turn_at_gap c (x ++ y) e))
  | inr e ↦ (
      let p = passed_by (word_of true (begin Start) (x ++ y)) (end_of true (begin (Known false)) (x ++ y)) n d (sym (turn_at_word c (x ++ y) e) ∙ h) in
      let short : p.end.len ≤ length x = omega (arith, p.len, le) in
      turn_at_word c x (no_gap c x y some e)
      ∙ ap (λ (w : Option Bool). statement_turn w (end_of true (begin (Known false)) x)) (word_same x y p.end p.is short)
      ∙ ap (statement_turn (word_of true (begin Start) (x ++ y))) (end_same x y p.end p.is short)
      ∙ sym (turn_at_word c (x ++ y) e))
]

-- one byte in front
abbrev one_more : Option ℕ → Option ℕ
one_more None = None
one_more (Some n) = Some (1 + n)

as_more : (o : Option ℕ) → elim o [ None ↦ None | Some n ↦ Some (1 + n) ] ≡ one_more o
as_more None = refl
as_more (Some n) = refl

record IsMore (o : Option ℕ) (n : ℕ) : Type 0 where
  count : ℕ
  is : o ≡ Some count
  more : 1 + count ≡ n

more_some : (o : Option ℕ) (n : ℕ) → one_more o ≡ Some n → IsMore o n
more_some None n e = absurd cc
more_some (Some m) n e = record { count = m; is = refl; more = same_Some _ _ e }

abbrev behind_turn : List ℕ → Option HeadTurn → Option ℕ
behind_turn bs None = Some (suc (length bs))
behind_turn bs (Some Here) = Some 0
behind_turn bs (Some (Passed n c)) = one_more (head_end true c (n - 1) bs)

end_inside : (c : Comment) (k b : ℕ) (bs : List ℕ) → head_end true c (suc k) (b ∷ bs) ≡ one_more (head_end true c k bs)
unfolding head_end
end_inside c k b bs = as_more (head_end true c k bs)

end_at : (c : Comment) (b : ℕ) (bs : List ℕ) (o : Option HeadTurn) → head_turn true c (b ∷ bs) ≡ o → head_end true c 0 (b ∷ bs) ≡ behind_turn bs o
unfolding head_end
end_at c b bs None e = rw (e, head_end) refl
end_at c b bs (Some Here) e = rw (e, head_end) refl
end_at c b bs (Some (Passed n d)) e = rw (e, head_end) (as_more (head_end true d (n - 1) bs))

end_nothing : (c : Comment) (k : ℕ) → head_end true c k [] ≡ Some 0
unfolding head_end
end_nothing c zero = refl
end_nothing c (suc k) = refl

-- what is passed is passed before the end, or the text ends
skipped : (c : Comment) (k n : ℕ) (x : List ℕ) → head_end true c k x ≡ Some n → (k ≤ n) ⊎ (n ≡ length x)
skipped c k n [] e = inr (same_Some _ _ (sym e ∙ end_nothing c k))
skipped c zero n (b ∷ bs) e = inl (omega arith)
skipped c (suc k) n (b ∷ bs) e =
    let m = more_some (head_end true c k bs) n (sym (end_inside c k b bs) ∙ e) in
    elim (skipped c k m.count bs m.is) [ inl le ↦ inl (omega (arith, le, m.more)) | inr all ↦ inr (omega (arith, all, m.more)) ]

no_rest : (x y : List ℕ) → length (x ++ y) ≡ length x → y ≡ []
no_rest x [] e = refl
no_rest x (b ∷ y) e = absurd (let k = length-append x (b ∷ y) in omega (arith, e, k))

whole_front : (c : Comment) (k n : ℕ) (x y : List ℕ) → y ≡ [] → head_end true c k (x ++ y) ≡ Some n → head_end true c k x ≡ Some n
whole_front c k n x y none e = sym (ap (head_end true c k) (ap (λ (l : List ℕ). x ++ l) none ∙ append-nil x)) ∙ e

turn_ends : (c : Comment) (b n : ℕ) (bs y : List ℕ) (o : Option HeadTurn) → head_turn true c (b ∷ (bs ++ y)) ≡ o → head_end true c 0 (b ∷ (bs ++ y)) ≡ Some n → n ≡ suc (length bs)
    → ((d : Comment) (k m : ℕ) → head_end true d k (bs ++ y) ≡ Some m → m ≡ length bs → head_end true d k bs ≡ Some m) → head_end true c 0 (b ∷ bs) ≡ Some n
turn_ends c b n bs y None t e size more =
    let all : suc (length (bs ++ y)) ≡ n = same_Some _ _ (sym (end_at c b (bs ++ y) None t) ∙ e) in
    whole_front c 0 n (b ∷ bs) y (no_rest bs y (omega (arith, all, size))) e
turn_ends c b n bs y (Some Here) t e size more = absurd (let all : 0 ≡ n = same_Some _ _ (sym (end_at c b (bs ++ y) (Some Here) t) ∙ e) in omega (arith, all, size))
turn_ends c b n bs y (Some (Passed m d)) t e size more =
    let r = more_some (head_end true d (m - 1) (bs ++ y)) n (sym (end_at c b (bs ++ y) (Some (Passed m d)) t) ∙ e) in
    let short : r.count ≡ length bs = omega (arith, r.more, size) in
    elim (skipped d (m - 1) r.count (bs ++ y) r.is) [
      | inl le ↦ (
          let same = turn_same c d m (b ∷ bs) y t (omega (arith, le, short)) (omega arith) in
          end_at c b bs (Some (Passed m d)) (same ∙ t) ∙ ap one_more (more d (m - 1) r.count r.is short) ∙ ap (λ (i : ℕ). Some i) r.more)
      | inr all ↦ whole_front c 0 n (b ∷ bs) y (no_rest bs y (omega (arith, all, short))) e
    ]

-- where the front is passed whole, it is so by itself
pub ends_in_front : (c : Comment) (k n : ℕ) (x y : List ℕ) → head_end true c k (x ++ y) ≡ Some n → n ≡ length x → head_end true c k x ≡ Some n
ends_in_front c k n [] y e size = end_nothing c k ∙ ap (λ (i : ℕ). Some i) (sym size)
ends_in_front c zero n (b ∷ bs) y e size = turn_ends c b n bs y (head_turn true c (b ∷ (bs ++ y))) refl e size (λ d k m h s. ends_in_front d k m bs y h s)
ends_in_front c (suc k) n (b ∷ bs) y e size =
    let r = more_some (head_end true c k (bs ++ y)) n (sym (end_inside c k b (bs ++ y)) ∙ e) in
    end_inside c k b bs ∙ ap one_more (ends_in_front c k r.count bs y r.is (omega (arith, r.more, size))) ∙ ap (λ (i : ℕ). Some i) r.more
