-- Where the bytes show a head's end, it is one, whatever follows.
use Rattle.std.proofs.Common.{◌≡◌, ℕ, zero, suc, ◌+◌, ◌-◌, Bool, true, false, List, [], ◌∷◌, ◌++◌, Option, Some, None, refl, sym, ap, ◌∙◌, arith, inl, inr}
use Rattle.std.specs.Prelude.{nat_lt}
use Rattle.std.proofs.lemmas.Bool.{cases_Bool, cases_eq, ne_eqb, ltb-true, true≢false}
use Rattle.stil_parts.specs.declared.gap.Place.TheVariants.{Top}
use Rattle.stil_parts.specs.declared.gap.Comment.{Comment}
use Rattle.stil_parts.specs.declared.gap.Comment.TheVariants.{Outside, Line, Block}
use Rattle.stil_parts.specs.declared.gap.Gap.{Gap}
use Rattle.stil_parts.specs.declared.scan.Found.{Found}
use Rattle.stil_parts.specs.declared.head.HeadTurn.{HeadTurn}
use Rattle.stil_parts.specs.declared.head.HeadTurn.TheVariants.{Passed, Here}
use Rattle.stil_parts.specs.Scanner.{free_step, mode_step, step, end_of}
use Rattle.stil_parts.specs.declared.word.Word.{Word}
use Rattle.stil_parts.specs.declared.word.Word.TheVariants.{Start, Letters, Text, Joined, After, Known}
use Rattle.stil_parts.specs.declared.word.Word.TheVariants as words
use Rattle.stil_parts.specs.declared.scan.Scan.{Scan}
use Rattle.stil_parts.specs.declared.scan.After.TheVariants.{Goes, Ends, Opens}
use Rattle.stil_parts.specs.Words.{word_settled, word_shown}
use Rattle.stil_parts.specs.Parts.{begin}
use Rattle.stil_parts.specs.Gaps.{gap_at, outside_gap, line_gap, block_gap}
use Rattle.stil_parts.specs.Heads.{word_of, statement_turn, head_turn, head_end, HeadLaw}
use Rattle.stil_parts.proofs.Ends.{Went, Ended, Opened, stepped, end-stable}
use Rattle.stil_parts.proofs.GapLemmas.{gap-stable, gap-two, outside-one}

-- what is shown of a word stays
shown-both : (last : Bool) (w : Word) (is : Bool) → word_shown false w ≡ Some is → word_shown last w ≡ Some is
shown-both last Start is e = absurd (cc)
shown-both last (Letters k) is e = absurd (cc)
shown-both last words.Run is e = absurd (cc)
shown-both last Text is e = absurd (cc)
shown-both last Joined is e = absurd (cc)
shown-both last (After known) is e = absurd (cc)
shown-both last (Known known) is e = e

word-nil : (last : Bool) (s : Scan) (w : Bool) → word_of false s [] ≡ Some w → word_shown false s.word ≡ Some w
unfolding word_of
word-nil last s w e = e

-- one byte in front
word-known : (last : Bool) (s : Scan) (b : ℕ) (bs : List ℕ) (is : Bool) → word_shown false s.word ≡ Some is → word_of last s (b ∷ bs) ≡ Some is
unfolding word_of
word-known last s b bs is e = rw (e, word_of) refl

word-goes : (last : Bool) (s t : Scan) (b : ℕ) (bs : List ℕ) → word_shown false s.word ≡ None → Goes t ≡ step s b → word_of last s (b ∷ bs) ≡ word_of last t bs
unfolding word_of
word-goes last s t b bs e h = rw (e, ← h, word_of) refl

word-ends : (last : Bool) (s : Scan) (b : ℕ) (bs : List ℕ) → word_shown false s.word ≡ None → Ends ≡ step s b → word_of last s (b ∷ bs) ≡ word_shown true (word_settled s.word)
unfolding word_of
word-ends last s b bs e h = rw (e, ← h, word_of) refl

word-opens : (last : Bool) (s : Scan) (b : ℕ) (bs : List ℕ) → word_shown false s.word ≡ None → Opens ≡ step s b → word_of last s (b ∷ bs) ≡ Some true
unfolding word_of
word-opens last s b bs e h = rw (e, ← h, word_of) refl

word-open : (last : Bool) (s : Scan) (y : List ℕ) (w : Bool) → word_shown false s.word ≡ Some w → word_of last s y ≡ Some w
unfolding word_of
word-open last s [] w e = shown-both last s.word w e
word-open last s (b ∷ bs) w e = word-known last s b bs w e

-- a byte, where the word isn't known before it
word-byte : (last : Bool) (s : Scan) (b : ℕ) (bs y : List ℕ) (w : Bool) → word_shown false s.word ≡ None → word_of false s (b ∷ bs) ≡ Some w
    → ((t : Scan) → word_of false t bs ≡ Some w → word_of last t (bs ++ y) ≡ Some w) → word_of last s (b ∷ bs ++ y) ≡ Some w
word-byte last s b bs y w none e more = elim (stepped s b) [
  | Went t h ↦ word-goes last s t b (bs ++ y) none h ∙ more t (sym (word-goes false s t b bs none h) ∙ e)
  | Ended h ↦ word-ends last s b (bs ++ y) none h ∙ sym (word-ends false s b bs none h) ∙ e
  | Opened h ↦ word-opens last s b (bs ++ y) none h ∙ sym (word-opens false s b bs none h) ∙ e
]

word-as : (last : Bool) (s : Scan) (b : ℕ) (bs y : List ℕ) (w : Bool) (o : Option Bool) → word_shown false s.word ≡ o → word_of false s (b ∷ bs) ≡ Some w
    → ((t : Scan) → word_of false t bs ≡ Some w → word_of last t (bs ++ y) ≡ Some w) → word_of last s (b ∷ bs ++ y) ≡ Some w
word-as last s b bs y w None k e more = word-byte last s b bs y w k e more
word-as last s b bs y w (Some is) k e more = word-known last s b (bs ++ y) is k ∙ sym (word-known false s b bs is k) ∙ e

word-stays : (last : Bool) (s : Scan) (x y : List ℕ) (w : Bool) → word_of false s x ≡ Some w → word_of last s (x ++ y) ≡ Some w
word-stays last s [] y w e = word-open last s y w (word-nil last s w e)
word-stays last s (b ∷ bs) y w e = word-as last s b bs y w (word_shown false s.word) refl e (λ t h. word-stays last t bs y w h)

word-nothing : word_of false (begin Start) [] ≡ None
unfolding word_of
word-nothing = refl

word-slash : word_of false (begin Start) (47 ∷ []) ≡ None
unfolding word_of step mode_step free_step
word-slash = refl

none-one : (w : Bool) (b : ℕ) (y : List ℕ) → nat_lt 0 (outside_gap Top (b ∷ [])).len ≡ false → word_of false (begin Start) (b ∷ []) ≡ Some w → nat_lt 0 (outside_gap Top (b ∷ y)).len ≡ false
none-one w b y none h = elim (cases_eq b 47) [
  | inl e ↦ absurd (let q = rw e at h in let k = sym word-slash ∙ q in cc)
  | inr ne ↦ ap (λ (g : Gap). nat_lt 0 g.len) (outside-one Top b y [] (ne_eqb b 47 ne)) ∙ none
]

none-word : (c : Comment) (w : Bool) (x y : List ℕ) → nat_lt 0 (gap_at Top c x).len ≡ false → word_of false (begin Start) x ≡ Some w → nat_lt 0 (gap_at Top c (x ++ y)).len ≡ false
unfolding gap_at line_gap block_gap
none-word c w [] y none h = absurd (let k = sym word-nothing ∙ h in cc)
none-word Outside w (b ∷ []) y none h = none-one w b y none h
none-word Line w (b ∷ []) y none h = absurd (true≢false none)
none-word (Block star) w (b ∷ []) y none h = absurd (true≢false none)
none-word c w (b ∷ d ∷ bs) y none h = ap (λ (g : Gap). nat_lt 0 g.len) (gap-two Top c (b ∷ d ∷ bs) y (omega arith)) ∙ none

turn-at-gap : (last : Bool) (c : Comment) (x : List ℕ) → nat_lt 0 (gap_at Top c x).len ≡ true → head_turn last c x ≡ Some (Passed (gap_at Top c x).len (gap_at Top c x).comment)
unfolding head_turn
turn-at-gap last c x e = rw e refl

turn-at-word : (last : Bool) (c : Comment) (x : List ℕ) → nat_lt 0 (gap_at Top c x).len ≡ false → head_turn last c x ≡ statement_turn (word_of last (begin Start) x) (end_of last (begin (Known false)) x)
unfolding head_turn
turn-at-word last c x e = rw e refl

statement-on : (last : Bool) (x y : List ℕ) (w : Bool) (o : Option Found) (t : HeadTurn) → end_of false (begin (Known false)) x ≡ o → statement_turn (Some w) o ≡ Some t
    → statement_turn (Some w) (end_of last (begin (Known false)) (x ++ y)) ≡ Some t
statement-on last x y true o t e h = h
statement-on last x y false None t e h = absurd (cc)
statement-on last x y false (Some f) t e h = rw (end-stable last (begin (Known false)) x y f e) h

word-on : (last : Bool) (c : Comment) (x y : List ℕ) (o : Option Bool) (t : HeadTurn) → nat_lt 0 (gap_at Top c x).len ≡ false → word_of false (begin Start) x ≡ o
    → statement_turn o (end_of false (begin (Known false)) x) ≡ Some t → head_turn last c (x ++ y) ≡ Some t
word-on last c x y None t none e h = absurd (cc)
word-on last c x y (Some w) t none e h =
    turn-at-word last c (x ++ y) (none-word c w x y none e)
    ∙ ap (λ (o : Option Bool). statement_turn o (end_of last (begin (Known false)) (x ++ y))) (word-stays last (begin Start) x y w e)
    ∙ statement-on last x y w (end_of false (begin (Known false)) x) t refl h

turn-stable : (last : Bool) (c : Comment) (x y : List ℕ) (t : HeadTurn) → head_turn false c x ≡ Some t → head_turn last c (x ++ y) ≡ Some t
turn-stable last c x y t h = elim (cases_Bool (nat_lt 0 (gap_at Top c x).len)) [
  | inl e ↦ (
      let same = gap-stable Top c x y (ltb-true 0 _ e) in
      let shown : nat_lt 0 (gap_at Top c (x ++ y)).len ≡ true = ap (λ (g : Gap). nat_lt 0 g.len) same ∙ e in
      turn-at-gap last c (x ++ y) shown ∙ ap (λ (g : Gap). Some (Passed g.len g.comment)) same ∙ sym (turn-at-gap false c x e) ∙ h)
  | inr e ↦ word-on last c x y (word_of false (begin Start) x) t e refl (sym (turn-at-word false c x e) ∙ h)
]

abbrev one_more : Option ℕ → Option ℕ
one_more None = None
one_more (Some n) = Some (1 + n)

more-some : (o : Option ℕ) (n : ℕ) → one_more o ≡ Some n → (m : ℕ) × (o ≡ Some m)
more-some None n e = absurd (cc)
more-some (Some m) n e = (m, refl)

as-more : (o : Option ℕ) → elim o [ None ↦ None | Some n ↦ Some (1 + n) ] ≡ one_more o
as-more None = refl
as-more (Some n) = refl

-- behind a turn
abbrev behind_turn : Bool → List ℕ → HeadTurn → Option ℕ
behind_turn last bs Here = Some 0
behind_turn last bs (Passed n c) = one_more (head_end last c (n - 1) bs)

end-inside : (last : Bool) (c : Comment) (k b : ℕ) (bs : List ℕ) → head_end last c (suc k) (b ∷ bs) ≡ one_more (head_end last c k bs)
unfolding head_end
end-inside last c k b bs = as-more (head_end last c k bs)

end-at : (last : Bool) (c : Comment) (b : ℕ) (bs : List ℕ) (t : HeadTurn) → head_turn last c (b ∷ bs) ≡ Some t → head_end last c 0 (b ∷ bs) ≡ behind_turn last bs t
unfolding head_end
end-at last c b bs Here e = rw (e, head_end) refl
end-at last c b bs (Passed n d) e = rw (e, head_end) (as-more (head_end last d (n - 1) bs))

turn-shown : (c : Comment) (b n : ℕ) (bs : List ℕ) (o : Option HeadTurn) → head_turn false c (b ∷ bs) ≡ o → head_end false c 0 (b ∷ bs) ≡ Some n → (t : HeadTurn) × (o ≡ Some t)
unfolding head_end
turn-shown c b n bs None e h = absurd (let q = rw (e, head_end) at h in cc)
turn-shown c b n bs (Some t) e h = (t, refl)

inside-on : (last : Bool) (n : ℕ) (o r : Option ℕ) → one_more o ≡ Some n → ((m : ℕ) → o ≡ Some m → r ≡ Some m) → one_more r ≡ Some n
inside-on last n o r h more = let m = more-some o n h in ap one_more (more m.0 m.1 ∙ sym m.1) ∙ h

turn-on : (last : Bool) (n : ℕ) (bs y : List ℕ) (t : HeadTurn) → behind_turn false bs t ≡ Some n
    → ((c : Comment) (k m : ℕ) → head_end false c k bs ≡ Some m → head_end last c k (bs ++ y) ≡ Some m) → behind_turn last (bs ++ y) t ≡ Some n
turn-on last n bs y Here h more = h
turn-on last n bs y (Passed j c) h more = inside-on last n (head_end false c (j - 1) bs) (head_end last c (j - 1) (bs ++ y)) h (λ m e. more c (j - 1) m e)

head-nothing : (c : Comment) (k : ℕ) → head_end false c k [] ≡ None
unfolding head_end
head-nothing c zero = refl
head-nothing c (suc k) = refl

-- what the bytes show of a head's end doesn't change with bytes that follow
pub head-stays : (last : Bool) (c : Comment) (k n : ℕ) (x y : List ℕ) → head_end false c k x ≡ Some n → head_end last c k (x ++ y) ≡ Some n
head-stays last c k n [] y h = absurd (let q = sym (head-nothing c k) ∙ h in cc)
head-stays last c (suc k) n (b ∷ bs) y h =
    end-inside last c k b (bs ++ y)
    ∙ inside-on last n (head_end false c k bs) (head_end last c k (bs ++ y)) (sym (end-inside false c k b bs) ∙ h) (λ m e. head-stays last c k m bs y e)
head-stays last c zero n (b ∷ bs) y h =
    let t = turn-shown c b n bs (head_turn false c (b ∷ bs)) refl h in
    end-at last c b (bs ++ y) t.0 (turn-stable last c (b ∷ bs) y t.0 t.1)
    ∙ turn-on last n bs y t.0 (sym (end-at false c b bs t.0 t.1) ∙ h) (λ d k m e. head-stays last d k m bs y e)

pub head_law : HeadLaw
head_law last comment inside n x y h = head-stays last comment inside n x y h
