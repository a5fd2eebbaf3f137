-- The walk to the head's end, turn by turn.
use Rattle.std.proofs.Common.{◌≡◌, ℕ, zero, suc, ◌+◌, ◌-◌, ◌<◌, ◌≤◌, Bool, true, false, cond, List, [], ◌∷◌, length, take, drop, Option, Some, None, refl, sym, ap, ◌∙◌, subst, arith}
use Rattle.std.specs.Prelude.{nat_lt, slice_index}
use Rattle.std.proofs.lemmas.Bool.{lt-ltb, le-ltb}
use Rattle.std.proofs.lemmas.Option.{same_Some}
use Rattle.std.proofs.lemmas.List.{drop_more, drop_all, drop-drop, length-drop}
use Rattle.stil_parts.specs.declared.gap.Place.TheVariants.{Top, Pattern}
use Rattle.stil_parts.specs.declared.gap.Comment.{Comment}
use Rattle.stil_parts.specs.declared.gap.Comment.TheVariants.{Outside}
use Rattle.stil_parts.specs.declared.scan.Found.{Found}
use Rattle.stil_parts.specs.declared.scan.Scan.{Scan}
use Rattle.stil_parts.specs.declared.scan.After.TheVariants.{Goes, Ends, Opens}
use Rattle.stil_parts.specs.declared.part.Part.{Part}
use Rattle.stil_parts.specs.declared.part.Part.TheVariants.{Whole}
use Rattle.stil_parts.specs.declared.head.HeadTurn.{HeadTurn}
use Rattle.stil_parts.specs.declared.head.HeadTurn.TheVariants.{Passed, Here}
use Rattle.stil_parts.specs.declared.word.Word.TheVariants.{Start, Known}
use Rattle.stil_parts.specs.Words.{word_shown, word_settled}
use Rattle.stil_parts.specs.Scanner.{step, later, end_of, run, HasReached, HasFound}
use Rattle.stil_parts.specs.Parts.{begin, parted, part_at, part_len}
use Rattle.stil_parts.specs.declared.gap.Gap.{Gap}
use Rattle.stil_parts.specs.Gaps.{gap_at}
use Rattle.stil_parts.specs.Heads.{word_of, statement_turn, head_turn, head_end}
use Rattle.stil_head.specs.Heads.{HasTurn}
use Rattle.stil_parts.specs.ByTokens.{head_place}
use Rattle.stil_parts.proofs.HeadPlace.{head_place_law}
use Rattle.stil_parts.proofs.HeadTurns.{behind, behind_both, end_here, end_open, end_none, end_passed}
use Rattle.stil_parts.proofs.Ends.{Went, Ended, Opened, stepped, end_goes, end_ends, end_opens, run_goes, later-some}

-- the end that a walk finds is the place by tokens
pub placed : (bytes : List ℕ) (n : ℕ) → head_end true Outside 0 bytes ≡ Some n → n ≡ head_place bytes
placed bytes n e = let law = head_place_law in same_Some _ _ (sym e ∙ law.ends bytes)

module _ (bytes : List ℕ) (at : ℕ) (total : Option ℕ) where
  left_some : at < length bytes → 0 < length (drop at bytes)
  left_some lt = let k = length-drop at bytes in omega arith

  -- from a place on, for each turn
  pub passed_on : (c d : Comment) (n : ℕ) → at < length bytes → 0 < n → n ≤ length (drop at bytes) → head_turn true c (drop at bytes) ≡ Some (Passed n d) → behind at (head_end true c 0 (drop at bytes)) ≡ total
      → behind (at + n) (head_end true d 0 (drop (at + n) bytes)) ≡ total
  passed_on c d n lt some le e is =
      ap (λ (l : List ℕ). behind (at + n) (head_end true d 0 l)) (sym (drop-drop n at bytes))
      ∙ sym (behind_both at n (head_end true d 0 (drop n (drop at bytes)))) ∙ ap (behind at) (sym (end_passed c d n (drop at bytes) some le e)) ∙ is

  pub ends_here : (c : Comment) → at < length bytes → head_turn true c (drop at bytes) ≡ Some Here → behind at (head_end true c 0 (drop at bytes)) ≡ total → total ≡ Some at
  ends_here c lt e is = let k : at + 0 ≡ at = omega arith in sym is ∙ ap (behind at) (end_here c (drop at bytes) (left_some lt) e) ∙ ap (λ (n : ℕ). Some n) k

  pub ends_open : (c : Comment) → at < length bytes → head_turn true c (drop at bytes) ≡ None → behind at (head_end true c 0 (drop at bytes)) ≡ total → total ≡ Some (length bytes)
  ends_open c lt e is =
      let k : at + length (drop at bytes) ≡ length bytes = omega (arith, length-drop at bytes) in
      sym is ∙ ap (behind at) (end_open c (drop at bytes) (left_some lt) e) ∙ ap (λ (n : ℕ). Some n) k

  pub ends_last : (c : Comment) → at ≤ length bytes → length bytes ≤ at → behind at (head_end true c 0 (drop at bytes)) ≡ total → total ≡ Some at
  ends_last c within all is =
      let k : at + 0 ≡ at = omega arith in
      sym is ∙ ap (λ (l : List ℕ). behind at (head_end true c 0 l)) (drop_all at bytes all) ∙ ap (behind at) (end_none c) ∙ ap (λ (n : ℕ). Some n) k

-- one byte alone
pub one_byte : (bs : List ℕ) (at : ℕ) → at < length bs → drop at (take (at + 1) bs) ≡ slice_index bs at ∷ []
one_byte [] at lt = absurd (omega arith)
one_byte (b ∷ bs) zero lt = refl
one_byte (b ∷ bs) (suc at) lt = let e : suc at + 1 ≡ suc (at + 1) = omega arith in rw e (one_byte bs at (omega arith))

end_nil : (s : Scan) → end_of false s [] ≡ None
unfolding end_of
end_nil s = refl

run_nil : (s : Scan) → run s [] ≡ s
unfolding run
run_nil s = refl

-- what a scan of one byte tells of it
pub one_reached : (s t : Scan) (b : ℕ) → end_of false s (b ∷ []) ≡ None → run s (b ∷ []) ≡ t → Goes t ≡ step s b
one_reached s t b none same = elim (stepped s b) [
  | Went u h ↦ let e : u ≡ t = sym (run_goes s u b [] h ∙ run_nil u) ∙ same in ap (λ (x : Scan). Goes x) (sym e) ∙ h
  | Ended h ↦ absurd (let k = sym none ∙ end_ends false s b [] h in cc)
  | Opened h ↦ absurd (let k = sym none ∙ end_opens false s b [] h in cc)
]

one_went : (n : ℕ) (s u : Scan) (b : ℕ) (f : Found) → Goes u ≡ step s b → later n (end_of false s (b ∷ [])) ≡ Some f → ⊥
one_went n s u b f h e =
    let none : end_of false s (b ∷ []) ≡ None = end_goes false s b [] u h ∙ ap (later 1) (end_nil u) in
    let k = sym e ∙ ap (later n) none in absurd cc

pub one_found : (n : ℕ) (s : Scan) (b : ℕ) (f : Found) (opens : Bool) → later n (end_of false s (b ∷ [])) ≡ Some f → f.opens ≡ opens → opens ≡ true → Opens ≡ step s b
one_found n s b f opens e same is = elim (stepped s b) [
  | Went u h ↦ absurd (one_went n s u b f h e)
  | Ended h ↦ absurd
      (let w = later-some n (end_of false s (b ∷ [])) f e in
      let k : false ≡ w.opens = ap (λ (g : Found). g.opens) (same_Some _ _ (sym (end_ends false s b [] h) ∙ w.is)) in
      let o : w.opens ≡ true = sym w.same ∙ same ∙ is in
      let q = k ∙ o in
      cc)
  | Opened h ↦ h
]

pub one_ended : (n : ℕ) (s : Scan) (b : ℕ) (f : Found) → later n (end_of false s (b ∷ [])) ≡ Some f → f.opens ≡ false → Ends ≡ step s b
one_ended n s b f e closed = elim (stepped s b) [
  | Went u h ↦ absurd (one_went n s u b f h e)
  | Ended h ↦ h
  | Opened h ↦ absurd
      (let w = later-some n (end_of false s (b ∷ [])) f e in
      let k : true ≡ w.opens = ap (λ (g : Found). g.opens) (same_Some _ _ (sym (end_opens false s b [] h) ∙ w.is)) in
      let o : w.opens ≡ false = sym w.same ∙ closed in
      let q = k ∙ o in
      cc)
]

-- the same of the byte at a place
pub step_reached : (bytes : List ℕ) (at : ℕ) (s t : Scan) → at < length bytes → HasReached false (take (at + 1) bytes) at s t → Goes t ≡ step s (slice_index bytes at)
step_reached bytes at s t lt h =
    one_reached s t (slice_index bytes at) (subst (λ (l : List ℕ). end_of false s l ≡ None) (one_byte bytes at lt) h.none) (subst (λ (l : List ℕ). run s l ≡ t) (one_byte bytes at lt) h.same)

found_as : (n : ℕ) (s : Scan) (b : ℕ) (f : Found) (opens : Bool) → later n (end_of false s (b ∷ [])) ≡ Some f → f.opens ≡ opens → cond opens Opens Ends ≡ step s b
found_as n s b f true e o = one_found n s b f true e o refl
found_as n s b f false e o = one_ended n s b f e o

pub step_found : (bytes : List ℕ) (at : ℕ) (s : Scan) (f : Found) → at < length bytes → HasFound false (take (at + 1) bytes) at s f → cond f.opens Opens Ends ≡ step s (slice_index bytes at)
step_found bytes at s f lt h =
    found_as at s (slice_index bytes at) f f.opens (subst (λ (l : List ℕ). later at (end_of false s l) ≡ Some f) (one_byte bytes at lt) h.same) refl

-- whether the word is Pattern, from a place on
module _ (bytes : List ℕ) (at : ℕ) (s : Scan) where
  cut : at < length bytes → drop at bytes ≡ slice_index bytes at ∷ drop (at + 1) bytes
  cut lt = drop_more bytes at 0 lt

  goes_as : (t : Scan) (b : ℕ) (bs : List ℕ) → word_shown false s.word ≡ None → Goes t ≡ step s b → word_of true s (b ∷ bs) ≡ word_of true t bs
  unfolding word_of
  goes_as t b bs e h = rw (e, ← h, word_of) refl

  ends_as : (b : ℕ) (bs : List ℕ) → word_shown false s.word ≡ None → Ends ≡ step s b → word_of true s (b ∷ bs) ≡ word_shown true (word_settled s.word)
  unfolding word_of
  ends_as b bs e h = rw (e, ← h, word_of) refl

  opens_as : (b : ℕ) (bs : List ℕ) → word_shown false s.word ≡ None → Opens ≡ step s b → word_of true s (b ∷ bs) ≡ Some true
  unfolding word_of
  opens_as b bs e h = rw (e, ← h, word_of) refl

  known_as : (b : ℕ) (bs : List ℕ) (is : Bool) → word_shown false s.word ≡ Some is → word_of true s (b ∷ bs) ≡ Some is
  unfolding word_of
  known_as b bs is e = rw (e, word_of) refl

  nil_as : word_of true s [] ≡ word_shown true s.word
  unfolding word_of
  nil_as = refl

  pub word_goes : (t : Scan) → at < length bytes → word_shown false s.word ≡ None → Goes t ≡ step s (slice_index bytes at) → word_of true s (drop at bytes) ≡ word_of true t (drop (at + 1) bytes)
  word_goes t lt e h = ap (word_of true s) (cut lt) ∙ goes_as t (slice_index bytes at) (drop (at + 1) bytes) e h

  pub word_ended : at < length bytes → word_shown false s.word ≡ None → Ends ≡ step s (slice_index bytes at) → word_of true s (drop at bytes) ≡ word_shown true (word_settled s.word)
  word_ended lt e h = ap (word_of true s) (cut lt) ∙ ends_as (slice_index bytes at) (drop (at + 1) bytes) e h

  pub word_opened : at < length bytes → word_shown false s.word ≡ None → Opens ≡ step s (slice_index bytes at) → word_of true s (drop at bytes) ≡ Some true
  word_opened lt e h = ap (word_of true s) (cut lt) ∙ opens_as (slice_index bytes at) (drop (at + 1) bytes) e h

  pub word_known : (is : Bool) → at < length bytes → word_shown false s.word ≡ Some is → word_of true s (drop at bytes) ≡ Some is
  word_known is lt e = ap (word_of true s) (cut lt) ∙ known_as (slice_index bytes at) (drop (at + 1) bytes) is e

  pub word_last : length bytes ≤ at → word_of true s (drop at bytes) ≡ word_shown true s.word
  word_last all = ap (word_of true s) (drop_all at bytes all) ∙ nil_as

-- the turn at a gap
pub turn_gap : (c : Comment) (x : List ℕ) → 0 < (gap_at Top c x).len → Some (Passed (gap_at Top c x).len (gap_at Top c x).comment) ≡ head_turn true c x
unfolding head_turn
turn_gap c x some = let e : nat_lt 0 (gap_at Top c x).len ≡ true = lt-ltb 0 (gap_at Top c x).len some in rw e refl

turn_word : (c : Comment) (x : List ℕ) → (gap_at Top c x).len ≤ 0 → head_turn true c x ≡ statement_turn (word_of true (begin Start) x) (end_of true (begin (Known false)) x)
unfolding head_turn
turn_word c x none = let e : nat_lt 0 (gap_at Top c x).len ≡ false = le-ltb 0 (gap_at Top c x).len none in rw e refl

-- at the first Pattern
pub turn_here : (c : Comment) (x : List ℕ) → (gap_at Top c x).len ≤ 0 → word_of true (begin Start) x ≡ Some true → Some Here ≡ head_turn true c x
turn_here c x none word = sym (turn_word c x none ∙ ap (λ (o : Option Bool). statement_turn o (end_of true (begin (Known false)) x)) word)

passed_by : (o : Option Found) (part : Part) → parted (Pattern 0) o ≡ Some part → statement_turn (Some false) o ≡ Some (Passed (part_len part) Outside)
passed_by None part e = absurd cc
passed_by (Some f) part e = let k : Whole f.len ≡ part = cc in ap (λ (p : Part). Some (Passed (part_len p) Outside)) k

open_by : (o : Option Found) → parted (Pattern 0) o ≡ None → statement_turn (Some false) o ≡ None
open_by None e = refl
open_by (Some f) e = absurd cc

part_as : (x : List ℕ) → part_at true (Pattern 0) x ≡ parted (Pattern 0) (end_of true (begin (Known false)) x)
unfolding part_at
part_as x = refl

-- at another statement
pub turn_part : (c : Comment) (x : List ℕ) (part : Part) → (gap_at Top c x).len ≤ 0 → word_of true (begin Start) x ≡ Some false → part_at true (Pattern 0) x ≡ Some part → Some (Passed (part_len part) Outside) ≡ head_turn true c x
turn_part c x part none word is =
    sym (turn_word c x none ∙ ap (λ (o : Option Bool). statement_turn o (end_of true (begin (Known false)) x)) word ∙ passed_by (end_of true (begin (Known false)) x) part (sym (part_as x) ∙ is))

-- at one without an end
pub turn_open : (c : Comment) (x : List ℕ) → (gap_at Top c x).len ≤ 0 → word_of true (begin Start) x ≡ Some false → part_at true (Pattern 0) x ≡ None → None ≡ head_turn true c x
turn_open c x none word is =
    sym (turn_word c x none ∙ ap (λ (o : Option Bool). statement_turn o (end_of true (begin (Known false)) x)) word ∙ open_by (end_of true (begin (Known false)) x) (sym (part_as x) ∙ is))

-- what is passed at a gap, or at a statement
pub gap_turn : (c : Comment) (x : List ℕ) (g : Gap) → g ≡ gap_at Top c x → 0 < g.len → Some (Passed g.len g.comment) ≡ head_turn true c x
gap_turn c x g is some = rw is (turn_gap c x (subst (λ (h : Gap). 0 < h.len) is some))

gap_less : (c : Comment) (x : List ℕ) (g : Gap) → g ≡ gap_at Top c x → g.len ≤ 0 → (gap_at Top c x).len ≤ 0
gap_less c x g is none = subst (λ (h : Gap). h.len ≤ 0) is none

pub here_turn : (c : Comment) (x : List ℕ) (g : Gap) (w : Bool) → g ≡ gap_at Top c x → g.len ≤ 0 → word_of true (begin Start) x ≡ Some w → w ≡ true → Some Here ≡ head_turn true c x
here_turn c x g w is none word sure = turn_here c x (gap_less c x g is none) (word ∙ ap (λ (b : Bool). Some b) sure)

pub part_turn : (c : Comment) (x : List ℕ) (g : Gap) (w : Bool) (part : Part) (n : ℕ) → g ≡ gap_at Top c x → g.len ≤ 0 → word_of true (begin Start) x ≡ Some w → w ≡ false → part_at true (Pattern 0) x ≡ Some part → n ≡ part_len part → Some (Passed n Outside) ≡ head_turn true c x
part_turn c x g w part n is none word other at len = ap (λ (k : ℕ). Some (Passed k Outside)) len ∙ turn_part c x part (gap_less c x g is none) (word ∙ ap (λ (b : Bool). Some b) other) at

pub open_turn : (c : Comment) (x : List ℕ) (g : Gap) (w : Bool) → g ≡ gap_at Top c x → g.len ≤ 0 → word_of true (begin Start) x ≡ Some w → w ≡ false → part_at true (Pattern 0) x ≡ None → None ≡ head_turn true c x
open_turn c x g w is none word other at = turn_open c x (gap_less c x g is none) (word ∙ ap (λ (b : Bool). Some b) other) at

-- a turn of the walk
module _ (bytes slice : List ℕ) (at : ℕ) (c : Comment) (total : Option ℕ) (lt : at < length bytes) (cut : slice ≡ drop at bytes) (is : behind at (head_end true c 0 (drop at bytes)) ≡ total) where
  pub turn_passed : (turn : HeadTurn) (n : ℕ) (d : Comment) → Some turn ≡ head_turn true c slice → HasTurn slice turn → turn ≡ Passed n d → behind (at + n) (head_end true d 0 (drop (at + n) bytes)) ≡ total
  turn_passed turn n d e has same =
      let h = subst (HasTurn slice) same has in
      let within : n ≤ length (drop at bytes) = subst (λ (l : List ℕ). n ≤ length l) cut h.1 in
      passed_on bytes at total c d n lt h.0 within (sym (ap (λ (t : HeadTurn). Some t) (sym same) ∙ e ∙ ap (head_turn true c) cut)) is

  pub turn_within : (turn : HeadTurn) (n : ℕ) (d : Comment) → HasTurn slice turn → turn ≡ Passed n d → at + n ≤ length bytes
  turn_within turn n d has same =
      let h = subst (HasTurn slice) same has in
      let within : n ≤ length (drop at bytes) = subst (λ (l : List ℕ). n ≤ length l) cut h.1 in
      omega (arith, length-drop at bytes)

  pub turn_more : (turn : HeadTurn) (n : ℕ) (d : Comment) → HasTurn slice turn → turn ≡ Passed n d → 0 < n
  turn_more turn n d has same = let h = subst (HasTurn slice) same has in h.0

  pub turn_ends : (turn : HeadTurn) → Some turn ≡ head_turn true c slice → turn ≡ Here → total ≡ Some at
  turn_ends turn e same = ends_here bytes at total c lt (sym (ap (λ (t : HeadTurn). Some t) (sym same) ∙ e ∙ ap (head_turn true c) cut)) is

  pub turn_stops : None ≡ head_turn true c slice → total ≡ Some (length bytes)
  turn_stops e = ends_open bytes at total c lt (sym (e ∙ ap (head_turn true c) cut)) is
