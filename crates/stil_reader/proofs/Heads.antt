-- Where a head ends, and that one that is denoted has no fault.
use Rattle.std.proofs.Common.{◌≡◌, ℕ, zero, suc, ◌+◌, ◌-◌, ◌≤◌, true, false, List, [], ◌∷◌, length, take, drop, Option, Some, None, Contains, refl, sym, ap, subst, ◌∙◌, arith, inl, inr}
use Rattle.std.specs.Prelude.{nat_lt}
use Rattle.std.proofs.lemmas.Bool.{cases_Bool}
use Rattle.std.proofs.lemmas.Option.{same_Some}
use Rattle.std.proofs.lemmas.List.{take-append-drop}
use Rattle.base_types.specs.declared.fault.Fault.{Fault}
use Rattle.stil_types.specs.declared.head.StilHead.{StilHead}
use Rattle.stil_parts.specs.declared.gap.Comment.{Comment}
use Rattle.stil_parts.specs.declared.gap.Comment.TheVariants.{Outside}
use Rattle.stil_parts.specs.declared.head.HeadTurn.{HeadTurn}
use Rattle.stil_parts.specs.declared.head.HeadTurn.TheVariants.{Here, Passed}
use Rattle.stil_parts.specs.Coming.{largest}
use Rattle.stil_parts.specs.Heads.{head_turn, head_end, head_len}
use Rattle.stil_parts.proofs.HeadStable.{head-stays}
use Rattle.stil_head.specs.Faults.{HoldsInText, HoldsInHead, Syntax, Twice, Barred}
use Rattle.stil_head.specs.Heads.{IsHead, DenotesHead}
use Rattle.stil_head.specs.Ends.{head_text}
use Rattle.list_laws.proofs.Leasts.{none_there}

-- a head ends in the text
more_within : (o : Option ℕ) (n m : ℕ) → elim o [ None ↦ None | Some k ↦ Some (1 + k) ] ≡ Some n → ((k : ℕ) → o ≡ Some k → k ≤ m) → n ≤ suc m
more_within None n m e le = absurd cc
more_within (Some k) n m e le =
    let same = same_Some _ _ e in
    let k_le = le k refl in
    omega arith

turn_within : (b : ℕ) (bs : List ℕ) (o : Option HeadTurn) (n : ℕ) → ((c : Comment) (inside k : ℕ) → head_end true c inside bs ≡ Some k → k ≤ length bs)
    → elim o [
      | None ↦ Some (length (b ∷ bs))
      | Some turn ↦ elim turn [ Here ↦ Some 0 | Passed n c ↦ elim (head_end true c (n - 1) bs) [ None ↦ None | Some m ↦ Some (1 + m) ] ]
    ] ≡ Some n → n ≤ length (b ∷ bs)
turn_within b bs None n more e = let same = same_Some _ _ e in omega arith
turn_within b bs (Some Here) n more e = let same = same_Some _ _ e in omega arith
turn_within b bs (Some (Passed m c)) n more e = more_within (head_end true c (m - 1) bs) n (length bs) e (λ k is. more c (m - 1) k is)

pub end_within : (c : Comment) (inside : ℕ) (bs : List ℕ) (n : ℕ) → head_end true c inside bs ≡ Some n → n ≤ length bs
unfolding head_end
end_within c inside [] n e = let same = same_Some _ _ e in omega arith
end_within c (suc inside) (b ∷ bs) n e = more_within (head_end true c inside bs) n (length bs) e (λ k is. end_within c inside bs k is)
end_within c zero (b ∷ bs) n e = turn_within b bs (head_turn true c (b ∷ bs)) n (λ d inside k is. end_within d inside bs k is) e

pub head_within : (bytes : List ℕ) (head : StilHead) → DenotesHead bytes head → head.end ≤ length bytes
head_within bytes head d = end_within Outside 0 bytes head.end d.ends

-- where its end is shown within the limit, it is the same
pub shown_end : (bytes : List ℕ) (n : ℕ) → head_len bytes ≡ Some n → head_end true Outside 0 bytes ≡ Some n
shown_end bytes n e = elim (cases_Bool (nat_lt largest (length bytes))) [
  | inl large ↦ (
      let here : head_end false Outside 0 (take largest bytes) ≡ Some n = rw large at e in
      ap (head_end true Outside 0) (sym (take-append-drop largest bytes)) ∙ head-stays true Outside 0 n (take largest bytes) (drop largest bytes) here)
  | inr small ↦ rw small at e
]

-- nothing is wrong with a head that is denoted
no_place : (places : List ℕ) (place : ℕ) → places ≡ [] → Contains places place → ⊥
no_place places place none there = none_there place (subst (λ (ps : List ℕ). Contains ps place) none there)

no_text_fault : (text : List ℕ) (head : StilHead) → IsHead text head → (fault : Fault) → HoldsInText text fault → ⊥
no_text_fault text head is _ (Syntax place there) = no_place _ place is.no_syntax there
no_text_fault text head is _ (Twice place there) = no_place _ place is.no_twice there
no_text_fault text head is _ (Barred place there) = no_place _ place is.no_unsupported there

pub no_head_fault : (bytes : List ℕ) (head : StilHead) → DenotesHead bytes head → (fault : Fault) → HoldsInHead bytes fault → ⊥
no_head_fault bytes head d fault holds = no_text_fault (head_text bytes) head d.says fault holds
