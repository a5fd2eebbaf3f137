-- One input more.
use Rattle.std.proofs.Common.{◌≡◌, ◌≢◌, ◌<◌, ◌≤◌, ◌+◌, ◌⊎◌, ℕ, List, length, Option, Some, set, sym, ◌∙◌, ap, subst, arith, inl, inr}
use Rattle.std.proofs.lemmas.Grind.{common_steps}
use Rattle.desk_io.specs.declared.slot.Slot.{Slot}
use Rattle.desk_io.specs.Number.{number}
use Rattle.desk_io.specs.Desk.{SlotState, IsInput, SameElsewhere}
use Rattle.desk_io.specs.Prefixes.{HasTakenFile}
use Rattle.desk_io.specs.Names.{Names, IsNamed}
use Rattle.desk_io.specs.Inputs.{limit_of, taken_at, input_at, HasTakenInputs}
use Rattle.desk_io.proofs.Slots.{number_once}

pub below_or_at : (n i : ℕ) → n < i + 1 → (n < i) ⊎ (n ≡ i)
below_or_at n i h = grind arith

-- the text of the slot is new, the others are as before
set_here : (texts : List (Option (List ℕ))) (text : List ℕ) (slot : Slot) → number slot < length texts → input_at (set texts (number slot) (Some text)) slot ≡ text
set_here texts text slot less =
    let new : taken_at (set texts (number slot) (Some text)) slot ≡ Some text = grind (arith, common_steps) in
    rw new

set_other : (texts : List (Option (List ℕ))) (text : List ℕ) (slot other : Slot) → number other ≢ number slot → input_at (set texts (number slot) (Some text)) other ≡ input_at texts other
set_other texts text slot other ne =
    let same : taken_at (set texts (number slot) (Some text)) other ≡ taken_at texts other = grind (arith, common_steps) in
    rw same

taken_here : (text other : List ℕ) (a b c : SlotState) → other ≡ text → b ≡ a → HasTakenFile text b c → HasTakenFile other a c
taken_here text other a b c is same taken =
    let P : SlotState → Type 0 = λ s. HasTakenFile other s c in
    subst P same (rw is taken)

taken_before : (text other : List ℕ) (a b c : SlotState) → other ≡ text → c ≡ b → HasTakenFile text a b → HasTakenFile other a c
taken_before text other a b c is same taken = rw (is, same) taken

pub one_more : (names : Names) (texts : List (Option (List ℕ))) (text : List ℕ) (slot : Slot) (a b c : Slot → SlotState) → IsInput slot → IsNamed names slot → number slot < length texts → HasTakenInputs names (number slot) texts a b → HasTakenFile text (b slot) (c slot) → length text ≤ limit_of slot → SameElsewhere slot b c → HasTakenInputs names (number slot + 1) (set texts (number slot) (Some text)) a c
one_more names texts text slot a b c input named less before here small elsewhere =
    let untouched : b slot ≡ a slot = before.others slot (λ i n below. omega arith) in
    let new : input_at (set texts (number slot) (Some text)) slot ≡ text = set_here texts text slot less in
    let other_than : (s : Slot) → number s ≢ number slot → c s ≡ b s = λ s ne. elsewhere s (λ e. ne (ap number e)) in
    let P : Slot → Type 0 = λ s. HasTakenFile (input_at (set texts (number slot) (Some text)) s) (a s) (c s) in
    let Q : Slot → Type 0 = λ s. length (input_at (set texts (number slot) (Some text)) s) ≤ limit_of s in
    let not_it : (s : Slot) → (IsInput s → IsNamed names s → number s < number slot + 1 → ⊥) → number s ≢ number slot =
    λ s no e. no (let I : Slot → Type 0 = λ t. IsInput t in subst I (sym (number_once s slot e)) input) (let N : Slot → Type 0 = λ t. IsNamed names t in subst N (sym (number_once s slot e)) named) (omega arith)
    in record {
      taken = λ s i n up. elim (below_or_at (number s) (number slot) up) [
        | inl below ↦ taken_before _ _ _ _ _ (set_other texts text slot s (λ e. omega arith)) (other_than s (λ e. omega arith)) (before.taken s i n below)
        | inr at ↦ subst P (sym (number_once s slot at)) (taken_here _ _ _ _ _ new untouched here)
      ];
      small = λ s i n up. elim (below_or_at (number s) (number slot) up) [
        | inl below ↦ rw (set_other texts text slot s (λ e. omega arith)) (before.small s i n below)
        | inr at ↦ subst Q (sym (number_once s slot at)) (rw new small)
      ];
      others = λ s no. other_than s (not_it s no) ∙ before.others s (λ i n below. no i n (omega arith));
      no_text = λ s no. set_other texts text slot s (not_it s no) ∙ before.no_text s (λ i n below. no i n (omega arith));
    }

pub one_skipped : (names : Names) (texts : List (Option (List ℕ))) (slot : Slot) (a b : Slot → SlotState) → (IsNamed names slot → ⊥) → HasTakenInputs names (number slot) texts a b → HasTakenInputs names (number slot + 1) texts a b
one_skipped names texts slot a b unnamed before =
    let other : (s : Slot) → IsNamed names s → number s < number slot + 1 → number s < number slot = λ s n up. elim (below_or_at (number s) (number slot) up) [
      | inl below ↦ below
      | inr at ↦ absurd (unnamed (let N : Slot → Type 0 = λ t. IsNamed names t in subst N (number_once s slot at) n))
    ] in
    record {
      taken = λ s i n up. before.taken s i n (other s n up);
      small = λ s i n up. before.small s i n (other s n up);
      others = λ s no. before.others s (λ i n below. no i n (omega arith));
      no_text = λ s no. before.no_text s (λ i n below. no i n (omega arith));
    }
