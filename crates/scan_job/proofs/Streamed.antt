-- A request that reads its STIL file as it comes: its other inputs are taken whole before, and then the STIL slot is read.
use Rattle.std.proofs.Common.{◌≡◌, ◌≢◌, ◌<◌, ◌≤◌, ◌⊎◌, ℕ, List, length, Option, Some, IfSome, ◌^◌, refl, sym, ◌∙◌, ap, subst, arith, inl, inr}
use Rattle.desk_io.specs.declared.slot.Slot.{Slot}
use Rattle.desk_io.specs.declared.slot.Slot.TheVariants.{Stil}
use Rattle.desk_io.specs.Number.{number}
use Rattle.desk_io.specs.Desk.{SlotState, SameElsewhere, IsInput}
use Rattle.desk_io.specs.Names.{Names, IsNamed}
use Rattle.desk_io.specs.Inputs.{input_at, HasTakenInputs, HasStoppedAt}
use Rattle.desk_io.proofs.Slots.{slot_cases, at_slot}
use Rattle.scan_job.specs.Requests.{Request, names_of}
use Rattle.scan_job.specs.Faults.{IsOver, AreSmall}
use Rattle.scan_job.specs.TopCall.{Slots, IsUsed, Reads}
use Rattle.scan_job.proofs.Sizes.{IsWhole, small_of}
use Rattle.scan_job.proofs.Phases.{text_is, here_kept, limit_small}

-- these names are those of a request's inputs before the STIL slot, which it uses too
pub record AreFirst (request : Request) (first : Names) : Type 0 where
  pub named : (slot : Slot) → IsInput slot → number slot < 4 → IsUsed request slot → IsNamed first slot
  pub used : (slot : Slot) → IsNamed first slot → IsUsed request slot
  pub low : (slot : Slot) → IsInput slot → IsNamed first slot → number slot < 4
  pub stil : IsUsed request Stil

pub before_stil : (request : Request) (slot : Slot) → number slot < 4 → IsWhole request slot
before_stil request slot low = inr (λ e. let same = ap number e in absurd (omega (arith, low, same)))

module _ (request : Request) (first : Names) (are : AreFirst request first) where
  -- so they are the inputs of the request before the STIL file
  pub taken_first : (below most : ℕ) (texts : List (Option (List ℕ))) (a b : Slots) → most ≤ 4 → most ≤ below → (below ≤ most) ⊎ (4 ≤ most)
      → HasTakenInputs first below texts a b → HasTakenInputs (names_of request) most texts a b
  taken_first below most texts a b four within all taken = record {
    taken = λ slot input named lt. taken.taken slot input (are.named slot input (omega (arith, lt, four)) named) (omega (arith, lt, within));
    small = λ slot input named lt. taken.small slot input (are.named slot input (omega (arith, lt, four)) named) (omega (arith, lt, within));
    others = λ slot none. taken.others slot (λ input named lt. none input (are.used slot named) (low slot input named lt));
    no_text = λ slot none. taken.no_text slot (λ input named lt. none input (are.used slot named) (low slot input named lt));
  }
    where
      low : (slot : Slot) → IsInput slot → IsNamed first slot → number slot < below → number slot < most
      low slot input named lt = elim all [
        | inl e ↦ omega (arith, lt, e)
        | inr e ↦ let four = are.low slot input named in omega (arith, four, e)
      ]

  pub stopped_first : (slot : Slot) (a b : Slots) (did : SlotState → SlotState → Type 0) → HasStoppedAt first slot a b did → HasStoppedAt (names_of request) slot a b did
  stopped_first slot a b did stopped =
      let low = are.low slot stopped.input stopped.named in
      record {
        input = stopped.input;
        named = are.used slot stopped.named;
        texts = stopped.texts;
        between = stopped.between;
        before = taken_first (number slot) (number slot) stopped.texts a stopped.between (omega (arith, low)) (omega arith) (inl (omega arith)) stopped.before;
        elsewhere = stopped.elsewhere;
        here = stopped.here;
      }

-- what stands where the other inputs were taken, and then the STIL slot was read

module _ (request : Request) (stil_used : IsUsed request Stil) (texts : List (Option (List ℕ))) (a b : Slots) (taken : HasTakenInputs (names_of request) 4 texts a b) where
  abbrev nothing : SlotState → SlotState → Type 0
  nothing old new = Unit {0}

  abbrev pub stopped_at : (e : Slots) → SameElsewhere Stil b e → HasStoppedAt (names_of request) Stil a e nothing
  stopped_at e elsewhere = record { input = tt; named = stil_used; texts = texts; between = b; before = taken; elsewhere = elsewhere; here = tt }

  pub stil_kept : b Stil ≡ a Stil
  stil_kept = here_kept request Stil a b nothing (stopped_at b (λ other ne. refl))

  pub small_text : (slot : Slot) → IsInput slot → IsUsed request slot → number slot < 4 → length (input_at texts slot) < 2 ^ 32
  small_text slot input used low = let small = taken.small slot input used low in let limit = limit_small slot in omega (arith, small, limit)

  module _ (files : Slot → List ℕ) (holds : Reads request files a) where
    pub file_is : (slot : Slot) → IsInput slot → IsUsed request slot → number slot < 4 → input_at texts slot ≡ files slot
    file_is slot input used low =
        let t = taken.taken slot input used low in
        text_is _ _ (input_at texts slot) (files slot) (holds slot input used) t.front t.at_end

    -- what holds of the bytes of the STIL slot holds of its file
    pub of_file : (P : List ℕ → Type 0) → IfSome (b Stil).unread P → P (files Stil)
    of_file P held =
        let told : (b Stil).unread ≡ Some (files Stil) = ap (λ (s : SlotState). s.unread) stil_kept ∙ holds Stil tt stil_used in
        subst (λ (o : Option (List ℕ)). IfSome o P) told held

    pub small_at : (slot : Slot) → IsInput slot → number slot < 4 → IsUsed request slot → IsOver request slot (files slot) → ⊥
    small_at slot input low used =
        let small = taken.small slot input used low in
        let same = ap length (file_is slot input used low) in
        small_of request slot (files slot) input (before_stil request slot low) (omega (arith, small, same))

    pub all_small : ((slot : Slot) → IsInput slot → IsUsed request slot → slot ≢ Stil → number slot < 4) → (IsOver request Stil (files Stil) → ⊥) → AreSmall request files
    all_small early head slot input used = elim (slot_cases slot Stil) [
      | inl is ↦ at_slot (λ s. IsOver request s (files s) → ⊥) Stil slot (sym is) head
      | inr ne ↦ small_at slot input (early slot input used ne) used
    ]
