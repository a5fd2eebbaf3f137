-- Stretches of all chains, and the first fault.
use Rattle.std.proofs.Common.{◌≡◌, ◌≢◌, ℕ, ◌+◌, ◌<◌, List, [], ◌∷◌, ◌++◌, length, Option, Some, None, IfSome, IfNone, refl, sym, ap, subst, arith, ⊎_elim}
use Rattle.std.proofs.lemmas.List.{get_or_append_left, get_or_push, length_push}
use Rattle.std.proofs.lemmas.Bool.{cases_eq}
use Rattle.base_types.specs.declared.kind.Kind.{Kind}
use Rattle.base_types.specs.declared.kind.Kind.TheVariants.{NotAStretch, UnlistedBits, OrderBroken, OverMaxBits, TooManyUnits}
use Rattle.base_types.specs.Faults.{number_of}
use Rattle.base_types.specs.declared.fault.Spot.TheVariants.{Line}
use Rattle.chain_rules.specs.declared.stretch.Run.{Run}
use Rattle.chain_rules.specs.declared.spec.PathSpec.{PathSpec}
use Rattle.chain_rules.specs.declared.spec.ChainSpec.{ChainSpec}
use Rattle.chain_rules.specs.Stretches.{spec_at, IsStretch, HasStretch}
use Rattle.chain_rules.specs.ChainFaults.{IsNotAStretch, IsUnlistedBits, IsOrderBroken, IsOverMaxBits, IsTooManyUnits, IsFaulty, IsFirstChainFault, IsFaultless, IsRefused, fault_at}
use Rattle.chain_rules.specs.Runs.{stretch, run_at, IsRunOf}

pub record AreFirstRuns (paths : List PathSpec) (chains : List ChainSpec) (runs : List (Option Run)) (i : ℕ) : Type 0 where
  pub long : length runs ≡ i
  pub each : (c : ℕ) → c < i → IsRunOf paths (spec_at chains c) (run_at runs c)

pub run_of_answer : (paths : List PathSpec) (chain : ChainSpec) (o : Option Run) → IfSome o (λ r. IsStretch paths chain (stretch r)) → IfNone o (¬ HasStretch paths chain) → IsRunOf paths chain o
run_of_answer paths chain None some none = none
run_of_answer paths chain (Some r) some none = some

pub first_runs_more : (paths : List PathSpec) (chains : List ChainSpec) (runs : List (Option Run)) (i : ℕ) (o : Option Run) → AreFirstRuns paths chains runs i → IsRunOf paths (spec_at chains i) o → AreFirstRuns paths chains (runs ++ o ∷ []) (i + 1)
first_runs_more paths chains runs i o are here =
    record {
      long = omega (arith, length_push runs o, are.long);
      each = λ c h. ⊎_elim
          (λ (e : c ≡ i). subst (λ (x : ℕ). IsRunOf paths (spec_at chains x) (run_at (runs ++ o ∷ []) x)) (sym e) (subst (λ (r : Option Run). IsRunOf paths (spec_at chains i) r) (sym (get_or_push runs o None i are.long)) here))
          (λ (e : c ≢ i).
          let below : c < length runs = omega (arith, are.long) in
          subst (λ (r : Option Run). IsRunOf paths (spec_at chains c) r) (sym (get_or_append_left runs (o ∷ []) None c below)) (are.each c (omega arith)))
          (cases_eq c i);
    }

-- a kind is no fault of the chain where each of the five of less number isn't
pub no_fault : (paths : List PathSpec) (chains : List ChainSpec) (d : ℕ) (k : Kind) (n : ℕ) → number_of k < n → (70 < n → ¬ IsNotAStretch paths chains d) → (71 < n → ¬ IsUnlistedBits paths (spec_at chains d)) → (72 < n → ¬ IsOrderBroken paths (spec_at chains d)) → (73 < n → ¬ IsOverMaxBits paths (spec_at chains d)) → (75 < n → ¬ IsTooManyUnits chains d) → ¬ IsFaulty paths chains k d
no_fault paths chains d NotAStretch n h a b c e f = a h
no_fault paths chains d UnlistedBits n h a b c e f = b h
no_fault paths chains d OrderBroken n h a b c e f = c h
no_fault paths chains d OverMaxBits n h a b c e f = e h
no_fault paths chains d TooManyUnits n h a b c e f = f h
no_fault paths chains d kind n h a b c e f = λ fault. fault

pub refused : (paths : List PathSpec) (chains : List ChainSpec) (kind : Kind) (c : ℕ) (x : ChainSpec) → x ≡ spec_at chains c → IsFirstChainFault paths chains kind c → IsRefused paths chains (fault_at kind x)
refused paths chains kind c x e first =
    record { chain = c; first = first; file = refl; spot = ap (λ (y : ChainSpec). Line y.line) e }

-- what a search for the first one says where it found one, and where it found none
pub found_at : (F : ℕ → Type 0) (n : ℕ) (o : Option ℕ) (c : ℕ) → o ≡ Some c → IfSome o (λ k. (k < n) × F k × ((d : ℕ) → d < k → ¬ F d)) → (c < n) × F c × ((d : ℕ) → d < c → ¬ F d)
found_at F n None c e h = cc
found_at F n (Some k) c e h =
    let same : k ≡ c = cc in
    subst (λ (j : ℕ). (j < n) × F j × ((d : ℕ) → d < j → ¬ F d)) same h

pub found_none : (F : ℕ → Type 0) (n : ℕ) (o : Option ℕ) → ((c : ℕ) → o ≡ Some c → ⊥) → IfNone o ((c : ℕ) → c < n → ¬ F c) → (c : ℕ) → c < n → ¬ F c
found_none F n None f h = h
found_none F n (Some c) f h = absurd (f c refl)

-- Which fault is the first

pub first_stretch : (paths : List PathSpec) (chains : List ChainSpec) (c : ℕ) → c < length chains → IsNotAStretch paths chains c → ((d : ℕ) → d < c → ¬ IsNotAStretch paths chains d) → IsFirstChainFault paths chains NotAStretch c
first_stretch paths chains c within fault earlier =
    record { within = within; faulty = fault; earliest = earlier; least = λ k d h below. no_fault paths chains d k (number_of NotAStretch) h (λ w. absurd (omega arith)) (λ w. absurd (omega arith)) (λ w. absurd (omega arith)) (λ w. absurd (omega arith)) (λ w. absurd (omega arith)) }

pub first_unlisted : (paths : List PathSpec) (chains : List ChainSpec) (c : ℕ) → ((d : ℕ) → d < length chains → ¬ IsNotAStretch paths chains d) → c < length chains → IsUnlistedBits paths (spec_at chains c) → ((d : ℕ) → d < c → ¬ IsUnlistedBits paths (spec_at chains d)) → IsFirstChainFault paths chains UnlistedBits c
first_unlisted paths chains c no_stretch within fault earlier =
    record { within = within; faulty = fault; earliest = earlier; least = λ k d h below. no_fault paths chains d k (number_of UnlistedBits) h (λ _. no_stretch d below) (λ w. absurd (omega arith)) (λ w. absurd (omega arith)) (λ w. absurd (omega arith)) (λ w. absurd (omega arith)) }

pub first_order : (paths : List PathSpec) (chains : List ChainSpec) (c : ℕ) → ((d : ℕ) → d < length chains → ¬ IsNotAStretch paths chains d) → ((d : ℕ) → d < length chains → ¬ IsUnlistedBits paths (spec_at chains d)) → c < length chains → IsOrderBroken paths (spec_at chains c) → ((d : ℕ) → d < c → ¬ IsOrderBroken paths (spec_at chains d)) → IsFirstChainFault paths chains OrderBroken c
first_order paths chains c no_stretch no_unlisted within fault earlier =
    record { within = within; faulty = fault; earliest = earlier; least = λ k d h below. no_fault paths chains d k (number_of OrderBroken) h (λ _. no_stretch d below) (λ _. no_unlisted d below) (λ w. absurd (omega arith)) (λ w. absurd (omega arith)) (λ w. absurd (omega arith)) }

pub first_over : (paths : List PathSpec) (chains : List ChainSpec) (c : ℕ) → ((d : ℕ) → d < length chains → ¬ IsNotAStretch paths chains d) → ((d : ℕ) → d < length chains → ¬ IsUnlistedBits paths (spec_at chains d)) → ((d : ℕ) → d < length chains → ¬ IsOrderBroken paths (spec_at chains d)) → c < length chains → IsOverMaxBits paths (spec_at chains c) → ((d : ℕ) → d < c → ¬ IsOverMaxBits paths (spec_at chains d)) → IsFirstChainFault paths chains OverMaxBits c
first_over paths chains c no_stretch no_unlisted no_order within fault earlier =
    record { within = within; faulty = fault; earliest = earlier; least = λ k d h below. no_fault paths chains d k (number_of OverMaxBits) h (λ _. no_stretch d below) (λ _. no_unlisted d below) (λ _. no_order d below) (λ w. absurd (omega arith)) (λ w. absurd (omega arith)) }

pub first_many : (paths : List PathSpec) (chains : List ChainSpec) (c : ℕ) → ((d : ℕ) → d < length chains → ¬ IsNotAStretch paths chains d) → ((d : ℕ) → d < length chains → ¬ IsUnlistedBits paths (spec_at chains d)) → ((d : ℕ) → d < length chains → ¬ IsOrderBroken paths (spec_at chains d)) → ((d : ℕ) → d < length chains → ¬ IsOverMaxBits paths (spec_at chains d)) → c < length chains → IsTooManyUnits chains c → ((d : ℕ) → d < c → ¬ IsTooManyUnits chains d) → IsFirstChainFault paths chains TooManyUnits c
first_many paths chains c no_stretch no_unlisted no_order no_over within fault earlier =
    record { within = within; faulty = fault; earliest = earlier; least = λ k d h below. no_fault paths chains d k (number_of TooManyUnits) h (λ _. no_stretch d below) (λ _. no_unlisted d below) (λ _. no_order d below) (λ _. no_over d below) (λ w. absurd (omega arith)) }

pub faultless : (paths : List PathSpec) (chains : List ChainSpec) → ((d : ℕ) → d < length chains → ¬ IsNotAStretch paths chains d) → ((d : ℕ) → d < length chains → ¬ IsUnlistedBits paths (spec_at chains d)) → ((d : ℕ) → d < length chains → ¬ IsOrderBroken paths (spec_at chains d)) → ((d : ℕ) → d < length chains → ¬ IsOverMaxBits paths (spec_at chains d)) → ((d : ℕ) → d < length chains → ¬ IsTooManyUnits chains d) → IsFaultless paths chains
faultless paths chains no_stretch no_unlisted no_order no_over no_many = λ k d below. no_fault paths chains d k (number_of k + 1) (omega arith) (λ _. no_stretch d below) (λ _. no_unlisted d below) (λ _. no_order d below) (λ _. no_over d below) (λ _. no_many d below)
