-- Which fault is the first: one before which no other comes.
use Rattle.std.proofs.Common.{◌≡◌, ◌<◌, ◌⊎◌, inl, inr, ℕ, ◌∷◌, Ordering, Less, Equal, Greater, refl, sym, ap, ◌∙◌, subst, arith}
use Rattle.std.specs.Prelude.{Result, Ok, Err}
use Rattle.std.specs.Ordering.{nat_cmp, ordering_then, ordering_reverse}
use Rattle.std.specs.Cmp.Lexicographic.{slice_cmp}
use Rattle.std.proofs.lemmas.Cmp.{ranked, nat_list_cmp_total}
use Rattle.base_types.specs.declared.fault.Fault.{Fault}
use Rattle.base_types.specs.declared.fault.ReadFault.{ReadFault}
use Rattle.base_types.specs.declared.fault.ReadFault.TheVariants as faults
use Rattle.base_types.specs.Faults.{number_of}
use Rattle.base_types.specs.FirstFault.{file_number, spot_key, fault_key, ComesBefore, IsFirstFault, IfFault}

less_greater : Less ≡ Greater → ⊥
less_greater e = absurd cc

-- no fault comes before itself
pub itself : (f : Fault) → ComesBefore f f → ⊥
itself f e = less_greater (sym e ∙ nat_list_cmp_total.antisymm (fault_key f) (fault_key f) ∙ ap ordering_reverse e)

later_case : (a b : ℕ) (r rest : Ordering) → r ≡ nat_cmp b a → a < b → ordering_then r rest ≡ Less → ⊥
later_case a b Less rest is lt e = let below = ranked b a Less is in omega arith
later_case a b Equal rest is lt e = let same = ranked b a Equal is in omega arith
later_case a b Greater rest is lt e = less_greater (sym e)

-- a fault of a greater kind doesn't come before
pub later : (f g : Fault) → number_of f.kind < number_of g.kind → ComesBefore g f → ⊥
later f g lt e =
    later_case (number_of f.kind) (number_of g.kind) (nat_cmp (number_of g.kind) (number_of f.kind))
    (slice_cmp nat_cmp (file_number g.file ∷ spot_key g.spot) (file_number f.file ∷ spot_key f.spot)) refl lt e

-- every other fault that holds is of a greater kind
pub first_of : (Holds : Fault → Type 0) (f : Fault) → Holds f → ((g : Fault) → Holds g → (g ≡ f) ⊎ (number_of f.kind < number_of g.kind)) → IsFirstFault Holds f
first_of Holds f h others = record {
  holds = h;
  least = λ g k e. elim (others g k) [
    | inl same ↦ itself f (subst (λ (x : Fault). ComesBefore x f) same e)
    | inr lt ↦ later f g lt e
  ];
}

-- what holds of the fault of a call, another way round
pub fault_weaker : {X : Type 0} (r : Result X ReadFault) (P Q : Fault → Type 0) → ((f : Fault) → P f → Q f) → IfFault r P → IfFault r Q
fault_weaker (Ok x) P Q f i = tt
fault_weaker (Err (faults.Fault e)) P Q f i = f e i
fault_weaker (Err faults.NoMemory) P Q f i = tt
