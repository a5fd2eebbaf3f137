-- The first fault of stages that are gone through one behind the other, each with a greater kind.
use Rattle.std.proofs.Common.{◌≡◌, ℕ, ◌<◌, ◌≤◌, ◌⊎◌, inl, inr, Option, Some, None, Ordering, Less, Equal, Greater, refl, sym, subst, arith}
use Rattle.std.specs.Ordering.{nat_cmp, ordering_then}
use Rattle.std.proofs.lemmas.Cmp.{ranked}
use Rattle.base_types.specs.Faults.{number_of, at_line}
use Rattle.base_types.specs.FirstFault.{ComesBefore, IsFirstFault}
use Rattle.base_types.specs.declared.fault.Fault.{Fault}
use Rattle.base_types.specs.declared.fault.FileKind.TheVariants.{Def}
use Rattle.base_types.specs.declared.kind.Kind.{Kind}
use Rattle.base_types.proofs.FirstFaults.{later}
use Rattle.list_laws.specs.Leasts.{IsLeast}
use Rattle.list_laws.proofs.LeastLines.{line_case}
use Rattle.design_elements.specs.FirstOf.{fault_or, IsFirstIn}

-- a fault of the kind, on a line of which this holds
pub record At (kind : Kind) (P : ℕ → Type 0) (f : Fault) : Type 0 where
  pub line : ℕ
  pub holds : P line
  pub is : f ≡ at_line kind Def line

-- a fault of the kind, or a later one
abbrev pub Then : Kind → (ℕ → Type 0) → (Fault → Type 0) → Fault → Type 0
Then kind P T f = At kind P f ⊎ T f

-- no fault
abbrev pub Never : Fault → Type 0
Never f = ⊥

-- each fault is of a greater kind
abbrev pub Above : ℕ → (Fault → Type 0) → Type 0
Above n T = (f : Fault) → T f → n < number_of f.kind

pub above_never : (n : ℕ) → Above n Never
above_never n f h = absurd h

pub above_then : (n : ℕ) (kind : Kind) (P : ℕ → Type 0) (T : Fault → Type 0) → n < number_of kind → Above (number_of kind) T → Above n (Then kind P T)
above_then n kind P T lt above f (inl a) = subst (λ (g : Fault). n < number_of g.kind) (sym a.is) lt
above_then n kind P T lt above f (inr t) = let more = above f t in omega arith

rest_less : (n : ℕ) (r rest : Ordering) → r ≡ nat_cmp n n → ordering_then r rest ≡ Less → rest ≡ Less
rest_less n Less rest is e = let below = ranked n n Less is in absurd (omega arith)
rest_less n Equal rest is e = e
rest_less n Greater rest is e = absurd cc

line_less : (a b : ℕ) (r : Ordering) → r ≡ nat_cmp b a → a ≤ b → ordering_then r Equal ≡ Less → ⊥
line_less a b r is le e = line_case a b r Equal is le refl e

-- a fault of the kind on a greater line doesn't come before
pub line_later : (kind : Kind) (a b : ℕ) → a ≤ b → ComesBefore (at_line kind Def b) (at_line kind Def a) → ⊥
line_later kind a b le e = line_less a b (nat_cmp b a) refl le (rest_less (number_of kind) (nat_cmp (number_of kind) (number_of kind)) _ refl e)

module _ (kind : Kind) (P : ℕ → Type 0) (T : Fault → Type 0) (above : Above (number_of kind) T) where
  here_least : (line : ℕ) → IsLeast P (Some line) → (f : Fault) → Then kind P T f → ComesBefore f (at_line kind Def line) → ⊥
  here_least line least f (inl a) e = line_later kind line a.line (least.1 a.line a.holds) (subst (λ (g : Fault). ComesBefore g (at_line kind Def line)) a.is e)
  here_least line least f (inr t) e = later (at_line kind Def line) f (above f t) e

  none_yet : IsLeast P None → (T_none : (f : Fault) → T f → ⊥) → (f : Fault) → Then kind P T f → ⊥
  none_yet least none f (inl a) = least a.line a.holds
  none_yet least none f (inr t) = none f t

  later_least : IsLeast P None → (g : Fault) → IsFirstFault T g → (f : Fault) → Then kind P T f → ComesBefore f g → ⊥
  later_least least g first f (inl a) e = least a.line a.holds
  later_least least g first f (inr t) e = first.least f t e

  -- one stage before the others
  pub stage : (r : Option ℕ) (rest : Option Fault) → IsLeast P r → IsFirstIn T rest → IsFirstIn (Then kind P T) (fault_or kind r rest)
  stage None None least first = none_yet least first
  stage None (Some g) least first = record { holds = inr first.holds; least = later_least least g first }
  stage (Some line) rest least first = record { holds = inl (record { line = line; holds = least.0; is = refl }); least = here_least line least }

-- the same faults, said in another way
pub same_first : (H K : Fault → Type 0) (o : Option Fault) → ((f : Fault) → H f → K f) → ((f : Fault) → K f → H f) → IsFirstIn H o → IsFirstIn K o
same_first H K None there back first = λ f k. first f (back f k)
same_first H K (Some g) there back first = record { holds = there g first.holds; least = λ f k e. first.least f (back f k) e }
