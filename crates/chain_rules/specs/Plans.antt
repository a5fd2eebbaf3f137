-- What a clause sees of a plan.
use Rattle.std.specs.Prelude.{ℕ, List, map, Vec}

-- the numbers of the units of each chain, in order
pub record PlanLists : Type 0 where
  pub chains : List (List ℕ)

-- the elements of each of some vectors
abbrev pub lists_of : {A : Type 0} → List (Vec ℕ A) → List (List ℕ)
lists_of vs = map (λ v. v.items) vs

-- the plan of the elements of some vectors
abbrev pub plan_of : {A : Type 0} → List (Vec ℕ A) → PlanLists
plan_of vs = record { chains = lists_of vs }
