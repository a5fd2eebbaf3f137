-- Steps that are tried one by one.
use Rattle.std.specs.Prelude.{◌≢◌, ℕ, ◌+◌, ◌<◌, ◌≤◌, length}
use Rattle.chain_rules.specs.Legality.{IsLegal, chain_at, moved_plan, swapped_plan, taken_out, with_chain}
use Rattle.chain_rules.specs.declared.plan.Plan.{Plan}
use Rattle.chain_rules.specs.declared.unit.Position.{Position}
use Rattle.chain_rules.specs.declared.unit.Rules.{Rules}
use Rattle.wire_cost.specs.declared.ends.Ends.{Ends}
use Rattle.wire_cost.specs.Lengths.{plan_length_of}
use Rattle.order_search.specs.Steps.{reversed_run}

-- q is legal and shorter than p
pub record IsGain (rules : Rules) (ends : Ends) (p q : Plan) : Type 0 where
  pub legal : IsLegal rules q
  pub shorter : plan_length_of ends q < plan_length_of ends p

-- some change of this kind makes p shorter and leaves it legal
pub record HasGain (changes : Plan → Plan → Type 0) (rules : Rules) (ends : Ends) (p : Plan) : Type 0 where
  pub plan : Plan
  pub change : changes p plan
  pub gain : IsGain rules ends p plan

-- the plan with a run of one chain reversed
abbrev pub turned_plan : Plan → ℕ → ℕ → ℕ → Plan
turned_plan p c i m = with_chain p c (reversed_run (chain_at p c) i m)

-- a place in a chain
abbrev pub at : ℕ → ℕ → Position
at c i = record { chain = c; place = i }

-- no reversed run that begins at place i of chain c is a gain
abbrev pub NoTurnAt : Rules → Ends → Plan → ℕ → ℕ → Type 0
NoTurnAt rules ends p c i = (m : ℕ) → i + m ≤ length (chain_at p c) → ¬ IsGain rules ends p (turned_plan p c i m)

-- no move of the unit at place i of chain c to chain d is
abbrev pub NoMoveTo : Rules → Ends → Plan → ℕ → ℕ → ℕ → Type 0
NoMoveTo rules ends p c i d = (j : ℕ) → j ≤ length (chain_at (taken_out p (at c i)) d) → ¬ IsGain rules ends p (moved_plan p (at c i) (at d j))

-- no move of it to any chain is
abbrev pub NoMoveOf : Rules → Ends → Plan → ℕ → ℕ → Type 0
NoMoveOf rules ends p c i = (d : ℕ) → d < length p.chains → NoMoveTo rules ends p c i d

-- no exchange of the unit at place i of chain c with one of chain d is
abbrev pub NoSwapWith : Rules → Ends → Plan → ℕ → ℕ → ℕ → Type 0
NoSwapWith rules ends p c i d = (j : ℕ) → j < length (chain_at p d) → ¬ IsGain rules ends p (swapped_plan p (at c i) (at d j))

-- no exchange of it with one of another chain is
abbrev pub NoSwapOf : Rules → Ends → Plan → ℕ → ℕ → Type 0
NoSwapOf rules ends p c i = (d : ℕ) → d < length p.chains → c ≢ d → NoSwapWith rules ends p c i d
