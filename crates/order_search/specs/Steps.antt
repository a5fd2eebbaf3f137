-- Single steps from one legal plan to another, and when a plan is settled: no step makes it shorter.
use Rattle.std.specs.Prelude.{◌≡◌, ◌≢◌, ℕ, ◌+◌, ◌<◌, ◌≤◌, ◌⊎◌, List, ◌++◌, length, take, drop, reverse, All, IsTrue, Some}
use Rattle.chain_rules.specs.Legality.{IsLegal, IsIn, IsOpen, chain_at, last_of, moved_plan, swapped_plan, taken_out, unit_at, with_chain}
use Rattle.chain_rules.specs.declared.plan.Plan.{Plan}
use Rattle.chain_rules.specs.declared.unit.Position.{Position}
use Rattle.chain_rules.specs.declared.unit.Rules.{Rules}
use Rattle.wire_cost.specs.declared.ends.Ends.{Ends}
use Rattle.wire_cost.specs.Lengths.{chain_length_of, plan_length_of}
use Rattle.order_search.specs.declared.effort.Effort.{Effort}
use Rattle.order_search.specs.declared.effort.Effort.TheVariants.{Order, Full}

-- the run of m units from place i on is reversed; each unit keeps its entry and its exit
abbrev pub reversed_run : List ℕ → ℕ → ℕ → List ℕ
reversed_run us i m = take i us ++ (reverse (take m (drop i us)) ++ drop (i + m) us)

-- in one chain a run of units is reversed
pub record IsReversal (p q : Plan) : Type 0 where
  pub chain : ℕ
  pub place : ℕ
  pub count : ℕ
  pub in_plan : chain < length p.chains
  pub in_chain : place + count ≤ length (chain_at p chain)
  pub after : q ≡ with_chain p chain (reversed_run (chain_at p chain) place count)

-- one unit is taken out and put at a place of a chain; where both plans are legal, that chain is one of its partition
pub record IsMove (p q : Plan) : Type 0 where
  pub from : Position
  pub to : Position
  pub taken : IsIn p from
  pub put : IsOpen (taken_out p from) to
  pub after : q ≡ moved_plan p from to

-- two units of two chains are exchanged; where both plans are legal, the chains are of one partition
pub record IsSwap (p q : Plan) : Type 0 where
  pub one : Position
  pub other : Position
  pub one_in : IsIn p one
  pub other_in : IsIn p other
  pub two_chains : one.chain ≢ other.chain
  pub after : q ≡ swapped_plan p one other

-- the steps that a search of this effort takes
abbrev pub Changes : Effort → Plan → Plan → Type 0
Changes Order p q = IsReversal p q
Changes Full p q = IsReversal p q ⊎ (IsMove p q ⊎ IsSwap p q)

-- a single step leads from one legal plan to another
pub record IsStep (effort : Effort) (rules : Rules) (p q : Plan) : Type 0 where
  pub before : IsLegal rules p
  pub after : IsLegal rules q
  pub change : Changes effort p q

-- no step makes the plan shorter
abbrev pub IsSettled : Effort → Rules → Ends → Plan → Type 0
IsSettled effort rules ends p = (q : Plan) → IsStep effort rules p q → plan_length_of ends p ≤ plan_length_of ends q

-- a pinned unit stands last
abbrev pub IsPinnedLast : Rules → List ℕ → Type 0
IsPinnedLast rules us = All (λ u. IsTrue (unit_at rules u).pinned → last_of us ≡ Some u) us

-- no reversed run of a chain's units that leaves a pinned one last makes the chain shorter
abbrev pub IsChainSettled : Rules → Ends → ℕ → List ℕ → Type 0
IsChainSettled rules ends c us = (i m : ℕ) → i + m ≤ length us → IsPinnedLast rules (reversed_run us i m) → chain_length_of ends c us ≤ chain_length_of ends c (reversed_run us i m)
