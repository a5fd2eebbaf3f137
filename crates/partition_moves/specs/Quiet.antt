-- No move and no exchange makes a plan shorter.
use Rattle.std.specs.Prelude.{◌≢◌, ℕ, ◌<◌, length}
use Rattle.chain_rules.specs.Legality.{chain_at}
use Rattle.chain_rules.specs.declared.plan.Plan.{Plan}
use Rattle.chain_rules.specs.declared.unit.Rules.{Rules}
use Rattle.wire_cost.specs.declared.ends.Ends.{Ends}
use Rattle.order_search.specs.Trials.{NoMoveOf, NoMoveTo, NoSwapOf}
use Rattle.partition_moves.specs.Links.{NoCloserSwapAt}

-- no move of any unit is a gain
abbrev pub HasNoMove : Rules → Ends → Plan → Type 0
HasNoMove rules ends p = (c : ℕ) → c < length p.chains → (i : ℕ) → i < length (chain_at p c) → NoMoveOf rules ends p c i

-- no exchange of two units is
abbrev pub HasNoSwap : Rules → Ends → Plan → Type 0
HasNoSwap rules ends p = (c : ℕ) → c < length p.chains → (i : ℕ) → i < length (chain_at p c) → NoSwapOf rules ends p c i

-- no move of a unit of chain c to chain d is
abbrev pub NoMoveBetween : Rules → Ends → Plan → ℕ → ℕ → Type 0
NoMoveBetween rules ends p c d = (i : ℕ) → i < length (chain_at p c) → NoMoveTo rules ends p c i d

-- no exchange of a unit of chain c with one of another chain d is, where the links at the place of the latter get shorter
pub record NoCloserSwap (rules : Rules) (ends : Ends) (p : Plan) (c d : ℕ) : Type 0 where
  pub each : c ≢ d → (i : ℕ) → i < length (chain_at p c) → (k : ℕ) → k < length (chain_at p d) → NoCloserSwapAt rules ends p c i d k
