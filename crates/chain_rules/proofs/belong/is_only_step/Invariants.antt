use Rattle.std.proofs.Common.{◌≡◌, ℕ, ◌<◌, length}
use Rattle.chain_rules.specs.Stretches.{path_at, step_at, IsOf}
use Rattle.chain_rules.proofs.belong.is_only_step.Given as goal

abbrev pub invariant-loop-other : goal.invariant-loop-other
invariant-loop-other l = (m k : ℕ) → m < l.other → k < length (path_at l.index m).steps → IsOf (step_at (path_at l.index m) k) (step_at (path_at l.index l.path) l.place).instance (step_at (path_at l.index l.path) l.place).path → (m ≡ l.path) × (k ≡ l.place)
