use Rattle.std.proofs.Common.{ℕ, ◌<◌}
use Rattle.chain_rules.specs.Stretches.{IsPlace}
use Rattle.chain_rules.specs.Belonging.{IsOnlyStep}
use Rattle.chain_rules.proofs.belong.stand_once.Given as goal

abbrev pub invariant-loop-path : goal.invariant-loop-path
invariant-loop-path l = (n k : ℕ) → n < l.path → IsPlace l.index n k → IsOnlyStep l.index n k
