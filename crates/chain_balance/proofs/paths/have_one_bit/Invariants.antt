use Rattle.std.proofs.Common.{◌≡◌, ℕ, ◌<◌}
use Rattle.chain_rules.specs.Legality.{unit_at}
use Rattle.chain_balance.proofs.paths.have_one_bit.Given as goal

abbrev pub invariant-loop-place : goal.invariant-loop-place
invariant-loop-place l = (u : ℕ) → u < l.place → (unit_at l.rules u).bits ≡ 1
