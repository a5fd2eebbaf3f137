use Rattle.std.proofs.Common.{ℕ, ◌<◌}
use Rattle.std.specs.List.Sorted.{IsPermutation}
use Rattle.chain_rules.specs.Legality.{chain_at}
use Rattle.plan_search.proofs.shortening.have_same_members.Given as goal

abbrev pub invariant-loop-c : goal.invariant-loop-c
invariant-loop-c l = (k : ℕ) → k < l.c → IsPermutation (chain_at l.one k) (chain_at l.other k)
