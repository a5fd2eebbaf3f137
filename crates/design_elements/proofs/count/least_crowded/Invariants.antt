use Rattle.std.proofs.Common.{◌≡◌, min, nat_lt, ◌++◌, ◌∷◌, [], take}
use Rattle.list_laws.specs.Leasts.{IsLeast}
use Rattle.design_elements.specs.Faults.{element_count}
use Rattle.design_elements.specs.Judging.{IsBadChain}
use Rattle.design_elements.proofs.count.least_crowded.Given as goal

abbrev pub invariant-loop-chain : goal.invariant-loop-chain
invariant-loop-chain l = record {
  count : l.count ≡ min (element_count (take l.chain-index l.chains)) 65537;
  least : IsLeast (IsBadChain (λ front chain. nat_lt 65536 (element_count (front ++ chain ∷ []))) (take l.chain-index l.chains)) l.least;
}
