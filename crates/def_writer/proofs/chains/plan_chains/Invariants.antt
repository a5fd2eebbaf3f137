use Rattle.std.proofs.Common.{◌≡◌, map}
use Rattle.std.specs.List.{range_with_len}
use Rattle.chain_rules.specs.Legality.{chain_at}
use Rattle.chain_rules.specs.Stretches.{spec_at}
use Rattle.def_writer.specs.PlanChains.{plan_chain}
use Rattle.def_writer.proofs.chains.plan_chains.Given as goal

abbrev pub invariant-loop-number : goal.invariant-loop-number
invariant-loop-number l = l.news.items ≡ map (λ c. plan_chain l.netlist l.table l.chains l.paths l.rules (spec_at l.chains c) (chain_at l.plan c)) (range_with_len 0 l.number)
