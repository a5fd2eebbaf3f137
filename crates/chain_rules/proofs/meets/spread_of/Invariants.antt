use Rattle.chain_rules.specs.Stretches.{spec_at}
use Rattle.chain_rules.specs.Runs.{run_at}
use Rattle.chain_rules.specs.Spreading.{AreSpansOf, IsSpanOfRun, IsSpanOfEnd}
use Rattle.chain_rules.proofs.meets.spread_of.Given as goal

abbrev pub invariant-loop-chain : goal.invariant-loop-chain
invariant-loop-chain l = record {
  stretches : AreSpansOf (λ c. IsSpanOfRun l.index (run_at l.runs c)) l.chain l.stretches.items;
  starts : AreSpansOf (λ c. IsSpanOfEnd l.index (spec_at l.chains c).start) l.chain l.starts.items;
  stops : AreSpansOf (λ c. IsSpanOfEnd l.index (spec_at l.chains c).stop) l.chain l.stops.items;
}
