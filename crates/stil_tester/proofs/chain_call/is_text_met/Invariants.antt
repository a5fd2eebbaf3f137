use Rattle.std.proofs.Common.{◌≡◌, ◌-◌, drop, length}
use Rattle.std.specs.Prelude.{Some}
use Rattle.stil_tester.specs.ChainCalls.{all_below, met_at}
use Rattle.stil_tester.specs.Symbols.{differ, parity_of}
use Rattle.stil_tester.proofs.chain_call.is_text_met.Given as goal

abbrev pub invariant-loop-k : goal.invariant-loop-k
invariant-loop-k l = record {
  parity : l.parity ≡ differ (parity_of (drop (length l.parities - l.k) l.parities)) l.chain.out_parity;
  verdict : l.met ≡ all_below l.k (met_at l.chain l.cells l.shifts l.load (Some l.text));
}

abbrev pub invariant-loop-k-2 : goal.invariant-loop-k-2
invariant-loop-k-2 l = record {
  verdict : l.met ≡ all_below l.k (met_at l.chain l.cells l.shifts l.load (Some l.text));
}
