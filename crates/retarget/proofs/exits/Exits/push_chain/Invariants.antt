use Rattle.std.proofs.Common.{◌≡◌, ◌-◌, ◌++◌, ℕ, length, map, take, drop, reverse}
use Rattle.std.specs.List.{range_with_len}
use Rattle.stil_tester.specs.Symbols.{differ, parity_of}
use Rattle.retarget.specs.declared.side.Side.TheVariants.{Load, Compare}
use Rattle.retarget.specs.Sides.{parity_at}
use Rattle.retarget.proofs.exits.Exits.push_chain.Given as goal

abbrev pub invariant-loop-k : goal.invariant-loop-k
invariant-loop-k l = record {
  cells : l.self.cells ≡ l.fn.self.cells ++ take l.k (reverse l.chain.cells);
  loads : l.self.loads ≡ l.fn.self.loads ++ map (λ k. parity_at Load l.chain (length l.chain.cells - 1 - k)) (range_with_len 0 l.k);
  compares : l.self.compares ≡ l.fn.self.compares ++ map (λ k. parity_at Compare l.chain (length l.chain.cells - 1 - k)) (range_with_len 0 l.k);
  whole : l.whole ≡ differ (parity_of l.chain.parity) l.chain.out_parity;
  behind : l.behind ≡ differ (parity_of (drop (length l.chain.cells - l.k) l.chain.parity)) l.chain.out_parity;
}
