use Rattle.std.proofs.Common.{◌≡◌, ◌&&◌, drop, map, slice_index_or}
use Rattle.stil_tester.specs.declared.symbol.Expect.TheVariants.{Any}
use Rattle.stil_tester.specs.Symbols.{padded_compare}
use Rattle.stil_tester.specs.Shifting.{all_met, expects_at}
use Rattle.stil_tester.proofs.checks.shifts.are_met.Given as goal

-- what is met so far, and what is left, are all
abbrev pub invariant-loop-n : goal.invariant-loop-n
invariant-loop-n l = (l.met && all_met (map (λ compare. slice_index_or (padded_compare l.call.shifts compare) l.k Any) (drop l.n l.compare-items)) (drop l.n l.outs)) ≡ all_met (expects_at l.call l.k) l.outs
