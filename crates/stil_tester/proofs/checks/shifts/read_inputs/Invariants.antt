use Rattle.std.proofs.Common.{◌≡◌, take, map, slice_index_or}
use Rattle.stil_tester.specs.declared.symbol.Symbol.TheVariants.{Unknown}
use Rattle.stil_tester.specs.Symbols.{padded_load}
use Rattle.stil_tester.proofs.checks.shifts.read_inputs.Given as goal

abbrev pub invariant-loop-n : goal.invariant-loop-n
invariant-loop-n l = take l.n l.ins ≡ map (λ load. slice_index_or (padded_load l.call.shifts load) l.k Unknown) (take l.n l.load-items)
