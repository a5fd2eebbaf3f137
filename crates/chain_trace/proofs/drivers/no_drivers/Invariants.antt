use Rattle.std.proofs.Common.{◌≡◌, replicate}
use Rattle.chain_trace.specs.declared.tally.Tally.TheVariants.{Empty}
use Rattle.chain_trace.proofs.drivers.no_drivers.Given as goal

abbrev pub invariant-loop : goal.invariant-loop
invariant-loop l = l.drivers.items ≡ replicate l.counter Empty
