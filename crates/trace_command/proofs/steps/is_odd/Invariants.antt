use Rattle.std.proofs.Common.{◌≡◌, drop}
use Rattle.chain_trace.specs.Parities.{plus, odd}
use Rattle.trace_command.proofs.steps.is_odd.Given as goal

abbrev pub invariant-loop-inverted : goal.invariant-loop-inverted
invariant-loop-inverted l = plus l.parity (odd (drop l.inverted-index l.inversions)) ≡ odd l.inversions
