use Rattle.std.proofs.Common.{◌≡◌, drop}
use Rattle.chain_trace.specs.Parities.{plus, odd}
use Rattle.head_writer.proofs.edits.is_odd.Given as goal

abbrev pub invariant-loop-parity : goal.invariant-loop-parity
invariant-loop-parity l = plus l.sum (odd (drop l.parity-index l.parities)) ≡ odd l.parities
