use Rattle.std.proofs.Common.{take}
use Rattle.chain_trace.specs.Parities.{bit_marks, GoesOn}
use Rattle.chain_trace.proofs.path.PathBits.put_bits.Given as goal

abbrev pub invariant-loop-k : goal.invariant-loop-k
invariant-loop-k l = GoesOn l.fn.self l.self (bit_marks l.instance l.path 0 (take l.k l.bits))
