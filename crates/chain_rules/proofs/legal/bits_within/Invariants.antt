use Rattle.std.proofs.Common.{◌≡◌, ◌≤◌, take}
use Rattle.chain_rules.specs.Legality.{bits_of}
use Rattle.chain_rules.proofs.legal.bits_within.Given as goal

abbrev pub invariant-loop-u : goal.invariant-loop-u
invariant-loop-u l = (l.bits ≡ bits_of l.rules (take l.u-index l.us)) × (l.bits ≤ l.bound)
