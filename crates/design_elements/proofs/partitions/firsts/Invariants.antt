use Rattle.std.proofs.Common.{take}
use Rattle.design_elements.specs.Firsts.{AreFirsts}
use Rattle.design_elements.proofs.partitions.firsts.Given as goal

abbrev pub invariant-loop-place : goal.invariant-loop-place
invariant-loop-place l = AreFirsts l.places (take l.place l.chains)
