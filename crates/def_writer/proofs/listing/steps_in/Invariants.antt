use Rattle.std.proofs.Common.{take}
use Rattle.def_writer.specs.PlanChains.{is_in_lists}
use Rattle.def_writer.specs.Seen.{AreSteps}
use Rattle.def_writer.proofs.listing.steps_in.Given as goal

abbrev pub invariant-loop-chain : goal.invariant-loop-chain
invariant-loop-chain l = AreSteps (is_in_lists l.floating (take l.chain-index l.chains)) l.set
