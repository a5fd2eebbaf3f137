use Rattle.std.proofs.Common.{◌≡◌, filter, take}
use Rattle.def_writer.specs.PlanChains.{is_listed}
use Rattle.def_writer.proofs.units.listed_in.Given as goal

abbrev pub invariant-loop-step : goal.invariant-loop-step
invariant-loop-step l = l.listed.items ≡ filter (is_listed l.listing) (take l.step-index l.steps)
