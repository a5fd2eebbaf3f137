use Rattle.std.proofs.Common.{◌≡◌, ◌||◌, take}
use Rattle.std.specs.List.{list_any}
use Rattle.chain_trace.specs.declared.path.Step.{Step}
use Rattle.traced_paths.specs.Steps.{is_marked}
use Rattle.def_writer.specs.PlanChains.{lists_step}
use Rattle.def_writer.proofs.listing.put_lists.Given as goal

abbrev pub invariant-loop-list : goal.invariant-loop-list
invariant-loop-list l = (step : Step) → is_marked l.set step ≡ (is_marked l.initial.set step || list_any (lists_step l.floating step) (take l.list-index l.lists))
