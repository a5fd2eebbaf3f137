use Rattle.std.proofs.Common.{◌≡◌, ◌||◌, take}
use Rattle.std.specs.List.{list_any}
use Rattle.chain_trace.specs.declared.path.Step.{Step}
use Rattle.traced_paths.specs.Steps.{is_marked}
use Rattle.def_writer.specs.PlanChains.{names_step}
use Rattle.def_writer.proofs.listing.put_elements.Given as goal

abbrev pub invariant-loop-element : goal.invariant-loop-element
invariant-loop-element l = (step : Step) → is_marked l.set step ≡ (is_marked l.initial.set step || list_any (names_step step) (take l.element-index l.elements))
