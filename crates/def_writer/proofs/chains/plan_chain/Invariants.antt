use Rattle.std.proofs.Common.{◌≡◌, flat_map, take}
use Rattle.def_writer.specs.PlanChains.{floating_elements, ordered_elements}
use Rattle.def_writer.proofs.chains.plan_chain.Given as goal

abbrev pub invariant-loop-unit : goal.invariant-loop-unit
invariant-loop-unit l = record {
  floating : l.floating ≡ flat_map (floating_elements l.from.netlist.now l.from.table.now l.from.listing l.from.traced l.from.rules.now) (take l.unit-index l.units);
  ordered : l.ordered ≡ flat_map (ordered_elements l.from.netlist.now l.from.table.now l.from.listing l.from.traced l.from.rules.now) (take l.unit-index l.units);
}
