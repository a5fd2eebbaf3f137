use Rattle.std.proofs.Common.{◌≡◌, ◌+◌, map, take}
use Rattle.design_places.specs.Ends.{sink_on}
use Rattle.design_places.specs.Layouts.{AreNearOrNowhere}
use Rattle.design_places.proofs.ends.stops_of.Given as goal

abbrev pub invariant-loop-chain : goal.invariant-loop-chain
invariant-loop-chain l = record {
  value : l.rows ≡ map (λ r. sink_on l.layout.netlist l.layout.cells l.layout.macros l.layout.design l.paths r.path (r.last + 1)) (take l.chain-index l.chains);
  near : AreNearOrNowhere l.rows;
}
