use Rattle.std.proofs.Common.{◌≡◌, ◌+◌, map, take}
use Rattle.wire_cost.specs.Lengths.{AreNear}
use Rattle.design_places.specs.Ends.{point_or_origin, source_on}
use Rattle.design_places.proofs.ends.exits_of.Given as goal

abbrev pub invariant-loop-unit : goal.invariant-loop-unit
invariant-loop-unit l = record {
  value : l.rows ≡ map (λ u. point_or_origin (source_on l.layout.netlist l.layout.cells l.layout.macros l.layout.design l.paths u.path (u.last + 1))) (take l.unit-index l.units);
  near : AreNear l.rows;
}
