use Rattle.std.proofs.Common.{◌≡◌, [], List, take, flat_map}
use Rattle.net_edit.specs.Changes.{Change}
use Rattle.net_edit.specs.NewWires.{HasPlaces, wired_pin, wired_port}
use Rattle.net_edit.proofs.between.edits_of.Given as goal

abbrev pub invariant-loop-link : goal.invariant-loop-link
invariant-loop-link l = record {
  pins : (fs : List Change) → HasPlaces fs l.places → l.edits.pins ≡ flat_map (wired_pin l.netlist l.table fs) (take l.link-index l.links);
  ports : (fs : List Change) → HasPlaces fs l.places → l.edits.ports ≡ flat_map (wired_port l.netlist l.table fs) (take l.link-index l.links);
  tails : l.edits.tails ≡ [];
}
