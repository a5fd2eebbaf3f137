use Rattle.std.proofs.Common.{◌≡◌, map, take}
use Rattle.std.specs.List.{filter_map}
use Rattle.def_writer.specs.Moved.Sites.{pins_of, pins_by}
use Rattle.def_writer.proofs.moved.pairs.pairs_of.Given as goal

abbrev pub invariant-loop-link : goal.invariant-loop-link
invariant-loop-link l = map pins_by l.pairs.items ≡ filter_map (pins_of l.netlist l.table) (take l.link-index l.links)
