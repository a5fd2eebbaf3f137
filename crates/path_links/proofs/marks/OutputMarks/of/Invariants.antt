use Rattle.std.proofs.Common.{◌≡◌, length, take}
use Rattle.path_links.specs.Uses.{AreOutputMarks}
use Rattle.path_links.proofs.marks.OutputMarks.of.Given as goal

abbrev pub invariant-loop-port : goal.invariant-loop-port
invariant-loop-port l = record {
  count : length l.marks.items ≡ length l.netlist.nets;
  marked : AreOutputMarks (take l.port-index l.netlist.ports) l.marks.items;
}
