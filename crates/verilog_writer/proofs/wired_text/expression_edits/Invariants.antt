use Rattle.std.proofs.Common.{◌≡◌, ◌++◌, take}
use Rattle.std.specs.List.{flat_map}
use Rattle.verilog_writer.specs.Wired.{pin_edit, port_edit, tail_edit}
use Rattle.verilog_writer.proofs.wired_text.expression_edits.Given as goal

abbrev pub invariant-loop-edit : goal.invariant-loop-edit
invariant-loop-edit l = l.made.items ≡ flat_map (pin_edit l.netlist l.table l.edits.tails) (take l.edit-index l.edits.pins)

abbrev pub invariant-loop-edit-2 : goal.invariant-loop-edit-2
invariant-loop-edit-2 l = l.made.items ≡ flat_map (pin_edit l.netlist l.table l.edits.tails) l.edits.pins ++ flat_map (port_edit l.netlist l.edits.tails) (take l.edit-index l.edits.ports)

abbrev pub invariant-loop-edit-3 : goal.invariant-loop-edit-3
invariant-loop-edit-3 l =
    l.made.items ≡ flat_map (pin_edit l.netlist l.table l.edits.tails) l.edits.pins ++ (flat_map (port_edit l.netlist l.edits.tails) l.edits.ports ++ flat_map (tail_edit l.netlist) (take l.edit-index l.edits.tails))
