use Rattle.std.proofs.Common.{◌≡◌, ◌++◌, drop}
use Rattle.verilog_reader.specs.Numbering.{with_items, numbered_items}
use Rattle.verilog_reader.proofs.bits.bits_of_items.Given as goal

abbrev pub invariant-loop-item : goal.invariant-loop-item
invariant-loop-item l = record {
  nets : with_items l.nets (drop l.item-index l.items) ≡ with_items l.initial.nets l.items;
  bits : l.bits.items ++ numbered_items (with_items l.initial.nets l.items) (drop l.item-index l.items) ≡ numbered_items (with_items l.initial.nets l.items) l.items;
}
