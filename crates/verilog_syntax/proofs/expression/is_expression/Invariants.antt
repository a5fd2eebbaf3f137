use Rattle.std.proofs.Common.{◌≡◌, ◌≤◌, drop}
use Rattle.verilog_syntax.specs.Items.{nests, is_expression}
use Rattle.verilog_syntax.proofs.expression.is_expression.Given as goal

abbrev pub invariant-loop-item : goal.invariant-loop-item
invariant-loop-item l = record {
  room : l.depth ≤ l.item-index;
  same : nests l.depth l.ended (drop l.item-index l.items) ≡ is_expression l.items;
}
