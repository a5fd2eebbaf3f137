use Rattle.std.proofs.Common.{◌≡◌, drop}
use Rattle.std.specs.List.{list_any}
use Rattle.verilog_checks.specs.Faults.{is_bad_number}
use Rattle.verilog_checks.proofs.number.has_bad_item.Given as goal

abbrev pub invariant-loop-item : goal.invariant-loop-item
invariant-loop-item l = list_any is_bad_number (drop l.item-index l.items) ≡ list_any is_bad_number l.items
