use Rattle.std.proofs.Common.{◌≡◌, take}
use Rattle.std.specs.List.{flat_map}
use Rattle.verilog_writer.specs.Wired.{tail_wire}
use Rattle.verilog_writer.proofs.wired_text.wire_lines.Given as goal

abbrev pub invariant-loop-tail : goal.invariant-loop-tail
invariant-loop-tail l = l.lines.items ≡ flat_map tail_wire (take l.tail-index l.tails)
