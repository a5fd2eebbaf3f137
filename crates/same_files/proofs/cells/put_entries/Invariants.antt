use Rattle.std.proofs.Common.{◌≡◌, ◌++◌, map, take}
use Rattle.same_files.specs.Cells.{entry_of, seen}
use Rattle.same_files.proofs.cells.put_entries.Given as goal

abbrev pub invariant-loop-bit : goal.invariant-loop-bit
invariant-loop-bit l = map seen l.entries.items ≡ map seen l.fn.entries.items ++ map (entry_of l.netlist) (take l.bit-index l.bits)
