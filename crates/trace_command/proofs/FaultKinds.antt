-- The kinds of the faults of a table.
use Rattle.std.proofs.Common.{ℕ, ◌<◌, List, arith}
use Rattle.base_types.specs.declared.fault.Fault.{Fault}
use Rattle.base_types.specs.Faults.{number_of}
use Rattle.cell_table.specs.Entries.{HoldsInTable, Syntax, Top, Cell}

pub early : (table : List ℕ) (f : Fault) → HoldsInTable table f → number_of f.kind < 3
early table _ (Syntax none) = omega arith
early table _ (Top document is wrong) = omega arith
early table _ (Cell document entries name is has least) = omega arith
