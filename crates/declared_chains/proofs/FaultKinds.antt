-- The kinds of the faults of each stage.
use Rattle.std.proofs.Common.{◌≡◌, ℕ, ◌<◌, ◌≤◌, List, ap, arith}
use Rattle.base_types.specs.declared.fault.Fault.{Fault}
use Rattle.base_types.specs.declared.fault.FileKind.{FileKind}
use Rattle.base_types.specs.declared.fault.FileKind.TheVariants.{Verilog}
use Rattle.base_types.specs.declared.kind.Kind.{Kind}
use Rattle.base_types.specs.declared.kind.Kind.TheVariants as kinds
use Rattle.base_types.specs.Faults.{number_of, at_line}
use Rattle.netlist_core.specs.declared.netlist.Netlist.{Netlist}
use Rattle.cell_table.specs.Cells.{Cells}
use Rattle.cell_table.specs.Entries.{HoldsInTable, Syntax as TableSyntax, Top, Cell}
use Rattle.verilog_checks.specs.Faults.{HoldsInVerilog}
use Rattle.verilog_checks.proofs.VerilogFaults.{late, early}
use Rattle.stil_head.specs.Faults.{HoldsInHead, Syntax as HeadSyntax, Twice, Barred}
use Rattle.chain_trace.specs.declared.path.Path.{Path}
use Rattle.chain_trace.proofs.TraceKinds.{trace_late, trace_early}
use Rattle.stil_types.specs.declared.head.StilHead.{StilHead}
use Rattle.traced_paths.specs.Asked.{Asked}
use Rattle.traced_paths.specs.Traced.{HoldsInPaths, OfPort, OfCount, OfTrace, OfCell}
use Rattle.traced_paths.specs.Bits.{HaveTooManyBits}
use Rattle.head_checks.specs.Heads.{HoldsInHeads, OfPort as OfScanIn, OfLength, OfInversion, OfCells}

-- the kind of the fault is one of these
pub record IsAmong (from to : ℕ) (f : Fault) : Type 0 where
  pub low : from ≤ number_of f.kind
  pub high : number_of f.kind < to

of_line : (kind : Kind) (file : FileKind) (line : ℕ) (f : Fault) → f ≡ at_line kind file line → number_of f.kind ≡ number_of kind
of_line kind file line f is = ap (λ (x : Fault). number_of x.kind) is

pub of_table : (table : List ℕ) (f : Fault) → HoldsInTable table f → IsAmong 0 10 f
of_table table _ (TableSyntax none) = record { low = omega arith; high = omega arith }
of_table table _ (Top document is wrong) = record { low = omega arith; high = omega arith }
of_table table _ (Cell document entries name is has least) = record { low = omega arith; high = omega arith }

pub of_verilog : (verilog : List ℕ) (f : Fault) → HoldsInVerilog verilog f → IsAmong 20 30 f
of_verilog verilog f h = let low = late verilog f h in let high = early verilog f h in record { low = omega arith; high = omega arith }

pub of_head : (text : List ℕ) (f : Fault) → HoldsInHead text f → IsAmong 50 53 f
of_head text _ (HeadSyntax place there) = record { low = omega arith; high = omega arith }
of_head text _ (Twice place there) = record { low = omega arith; high = omega arith }
of_head text _ (Barred place there) = record { low = omega arith; high = omega arith }

pub of_paths : (n : Netlist) (cells : Cells) (file : FileKind) (asked : List Asked) (f : Fault) → HoldsInPaths n cells file asked f → IsAmong 58 64 f
of_paths n cells file asked f (OfPort line is at) = let kind = of_line kinds.NoPort file line f at in record { low = omega arith; high = omega arith }
of_paths n cells file asked f (OfCount line is at) = let kind = of_line kinds.TooManyPaths file line f at in record { low = omega arith; high = omega arith }
of_paths n cells file asked f (OfTrace met) =
    let low = trace_late n cells met.net f met.met in
    let high = trace_early n cells met.net f met.met in
    record { low = omega arith; high = omega arith }
of_paths n cells file asked f (OfCell line is at) = let kind = of_line kinds.SharedCell Verilog line f at in record { low = omega arith; high = omega arith }

pub of_declarations : (n : Netlist) (cells : Cells) (paths : List Path) (head : StilHead) (f : Fault) → HoldsInHeads n cells paths head f → IsAmong 64 68 f
of_declarations n cells paths head _ (OfScanIn line is) = record { low = omega arith; high = omega arith }
of_declarations n cells paths head _ (OfLength line is) = record { low = omega arith; high = omega arith }
of_declarations n cells paths head _ (OfInversion line is) = record { low = omega arith; high = omega arith }
of_declarations n cells paths head _ (OfCells line is) = record { low = omega arith; high = omega arith }

pub of_bits : (n : Netlist) (cells : Cells) (paths : List Path) (f : Fault) → HaveTooManyBits n cells paths f → IsAmong 68 69 f
of_bits n cells paths f h = let kind = of_line kinds.TooManyBits Verilog n.line f h.is in record { low = omega arith; high = omega arith }
