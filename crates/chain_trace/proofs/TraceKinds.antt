-- The kinds of a trace's faults.
use Rattle.std.proofs.Common.{◌≡◌, ◌<◌, inl, inr, ℕ, ap, arith}
use Rattle.base_types.specs.declared.fault.Fault.{Fault}
use Rattle.base_types.specs.declared.fault.FileKind.TheVariants.{Verilog}
use Rattle.base_types.specs.declared.kind.Kind.{Kind}
use Rattle.base_types.specs.declared.kind.Kind.TheVariants as kinds
use Rattle.base_types.specs.Faults.{number_of, at_line}
use Rattle.netlist_core.specs.declared.netlist.NetId.{NetId}
use Rattle.netlist_core.specs.declared.netlist.Netlist.{Netlist}
use Rattle.cell_table.specs.Cells.{Cells}
use Rattle.chain_trace.specs.Faults.{sink_line, IsTraceFault}

-- the faults of a trace are of the kinds 60 to 62
line_kind : (f : Fault) (kind : Kind) (line : ℕ) → f ≡ at_line kind Verilog line → number_of f.kind ≡ number_of kind
line_kind f kind line e = ap (λ (x : Fault). number_of x.kind) e

pub trace_late : (n : Netlist) (cells : Cells) (output : NetId) (f : Fault) → IsTraceFault n cells output f → 59 < number_of f.kind
trace_late n cells output f (inl h) = let kind = line_kind f kinds.NoDriver (sink_line n h.sink) h.is in omega arith
trace_late n cells output f (inr (inl h)) = let kind = line_kind f kinds.TwoDrivers (sink_line n h.sink) h.is in omega arith
trace_late n cells output f (inr (inr h)) = let kind = line_kind f kinds.Loop _ h.is in omega arith

pub trace_early : (n : Netlist) (cells : Cells) (output : NetId) (f : Fault) → IsTraceFault n cells output f → number_of f.kind < 63
trace_early n cells output f (inl h) = let kind = line_kind f kinds.NoDriver (sink_line n h.sink) h.is in omega arith
trace_early n cells output f (inr (inl h)) = let kind = line_kind f kinds.TwoDrivers (sink_line n h.sink) h.is in omega arith
trace_early n cells output f (inr (inr h)) = let kind = line_kind f kinds.Loop _ h.is in omega arith
