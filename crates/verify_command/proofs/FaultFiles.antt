-- The faults of `play` stand in the table, the Verilog or the STIL.
use Rattle.std.proofs.Common.{◌≡◌, ◌⊎◌, inl, inr, ℕ, List, refl, ap}
use Rattle.base_types.specs.declared.fault.Fault.{Fault}
use Rattle.base_types.specs.declared.fault.FileKind.{FileKind}
use Rattle.base_types.specs.declared.fault.FileKind.TheVariants.{Table, Verilog, Stil}
use Rattle.base_types.specs.declared.kind.Kind.{Kind}
use Rattle.base_types.specs.Faults.{at_line}
use Rattle.netlist_core.specs.declared.netlist.NetId.{NetId}
use Rattle.netlist_core.specs.declared.netlist.Netlist.{Netlist}
use Rattle.cell_table.specs.Cells.{Cells}
use Rattle.cell_table.specs.Entries.{HoldsInTable, Syntax as TableSyntax, Top, Cell}
use Rattle.stil_head.specs.Faults.{HoldsInHead, Syntax as HeadSyntax, Twice, Barred}
use Rattle.chain_trace.specs.declared.path.Path.{Path}
use Rattle.chain_trace.specs.Faults.{IsTraceFault}
use Rattle.stil_types.specs.declared.head.StilHead.{StilHead}
use Rattle.traced_paths.specs.Asked.{Asked}
use Rattle.traced_paths.specs.Traced.{HoldsInPaths, OfPort, OfCount, OfTrace, OfCell}
use Rattle.head_checks.specs.Heads.{HoldsInHeads, OfPort as OfScanIn, OfLength, OfInversion, OfCells}
use Rattle.declared_chains.specs.Faults.{HoldsBeforePatterns, OfTable, OfVerilog, OfHead, OfPaths, OfDeclarations, OfBits, HoldsInPlay, Before, OfPatterns}
use Rattle.verify_command.proofs.VerilogFiles.{in_verilog}

-- one of the files of `play`
abbrev pub IsPlayFile : FileKind → Type 0
IsPlayFile file = (file ≡ Table) ⊎ ((file ≡ Verilog) ⊎ (file ≡ Stil))

at_file : (kind : Kind) (file : FileKind) (line : ℕ) (f : Fault) → f ≡ at_line kind file line → f.file ≡ file
at_file kind file line f is = ap (λ (x : Fault). x.file) is

of_table : (table : List ℕ) (f : Fault) → HoldsInTable table f → f.file ≡ Table
of_table table _ (TableSyntax none) = refl
of_table table _ (Top document is wrong) = refl
of_table table _ (Cell document entries name is has least) = refl

of_head : (text : List ℕ) (f : Fault) → HoldsInHead text f → f.file ≡ Stil
of_head text _ (HeadSyntax place there) = refl
of_head text _ (Twice place there) = refl
of_head text _ (Barred place there) = refl

of_trace : (n : Netlist) (cells : Cells) (output : NetId) (f : Fault) → IsTraceFault n cells output f → f.file ≡ Verilog
of_trace n cells output f (inl h) = ap (λ (x : Fault). x.file) h.is
of_trace n cells output f (inr (inl h)) = ap (λ (x : Fault). x.file) h.is
of_trace n cells output f (inr (inr h)) = ap (λ (x : Fault). x.file) h.is

of_paths : (n : Netlist) (cells : Cells) (asked : List Asked) (f : Fault) → HoldsInPaths n cells Stil asked f → IsPlayFile f.file
of_paths n cells asked f (OfPort line is at) = inr (inr (at_file _ Stil line f at))
of_paths n cells asked f (OfCount line is at) = inr (inr (at_file _ Stil line f at))
of_paths n cells asked f (OfTrace met) = inr (inl (of_trace n cells met.net f met.met))
of_paths n cells asked f (OfCell line is at) = inr (inl (at_file _ Verilog line f at))

of_declarations : (n : Netlist) (cells : Cells) (paths : List Path) (head : StilHead) (f : Fault) → HoldsInHeads n cells paths head f → f.file ≡ Stil
of_declarations n cells paths head _ (OfScanIn line is) = refl
of_declarations n cells paths head _ (OfLength line is) = refl
of_declarations n cells paths head _ (OfInversion line is) = refl
of_declarations n cells paths head _ (OfCells line is) = refl

of_before : (table verilog text : List ℕ) (f : Fault) → HoldsBeforePatterns table verilog text f → IsPlayFile f.file
of_before table verilog text f (OfTable h) = inl (of_table table f h)
of_before table verilog text f (OfVerilog h) = inr (inl (in_verilog verilog f h))
of_before table verilog text f (OfHead h) = inr (inr (of_head text f h))
of_before table verilog text f (OfPaths cells n head read h) = of_paths n cells _ f h
of_before table verilog text f (OfDeclarations cells n head paths traced h) = inr (inr (of_declarations n cells paths head f h))
of_before table verilog text f (OfBits cells n head paths traced h) = inr (inl (ap (λ (x : Fault). x.file) h.is))

pub of_play : (table verilog stil : List ℕ) (f : Fault) → HoldsInPlay table verilog stil f → IsPlayFile f.file
of_play table verilog stil f (Before text shown h) = of_before table verilog text f h
of_play table verilog stil f (OfPatterns text shown met) = inr (inr (ap (λ (x : Fault). x.file) met.is))
