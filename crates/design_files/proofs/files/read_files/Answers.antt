use Rattle.std.proofs.Common.{List, ℕ, Option}
use Rattle.std.proofs.lemmas.Result.{err_from_is_err_and}
use Rattle.base_types.specs.declared.fault.Fault.{Fault}
use Rattle.base_types.specs.FirstFault.{IsFirstFault}
use Rattle.netlist_core.specs.declared.netlist.Netlist.{Netlist}
use Rattle.verilog_checks.specs.Faults.{HoldsInVerilog}
use Rattle.verilog_reader.proofs.OneNetlist.{one_netlist}
use Rattle.cell_table.specs.Cells.{Cells}
use Rattle.cell_table.specs.Entries.{HoldsInTable}
use Rattle.cell_table.proofs.TableFaults.{one_table, no_fault as no_table_fault}
use Rattle.lef_pins.specs.Macros.{NamedMacros}
use Rattle.lef_pins.specs.Faults.{HoldsInLef}
use Rattle.def_reader.specs.declared.design.Design.{Design}
use Rattle.def_reader.specs.Faults.{HoldsInDesign}
use Rattle.design_files.specs.Files.{Texts, texts_with}
use Rattle.design_files.specs.Faults.{IsFilesFault}
use Rattle.design_files.specs.declared.files.Files.{Files}
use Rattle.design_files.proofs.Known.{first_table, first_lef, first_verilog, first_design, carried}
use Rattle.design_files.proofs.files.read_files.Goals as goal

pub returns-in_err-table-clause-fault : goal.returns-in_err-table-clause-fault
returns-in_err-table-clause-fault c =
    let p = err_from_is_err_and c.from_residual.result c.from_residual.ensures.1 in
    let t : Option (List ℕ) → Texts = texts_with c.args.table.now c.args.lef.now c.args.verilog.now c.args.def.now in
    rw (p.1, p.2) (carried Cells Files c.in_err-table.field-0.0 (IsFirstFault (HoldsInTable c.args.table.now)) (λ f. (head : Option (List ℕ)) → IsFilesFault (t head) f) (λ f w head. first_table (t head) f w) c.in_err-table.ensures.fault)

pub returns-in_err-macros-clause-fault : goal.returns-in_err-macros-clause-fault
returns-in_err-macros-clause-fault c =
    let p = err_from_is_err_and c.from_residual-in_err-macros.result c.from_residual-in_err-macros.ensures.1 in
    let t : Option (List ℕ) → Texts = texts_with c.args.table.now c.args.lef.now c.args.verilog.now c.args.def.now in
    let no_table : (f : Fault) → HoldsInTable c.args.table.now f → ⊥ = λ f h. no_table_fault c.args.table.now c.in_ok-table.table f c.in_ok-table.ensures.value h in
    rw (p.1, p.2) (carried NamedMacros Files c.in_err-macros.field-0.0 (IsFirstFault (HoldsInLef c.args.lef.now)) (λ f. (head : Option (List ℕ)) → IsFilesFault (t head) f) (λ f w head. first_lef (t head) no_table f w) c.in_err-macros.ensures.fault)

pub returns-in_err-netlist-clause-fault : goal.returns-in_err-netlist-clause-fault
returns-in_err-netlist-clause-fault c =
    let p = err_from_is_err_and c.from_residual-in_err-netlist.result c.from_residual-in_err-netlist.ensures.1 in
    let t : Option (List ℕ) → Texts = texts_with c.args.table.now c.args.lef.now c.args.verilog.now c.args.def.now in
    let no_table : (f : Fault) → HoldsInTable c.args.table.now f → ⊥ = λ f h. no_table_fault c.args.table.now c.in_ok-table.table f c.in_ok-table.ensures.value h in
    rw (p.1, p.2)
    (carried Netlist Files c.in_err-netlist.field-0.0 (IsFirstFault (HoldsInVerilog c.args.verilog.now)) (λ f. (head : Option (List ℕ)) → IsFilesFault (t head) f) (λ f w head. first_verilog (t head) no_table c.in_ok-macros.ensures.no_fault f w) c.in_err-netlist.ensures.fault)

pub returns-in_err-design-clause-fault : goal.returns-in_err-design-clause-fault
returns-in_err-design-clause-fault c =
    let p = err_from_is_err_and c.from_residual-in_err-design.result c.from_residual-in_err-design.ensures.1 in
    let t : Option (List ℕ) → Texts = texts_with c.args.table.now c.args.lef.now c.args.verilog.now c.args.def.now in
    let no_table : (f : Fault) → HoldsInTable c.args.table.now f → ⊥ = λ f h. no_table_fault c.args.table.now c.in_ok-table.table f c.in_ok-table.ensures.value h in
    rw (p.1, p.2)
    (carried Design Files c.in_err-design.field-0.0 (IsFirstFault (HoldsInDesign c.args.def.now)) (λ f. (head : Option (List ℕ)) → IsFilesFault (t head) f) (λ f w head. first_design (t head) no_table c.in_ok-macros.ensures.no_fault c.in_ok-netlist.ensures.no_fault f w)
    c.in_err-design.ensures.fault)

pub returns-clause-known : goal.returns-clause-known
returns-clause-known c = λ head.
    record {
      read = record { cells_are = c.in_ok-table.ensures.value; macros_are = c.in_ok-macros.ensures.macros; netlist_is = c.in_ok-netlist.ensures.value; design_is = c.in_ok-design.ensures.design };
      only_cells = λ other is. one_table c.args.table.now other c.in_ok-table.table is c.in_ok-table.ensures.value;
      only_macros = c.in_ok-macros.ensures.only;
      only_netlist = λ other is. one_netlist c.args.verilog.now other c.in_ok-netlist.netlist is c.in_ok-netlist.ensures.value;
      only_design = c.in_ok-design.ensures.only;
      no_table = λ f h. no_table_fault c.args.table.now c.in_ok-table.table f c.in_ok-table.ensures.value h;
      no_lef = c.in_ok-macros.ensures.no_fault;
      no_verilog = c.in_ok-netlist.ensures.no_fault;
      no_design = c.in_ok-design.ensures.no_fault;
    }

pub returns-clause-sound : goal.returns-clause-sound
returns-clause-sound c = record { measured = c.in_ok-macros.ensures.measured; is_netlist = c.in_ok-netlist.ensures.value.sound; is_sound = c.in_ok-design.ensures.sound }
