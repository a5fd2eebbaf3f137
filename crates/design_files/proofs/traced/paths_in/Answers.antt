use Rattle.std.proofs.Common.{List, Option, Ok, Err, Result, option_map, sym, subst}
use Rattle.std.specs.Prelude.{◌≡◌, ◌≤◌, length, Some, IfOk, OnOk, IsSomeAnd}
use Rattle.base_types.specs.declared.fault.Fault.{Fault}
use Rattle.base_types.specs.declared.fault.ReadFault.{ReadFault}
use Rattle.base_types.specs.FirstFault.{IsFirstFault, IfFault}
use Rattle.base_types.proofs.FirstFaults.{fault_weaker}
use Rattle.netlist_core.specs.declared.netlist.Netlist.{Netlist}
use Rattle.cell_table.specs.Cells.{Cells}
use Rattle.chain_trace.specs.declared.path.Path.{Path}
use Rattle.def_reader.specs.declared.design.Design.{Design}
use Rattle.stil_types.specs.declared.head.StilHead.{StilHead}
use Rattle.head_chains.specs.Asked.{asked_by, file_of}
use Rattle.traced_paths.specs.Traced.{ArePathsOf, NameEntries, HoldsInPaths}
use Rattle.head_chains.specs.Chains.{HoldsInChains}
use Rattle.design_files.specs.Stages.{HavePaths, IsFirstOfKnown}
use Rattle.design_files.proofs.Known.{first_path}
use Rattle.design_files.proofs.traced.paths_in.Goals as goal

-- what the call says of its paths, together
have_paths : {V : Type 0} (r : Result V ReadFault) (items : V → List Path) (n : Netlist) (cells : Cells) (d : Design) (head : Option StilHead)
    → ((f : Fault) → IsSomeAnd head (λ h. HoldsInChains d h f) → ⊥)
    → IfOk r (λ v. ArePathsOf n cells (asked_by (Some d) head) (items v)) → IfOk r (λ v. (other : List Path) → ArePathsOf n cells (asked_by (Some d) head) other → other ≡ items v)
    → IfOk r (λ v. NameEntries n cells (items v)) → IfOk r (λ v. length (items v) ≤ 256) → OnOk r ((f : Fault) → HoldsInPaths n cells (file_of head) (asked_by (Some d) head) f → ⊥)
    → IfOk r (λ v. HavePaths n cells d head (items v))
have_paths (Ok v) items n cells d head declared traced only entries few none = record {
  no_undeclared = declared;
  no_path = none;
  traced = traced;
  only = only;
  entries = entries;
  few = few;
}
have_paths (Err e) items n cells d head declared traced only entries few none = tt

pub returns-clause-paths : goal.returns-clause-paths
returns-clause-paths c =
    let f = c.args.files.now in
    let same = c.as_ref.ensures.value in
    let e = c.paths_of.ensures in
    let declared = subst (λ (h : Option StilHead). (x : Fault) → IsSomeAnd h (λ one. HoldsInChains f.design one x) → ⊥) (sym same) c.requires.declared in
    subst (λ (h : Option StilHead). IfOk c.paths_of.result (λ paths. HavePaths f.netlist f.table f.design h paths.items)) same
    (have_paths c.paths_of.result (λ paths. paths.items) f.netlist f.table f.design (option_map (λ h. h.now) c.as_ref.result) declared e.paths e.only e.entries e.few e.no_fault)

pub returns-clause-fault : goal.returns-clause-fault
returns-clause-fault c =
    let f = c.args.files.now in
    let head = c.args.head.now in
    fault_weaker c.paths_of.result (IsFirstFault (HoldsInPaths f.netlist f.table (file_of head) (asked_by (Some f.design) head))) (IsFirstOfKnown f.table f.macros f.netlist f.design head)
    (λ x w t known head_known. first_path t f.table f.macros f.netlist f.design known c.requires.agreed head head_known c.requires.declared x w)
    (subst (λ (o : Option StilHead). IfFault c.paths_of.result (IsFirstFault (HoldsInPaths f.netlist f.table (file_of o) (asked_by (Some f.design) o)))) c.as_ref.ensures.value c.paths_of.ensures.fault)
