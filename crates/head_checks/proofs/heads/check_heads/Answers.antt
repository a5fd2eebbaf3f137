use Rattle.std.proofs.Common.{◌≡◌, ℕ, List, Option, ap, ◌∙◌, subst}
use Rattle.std.specs.List.{zip}
use Rattle.list_laws.specs.Leasts.{IsLeast}
use Rattle.stil_types.specs.declared.head.ScanChainDecl.{ScanChainDecl}
use Rattle.chain_trace.specs.declared.path.Path.{Path}
use Rattle.std.specs.Prelude.{Bool}
use Rattle.netlist_core.specs.declared.netlist.Netlist.{Netlist}
use Rattle.cell_table.specs.Cells.{Cells}
use Rattle.head_checks.specs.Heads.{Declared, FailsOn, line_of, lists_others, are_listed}
use Rattle.head_checks.proofs.Firsts.{port_first, length_first, inversion_first, cells_first, none_holds}
use Rattle.head_checks.proofs.heads.check_heads.Goals as goal

-- what is said of a list and its least line, said of their equals
moved : (test : Declared → Bool) (paths : List Path) (chains blocks : List ScanChainDecl) (r s : Option ℕ) → chains ≡ blocks → r ≡ s
    → IsLeast (FailsOn test line_of (zip chains paths)) r → IsLeast (FailsOn test line_of (zip blocks paths)) s
moved test paths chains blocks r s e f least =
    subst (λ (x : Option ℕ). IsLeast (FailsOn test line_of (zip blocks paths)) x) f
    (subst (λ (x : List ScanChainDecl). IsLeast (FailsOn test line_of (zip x paths)) r) e least)

-- the same of ScanCells, where it was looked for once
relisted : (n : Netlist) (cells : Cells) (paths : List Path) (listed : Bool) (chains blocks : List ScanChainDecl) (r s : Option ℕ) → chains ≡ blocks → listed ≡ are_listed chains → r ≡ s
    → IsLeast (FailsOn (lists_others n cells listed) line_of (zip chains paths)) r → IsLeast (FailsOn (lists_others n cells (are_listed blocks)) line_of (zip blocks paths)) s
relisted n cells paths listed chains blocks r s e told f least =
    subst (λ (b : Bool). IsLeast (FailsOn (lists_others n cells b) line_of (zip blocks paths)) s) (told ∙ ap are_listed e)
    (moved (lists_others n cells listed) paths chains blocks r s e f least)

pub returns-in-Some-clause-fault : goal.returns-in-Some-clause-fault
returns-in-Some-clause-fault c =
    rw c.fault_at.ensures.value (port_first c.args.netlist.now c.args.table.now c.args.paths.now c.args.head.now c.in-Some.line
    (moved _ _ _ _ _ _ c.as_slice-chains.ensures.value c.in-Some.is c.in_ok-line.ensures.value))

pub returns-in-Some-2-clause-fault : goal.returns-in-Some-2-clause-fault
returns-in-Some-2-clause-fault c =
    rw c.fault_at-in-Some-2.ensures.value (length_first c.args.netlist.now c.args.table.now c.args.paths.now c.args.head.now c.in-Some-2.line
    (moved _ _ _ _ _ _ c.as_slice-chains.ensures.value c.in_default.is c.in_ok-line.ensures.value)
    (moved _ _ _ _ _ _ c.as_slice-chains.ensures.value c.in-Some-2.is c.in_ok-line-2.ensures.value))

pub returns-in-Some-3-clause-fault : goal.returns-in-Some-3-clause-fault
returns-in-Some-3-clause-fault c =
    rw c.fault_at-in-Some-3.ensures.value (inversion_first c.args.netlist.now c.args.table.now c.args.paths.now c.args.head.now c.in-Some-3.line
    (moved _ _ _ _ _ _ c.as_slice-chains.ensures.value c.in_default.is c.in_ok-line.ensures.value)
    (moved _ _ _ _ _ _ c.as_slice-chains.ensures.value c.in_default-2.is c.in_ok-line-2.ensures.value)
    (moved _ _ _ _ _ _ c.as_slice-chains.ensures.value c.in-Some-3.is c.in_ok-line-3.ensures.value))

pub returns-in-Some-4-clause-fault : goal.returns-in-Some-4-clause-fault
returns-in-Some-4-clause-fault c =
    rw c.fault_at-in-Some-4.ensures.value (cells_first c.args.netlist.now c.args.table.now c.args.paths.now c.args.head.now c.in-Some-4.line
    (moved _ _ _ _ _ _ c.as_slice-chains.ensures.value c.in_default.is c.in_ok-line.ensures.value)
    (moved _ _ _ _ _ _ c.as_slice-chains.ensures.value c.in_default-2.is c.in_ok-line-2.ensures.value)
    (moved _ _ _ _ _ _ c.as_slice-chains.ensures.value c.in_default-3.is c.in_ok-line-3.ensures.value)
    (relisted c.args.netlist.now c.args.table.now c.args.paths.now _ _ _ _ _ c.as_slice-chains.ensures.value c.are_listed-listed.ensures.value c.in-Some-4.is c.in_ok-line-4.ensures.value))

pub returns-clause-no_fault : goal.returns-clause-no_fault
returns-clause-no_fault c =
    none_holds c.args.netlist.now c.args.table.now c.args.paths.now c.args.head.now
    (moved _ _ _ _ _ _ c.as_slice-chains.ensures.value c.in_default.is c.in_ok-line.ensures.value)
    (moved _ _ _ _ _ _ c.as_slice-chains.ensures.value c.in_default-2.is c.in_ok-line-2.ensures.value)
    (moved _ _ _ _ _ _ c.as_slice-chains.ensures.value c.in_default-3.is c.in_ok-line-3.ensures.value)
    (relisted c.args.netlist.now c.args.table.now c.args.paths.now _ _ _ _ _ c.as_slice-chains.ensures.value c.are_listed-listed.ensures.value c.in_default-4.is c.in_ok-line-4.ensures.value)
