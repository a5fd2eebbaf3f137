use Rattle.std.proofs.Common.{◌≤◌, List, subst}
use Rattle.std.specs.Prelude.{IsSomeAnd}
use Rattle.std.proofs.lemmas.Result.{err_from_is_err_and}
use Rattle.base_types.specs.FirstFault.{IfFault, IsFirstFault}
use Rattle.base_types.proofs.FirstFaults.{fault_weaker}
use Rattle.chain_trace.specs.declared.path.Path.{Path}
use Rattle.traced_paths.specs.Bits.{all_bits, HaveTooManyBits}
use Rattle.head_checks.specs.Heads.{HoldsInHeads}
use Rattle.design_places.specs.NetPins.{HoldsInNets}
use Rattle.design_files.specs.Stages.{IsFirstOfKnown}
use Rattle.design_files.proofs.Known.{carried, first_other, first_bits, first_nets}
use Rattle.design_files.proofs.ruled.check_paths.Goals as goal

pub returns-in_err-check_declared-clause-fault : goal.returns-in_err-check_declared-clause-fault
returns-in_err-check_declared-clause-fault c =
    let p = err_from_is_err_and c.from_residual.result c.from_residual.ensures.1 in
    let f = c.args.files.now in
    let head = c.args.traced.now.head in
    let ps = c.args.traced.now.paths.items in
    rw (p.1, p.2)
    (carried (Unit {0}) (Unit {0}) c.in_err-check_declared.field-0.0 (IsFirstFault (λ x. IsSomeAnd head (λ h. HoldsInHeads f.netlist f.table ps h x))) (IsFirstOfKnown f.table f.macros f.netlist f.design head)
    (λ x w t known head_known. first_other t f.table f.macros f.netlist f.design known c.requires.agreed head head_known ps c.requires.paths x w) c.in_err-check_declared.ensures.fault)

pub returns-in-Err-clause-fault : goal.returns-in-Err-clause-fault
returns-in-Err-clause-fault c = λ t known head_known.
    let f = c.args.files.now in
    first_bits t f.table f.macros f.netlist f.design known c.requires.agreed c.args.traced.now.head head_known c.args.traced.now.paths.items c.requires.paths c.in_ok-check_declared.ensures.no_fault c.in-Err.fault
    (subst (λ (ps : List Path). HaveTooManyBits f.netlist f.table ps c.in-Err.fault) c.deref.ensures.value c.in-Err.ensures.fault)

pub returns-clause-fault : goal.returns-clause-fault
returns-clause-fault c =
    let f = c.args.files.now in
    let head = c.args.traced.now.head in
    let ps = c.args.traced.now.paths.items in
    let few : all_bits f.netlist f.table ps ≤ 262144 = subst (λ (qs : List Path). all_bits f.netlist f.table qs ≤ 262144) c.deref.ensures.value c.in_default.ensures.few in
    fault_weaker c.check_nets.result (IsFirstFault (HoldsInNets f.netlist f.table f.design ps)) (IsFirstOfKnown f.table f.macros f.netlist f.design head)
    (λ x w t known head_known. first_nets t f.table f.macros f.netlist f.design known c.requires.agreed head head_known ps c.requires.paths c.in_ok-check_declared.ensures.no_fault few x w)
    (subst (λ (qs : List Path). IfFault c.check_nets.result (IsFirstFault (HoldsInNets f.netlist f.table f.design qs))) c.deref-2.ensures.value c.check_nets.ensures.fault)
