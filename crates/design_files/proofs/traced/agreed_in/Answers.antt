use Rattle.std.proofs.Common.{List}
use Rattle.std.proofs.lemmas.Result.{err_from_is_err_and}
use Rattle.base_types.specs.FirstFault.{IsFirstFault}
use Rattle.chain_rules.specs.declared.spec.ChainSpec.{ChainSpec}
use Rattle.def_reader.specs.Agreement.{HoldsInAgreement}
use Rattle.design_elements.specs.Faults.{HoldsInElements}
use Rattle.design_files.specs.Files.{Texts}
use Rattle.design_files.specs.Faults.{IsFilesFault}
use Rattle.design_files.specs.Stages.{AreKnown}
use Rattle.design_files.specs.declared.traced.Agreed.{Agreed}
use Rattle.design_files.proofs.Known.{first_element, first_agreement, carried}
use Rattle.design_files.proofs.traced.agreed_in.Goals as goal

pub returns-in_err-chains-clause-fault : goal.returns-in_err-chains-clause-fault
returns-in_err-chains-clause-fault c =
    let p = err_from_is_err_and c.from_residual.result c.from_residual.ensures.1 in
    let f = c.args.files.now in
    rw (p.1, p.2)
    (carried (List ChainSpec) Agreed c.in_err-chains.field-0.0 (IsFirstFault (HoldsInElements f.table f.macros f.design)) (λ x. (t : Texts) → AreKnown t f.table f.macros f.netlist f.design → IsFilesFault t x)
    (λ x w t known. first_element t f.table f.macros f.netlist f.design known x w) c.in_err-chains.ensures.fault)

pub returns-in_err-agree-clause-fault : goal.returns-in_err-agree-clause-fault
returns-in_err-agree-clause-fault c =
    let p = err_from_is_err_and c.from_residual-in_err-agree.result c.from_residual-in_err-agree.ensures.1 in
    let f = c.args.files.now in
    rw (p.1, p.2)
    (carried (Unit {0}) Agreed c.in_err-agree.field-0.0 (IsFirstFault (HoldsInAgreement f.netlist f.design)) (λ x. (t : Texts) → AreKnown t f.table f.macros f.netlist f.design → IsFilesFault t x)
    (λ x w t known. first_agreement t f.table f.macros f.netlist f.design known c.in_ok-chains.ensures.no_fault x w) c.in_err-agree.ensures.fault)
