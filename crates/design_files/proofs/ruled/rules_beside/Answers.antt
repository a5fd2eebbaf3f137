use Rattle.std.proofs.Common.{List, ◌∙◌, subst}
use Rattle.std.specs.Prelude.{Some}
use Rattle.std.proofs.lemmas.Result.{err_from_is_err_and}
use Rattle.base_types.specs.declared.fault.ReadFault.{ReadFault}
use Rattle.base_types.specs.declared.fault.ReadFault.TheVariants as refusal
use Rattle.chain_rules.specs.declared.spec.PathSpec.{PathSpec}
use Rattle.chain_rules.specs.declared.spec.ChainSpec.{ChainSpec}
use Rattle.chain_rules.specs.declared.unit.Rules.{Rules}
use Rattle.chain_rules.specs.ChainFaults.{IsRefusal, IsRefused, IsFaultless}
use Rattle.path_numbers.specs.Numbers.{path_specs}
use Rattle.design_elements.specs.Elements.{chain_specs}
use Rattle.design_files.specs.Stages.{IsFirstOfKnown}
use Rattle.design_files.proofs.Chained.{refused_alone, found_first}
use Rattle.design_files.proofs.Known.{first_last}
use Rattle.design_files.proofs.ruled.rules_beside.Goals as goal

pub returns-in_err-places_of-in-Ok-clause-fault : goal.returns-in_err-places_of-in-Ok-clause-fault
returns-in_err-places_of-in-Ok-clause-fault c =
    let p = err_from_is_err_and c.from_residual.result c.from_residual.ensures.1 in
    let f = c.args.files.now in
    let head = c.args.traced.now.head in
    let ps = c.args.traced.now.paths.items in
    let specs = path_specs f.netlist f.table (Some f.design) ps in
    let chains = chain_specs f.netlist f.table f.design in
    let faultless : IsFaultless specs chains =
    subst (λ (xs : List PathSpec). IsFaultless xs chains) c.requires.specs (subst (λ (cs : List ChainSpec). IsFaultless c.args.specs.now cs) (c.deref.ensures.value ∙ c.requires.chains) c.in-Ok.ensures.faultless) in
    rw (p.1, p.2)
    (refused_alone f.netlist f.macros f.design ps specs chains Rules c.in_err-places_of-in-Ok.field-0.0 (IsFirstOfKnown f.table f.macros f.netlist f.design head) faultless
    (λ x w t known head_known. first_last t f.table f.macros f.netlist f.design known c.requires.agreed head head_known ps c.requires.paths c.requires.inside x w) c.in_err-places_of-in-Ok.ensures.fault)

pub returns-in-Err-Fault-clause-fault : goal.returns-in-Err-Fault-clause-fault
returns-in-Err-Fault-clause-fault c =
    let f = c.args.files.now in
    let head = c.args.traced.now.head in
    let ps = c.args.traced.now.paths.items in
    let specs = path_specs f.netlist f.table (Some f.design) ps in
    let chains = chain_specs f.netlist f.table f.design in
    let first : IsRefused c.args.specs.now c.deref.result.now (refusal.Fault c.in-Err-Fault.fault) =
    subst (λ (e : ReadFault). IsRefused c.args.specs.now c.deref.result.now e) c.in-Err-Fault.field-0-is c.in-Err-Fault.ensures.first in
    let refused : IsRefusal specs chains c.in-Err-Fault.fault =
    subst (λ (xs : List PathSpec). IsRefusal xs chains c.in-Err-Fault.fault) c.requires.specs (subst (λ (cs : List ChainSpec). IsRefusal c.args.specs.now cs c.in-Err-Fault.fault) (c.deref.ensures.value ∙ c.requires.chains) first) in
    found_first f.netlist f.macros f.design ps specs chains Rules c.in-Err-Fault.fault c.first_of.result (IsFirstOfKnown f.table f.macros f.netlist f.design head) refused
    (λ x w t known head_known. first_last t f.table f.macros f.netlist f.design known c.requires.agreed head head_known ps c.requires.paths c.requires.inside x w) c.first_of.ensures.first
