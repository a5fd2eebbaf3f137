use Rattle.std.proofs.Common.{ℕ, Option, refl, subst}
use Rattle.def_reader.specs.Agreement.{IsMissing, HasOtherCell}
use Rattle.list_laws.specs.Leasts.{IsLeast}
use Rattle.def_reader.proofs.Agreeing.{NetFault, missing_here, other_here, nets_here, nets_agree, nets_differ}
use Rattle.def_reader.proofs.AgreementFaults.{missing_first, other_first, net_first, no_fault, agrees}
use Rattle.def_reader.proofs.agreement.agree.Goals as goal

pub returns-in-Some-clause-fault : goal.returns-in-Some-clause-fault
returns-in-Some-clause-fault c =
    let n = c.args.netlist.now in
    let d = c.args.design.now in
    let least = missing_here n d d.components c.as_slice.result.now _ refl c.as_slice.ensures.value c.least_apart-missing.ensures.missing in
    rw c.in_verilog.ensures.value (missing_first n d c.in-Some.line (subst (λ (r : Option ℕ). IsLeast (IsMissing n d) r) c.in-Some.is least))

pub returns-in-Some-other-clause-fault : goal.returns-in-Some-other-clause-fault
returns-in-Some-other-clause-fault c =
    let n = c.args.netlist.now in
    let d = c.args.design.now in
    let none = missing_here n d d.components c.as_slice.result.now _ refl c.as_slice.ensures.value c.least_apart-missing.ensures.missing in
    let least = other_here n d d.components c.as_slice.result.now _ refl c.as_slice.ensures.value c.least_apart-missing.ensures.other in
    rw c.in_verilog-in-Some-other.ensures.value
    (other_first n d c.in-Some-other.line (subst (λ (r : Option ℕ). IsLeast (IsMissing n d) r) c.in_default.is none) (subst (λ (r : Option ℕ). IsLeast (HasOtherCell n d) r) c.in-Some-other.is least))

pub returns-in-Some-2-clause-fault : goal.returns-in-Some-2-clause-fault
returns-in-Some-2-clause-fault c =
    let n = c.args.netlist.now in
    let d = c.args.design.now in
    let none = missing_here n d d.components c.as_slice.result.now _ refl c.as_slice.ensures.value c.least_apart-missing.ensures.missing in
    let same = other_here n d d.components c.as_slice.result.now _ refl c.as_slice.ensures.value c.least_apart-missing.ensures.other in
    let nets = nets_here n c.args.classes.now d c.requires.netlist c.requires.classes c.in_ok-pins.pins c.as_slice-2.result.now c.in_ok-line.field-0 c.in_ok-pins.ensures.value c.as_slice-2.ensures.value c.in_ok-line.ensures.value in
    rw c.in_def.ensures.value
    (net_first n d c.in-Some-2.line (subst (λ (r : Option ℕ). IsLeast (IsMissing n d) r) c.in_default.is none) (subst (λ (r : Option ℕ). IsLeast (HasOtherCell n d) r) c.in_default-other.is same)
    (subst (λ (r : Option ℕ). IsLeast (NetFault n d) r) c.in-Some-2.is nets))

pub returns-in-Some-2-clause-differ : goal.returns-in-Some-2-clause-differ
returns-in-Some-2-clause-differ c =
    let n = c.args.netlist.now in
    let d = c.args.design.now in
    let nets = nets_here n c.args.classes.now d c.requires.netlist c.requires.classes c.in_ok-pins.pins c.as_slice-2.result.now c.in_ok-line.field-0 c.in_ok-pins.ensures.value c.as_slice-2.ensures.value c.in_ok-line.ensures.value in
    let least = subst (λ (r : Option ℕ). IsLeast (NetFault n d) r) c.in-Some-2.is nets in
    rw c.in_def.ensures.value (λ agree. nets_differ n c.args.classes.now d c.requires.netlist c.requires.classes c.in-Some-2.line least.0 agree.nets)

pub returns-clause-agree : goal.returns-clause-agree
returns-clause-agree c =
    let n = c.args.netlist.now in
    let d = c.args.design.now in
    let none = missing_here n d d.components c.as_slice.result.now _ refl c.as_slice.ensures.value c.least_apart-missing.ensures.missing in
    let same = other_here n d d.components c.as_slice.result.now _ refl c.as_slice.ensures.value c.least_apart-missing.ensures.other in
    let nets = nets_here n c.args.classes.now d c.requires.netlist c.requires.classes c.in_ok-pins.pins c.as_slice-2.result.now c.in_ok-line.field-0 c.in_ok-pins.ensures.value c.as_slice-2.ensures.value c.in_ok-line.ensures.value in
    agrees n d (subst (λ (r : Option ℕ). IsLeast (IsMissing n d) r) c.in_default.is none) (subst (λ (r : Option ℕ). IsLeast (HasOtherCell n d) r) c.in_default-other.is same)
    (nets_agree n c.args.classes.now d c.requires.netlist c.requires.classes (subst (λ (r : Option ℕ). IsLeast (NetFault n d) r) c.in_default-2.is nets))

pub returns-clause-no_fault : goal.returns-clause-no_fault
returns-clause-no_fault c =
    let n = c.args.netlist.now in
    let d = c.args.design.now in
    let none = missing_here n d d.components c.as_slice.result.now _ refl c.as_slice.ensures.value c.least_apart-missing.ensures.missing in
    let same = other_here n d d.components c.as_slice.result.now _ refl c.as_slice.ensures.value c.least_apart-missing.ensures.other in
    let nets = nets_here n c.args.classes.now d c.requires.netlist c.requires.classes c.in_ok-pins.pins c.as_slice-2.result.now c.in_ok-line.field-0 c.in_ok-pins.ensures.value c.as_slice-2.ensures.value c.in_ok-line.ensures.value in
    no_fault n d (subst (λ (r : Option ℕ). IsLeast (IsMissing n d) r) c.in_default.is none) (subst (λ (r : Option ℕ). IsLeast (HasOtherCell n d) r) c.in_default-other.is same)
    (subst (λ (r : Option ℕ). IsLeast (NetFault n d) r) c.in_default-2.is nets)
