use Rattle.std.proofs.Common.{ℕ, Option, sym, ap, ◌∙◌, subst}
use Rattle.std.proofs.lemmas.Result.{err_from_is_err_and}
use Rattle.def_syntax.specs.declared.design.DesignText.{DesignText}
use Rattle.def_reader.specs.declared.design.Design.{Design}
use Rattle.def_reader.specs.Designs.{design_of}
use Rattle.def_reader.specs.Faults.{TwiceAt}
use Rattle.list_laws.specs.Leasts.{IsLeast}
use Rattle.def_reader.proofs.DesignFaults.{form_stage, number_first, twice_first, no_fault}
use Rattle.def_reader.specs.Sound.{IsSound}
use Rattle.def_reader.proofs.SoundDesigns.{sound_design}
use Rattle.def_reader.proofs.reading.read_design.Goals as goal

pub returns-in_err-text-clause-fault : goal.returns-in_err-text-clause-fault
returns-in_err-text-clause-fault c =
    let p = err_from_is_err_and c.from_residual.result c.from_residual.ensures.1 in
    rw (p.1, p.2) (form_stage Design c.args.bytes.now c.in_err-text.field-0.0 c.in_err-text.ensures.exactly)

pub returns-in-Some-clause-fault : goal.returns-in-Some-clause-fault
returns-in-Some-clause-fault c = rw c.fault_at.ensures.value (number_first c.args.bytes.now c.in_ok-text.text c.in_ok-text.ensures.exactly c.in-Some.line c.in-Some.ensures.value)

pub returns-in-Some-2-clause-fault : goal.returns-in-Some-2-clause-fault
returns-in-Some-2-clause-fault c =
    let text = c.in_ok-text.text in
    let twice = c.in_ok-line.ensures.value c.args.bytes.now c.args.table.now text c.in_ok-design.ensures.value (c.as_slice.ensures.value ∙ c.in_ok-design.ensures.sections) in
    rw c.fault_at-in-Some-2.ensures.value
    (twice_first c.args.bytes.now text c.in_ok-text.ensures.exactly c.in-Some-2.line c.in_default.ensures.value (subst (λ (r : Option ℕ). IsLeast (TwiceAt c.args.bytes.now text) r) c.in-Some-2.is twice))

pub returns-clause-only : goal.returns-clause-only
returns-clause-only c = λ other d.
    d.is ∙ ap (λ (t : DesignText). design_of c.args.bytes.now c.args.table.now t) (c.in_ok-text.ensures.exactly.1 d.statements d.reads) ∙ sym c.in_ok-design.ensures.value

pub returns-clause-no_fault : goal.returns-clause-no_fault
returns-clause-no_fault c =
    let text = c.in_ok-text.text in
    let twice = c.in_ok-line.ensures.value c.args.bytes.now c.args.table.now text c.in_ok-design.ensures.value (c.as_slice.ensures.value ∙ c.in_ok-design.ensures.sections) in
    no_fault c.args.bytes.now text c.in_ok-text.ensures.exactly c.in_default.ensures.value (subst (λ (r : Option ℕ). IsLeast (TwiceAt c.args.bytes.now text) r) c.in_default-2.is twice)

pub returns-clause-sound : goal.returns-clause-sound
returns-clause-sound c = subst IsSound (sym c.in_ok-design.ensures.value) (sound_design c.args.bytes.now c.args.table.now c.in_ok-text.text c.in_ok-text.ensures.exactly.0 c.in_default.ensures.value)

pub returns-clause-design : goal.returns-clause-design
returns-clause-design c =
    let text = c.in_ok-text.text in
    let twice = c.in_ok-line.ensures.value c.args.bytes.now c.args.table.now text c.in_ok-design.ensures.value (c.as_slice.ensures.value ∙ c.in_ok-design.ensures.sections) in
    record {
      statements = text;
      reads = c.in_ok-text.ensures.exactly.0;
      numbers = c.in_default.ensures.value;
      once = subst (λ (r : Option ℕ). IsLeast (TwiceAt c.args.bytes.now text) r) c.in_default-2.is twice;
      is = c.in_ok-design.ensures.value;
    }
