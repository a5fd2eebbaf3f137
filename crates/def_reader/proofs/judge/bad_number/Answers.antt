use Rattle.std.proofs.Common.{List, subst}
use Rattle.def_syntax.specs.declared.design.Located.{Located}
use Rattle.def_syntax.specs.declared.component.Component.{Component}
use Rattle.def_syntax.specs.declared.pin.DesignPin.{DesignPin}
use Rattle.def_syntax.specs.declared.chain.Chain.{Chain}
use Rattle.def_reader.specs.Faults.{FailsAt, has_far_component, has_far_pin, has_many_bits}
use Rattle.list_laws.specs.Leasts.{IsLeast}
use Rattle.def_reader.proofs.LeastLines.{number_least}
use Rattle.def_reader.proofs.judge.bad_number.Goals as goal

pub returns : goal.returns
returns c =
    let components = subst (λ (l : List (Located Component)). IsLeast (FailsAt has_far_component l) c.least_bad-components.result) c.as_slice.ensures.value c.least_bad-components.ensures.value in
    let pins = subst (λ (l : List (Located DesignPin)). IsLeast (FailsAt has_far_pin l) c.least_bad-pins.result) c.as_slice-2.ensures.value c.least_bad-pins.ensures.value in
    let chains = subst (λ (l : List (Located Chain)). IsLeast (FailsAt has_many_bits l) c.least_bad-chains.result) c.as_slice-3.ensures.value c.least_bad-chains.ensures.value in
    record {
      value = rw (c.lesser-3.ensures.value, c.lesser.ensures.value, c.lesser-2.ensures.value) (number_least c.args.text.now _ _ _ _ c.bad_units-units.ensures.value components pins chains);
    }
