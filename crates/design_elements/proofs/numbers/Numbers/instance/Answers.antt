use Rattle.std.proofs.Common.{ℕ, Bool, Option, sym, ap, ◌∙◌, length, arith}
use Rattle.std.specs.Prelude.{unwrap_or}
use Rattle.std.specs.List.{position}
use Rattle.std.specs.Str.{bytes_eq}
use Rattle.netlist_core.specs.declared.netlist.Instance.{Instance}
use Rattle.def_reader.proofs.Places.{position_within}
use Rattle.design_elements.proofs.numbers.Numbers.instance.Goals as goal

pub overflow_cast-result : goal.overflow_cast-result
overflow_cast-result c =
    let test : Instance → Bool = λ i. bytes_eq i.name c.args.name.now in
    let lt = position_within test c.self.inside.netlist.now.instances c.in-Some.place (ap (position test) (sym c.self.invariant.1) ∙ sym c.in-Some.ensures.value) in
    let few = c.self.invariant.0.few_instances in
    omega arith

pub returns-in-Some : goal.returns-in-Some
returns-in-Some c = record {
  value = rw (← c.self.view_is)
      (ap (λ (o : Option ℕ). unwrap_or o (length c.self.inside.netlist.now.instances))
      (c.in-Some.ensures.value ∙ ap (position (λ (i : Instance). bytes_eq i.name c.args.name.now)) c.self.invariant.1));
}

pub returns-in-None : goal.returns-in-None
returns-in-None c = record {
  value = rw (← c.self.view_is)
      (ap length c.as_slice.ensures.value
      ∙ ap (λ (o : Option ℕ). unwrap_or o (length c.self.inside.netlist.now.instances))
      (c.in-None.ensures.value ∙ ap (position (λ (i : Instance). bytes_eq i.name c.args.name.now)) c.self.invariant.1));
}
