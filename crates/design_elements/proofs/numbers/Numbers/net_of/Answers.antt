use Rattle.std.proofs.Common.{ap, ◌∙◌}
use Rattle.std.specs.Prelude.{option_map}
use Rattle.std.specs.List.{find}
use Rattle.std.specs.Str.{bytes_eq}
use Rattle.netlist_core.specs.declared.netlist.Netlist.{Netlist}
use Rattle.netlist_core.specs.declared.netlist.Port.{Port}
use Rattle.netlist_core.specs.Netlists.{plain_of}
use Rattle.design_elements.proofs.numbers.Numbers.net_of.Goals as goal

pub returns-in-Some : goal.returns-in-Some
returns-in-Some c = record {
  value = rw (← c.self.view_is)
      (ap (option_map (λ (p : Port). p.net.0))
      (c.in-Some.ensures.value ∙ ap (λ (n : Netlist). find (λ (p : Port). bytes_eq (plain_of n.nets p.net) c.args.name.now) n.ports) c.self.invariant.2));
}

pub returns-in-None : goal.returns-in-None
returns-in-None c = record {
  value = rw (← c.self.view_is)
      (ap (option_map (λ (p : Port). p.net.0))
      (c.in-None.ensures.value ∙ ap (λ (n : Netlist). find (λ (p : Port). bytes_eq (plain_of n.nets p.net) c.args.name.now) n.ports) c.self.invariant.2));
}
