use Rattle.std.proofs.Common.{sym, ap, ◌∙◌}
use Rattle.std.specs.Prelude.{option_and_then}
use Rattle.std.specs.List.{position}
use Rattle.std.specs.Str.{bytes_eq}
use Rattle.netlist_core.specs.declared.netlist.Instance.{Instance}
use Rattle.netlist_core.specs.Netlists.{net_at}
use Rattle.def_reader.proofs.Finding.{held}
use Rattle.def_reader.proofs.Places.{position_within, found_place, found_no_place}
use Rattle.def_reader.proofs.agreement.Pins.pin.Goals as goal

pub returns-in-Some : goal.returns-in-Some
returns-in-Some c =
    let instances = c.self.inside.netlist.now.instances in
    let there = ap (position (λ (i : Instance). bytes_eq i.name c.args.instance.now)) (sym c.self.invariant.1) ∙ sym c.in-Some.ensures.value in
    record {
      value = rw (← c.self.view_is)
          (held (net_at c.args.pin.now) instances c.in-Some.place c.net_of.result (position_within (λ (i : Instance). bytes_eq i.name c.args.instance.now) instances c.in-Some.place there) c.net_of.ensures.value
          ∙ ap (option_and_then (net_at c.args.pin.now)) (found_place (λ (i : Instance). bytes_eq i.name c.args.instance.now) instances c.in-Some.place there));
    }

pub returns-in-None : goal.returns-in-None
returns-in-None c =
    let there = ap (position (λ (i : Instance). bytes_eq i.name c.args.instance.now)) (sym c.self.invariant.1) ∙ sym c.in-None.ensures.value in
    record {
      value = rw (← c.self.view_is)
          (ap (option_and_then (net_at c.args.pin.now)) (found_no_place (λ (i : Instance). bytes_eq i.name c.args.instance.now) c.self.inside.netlist.now.instances there));
    }
