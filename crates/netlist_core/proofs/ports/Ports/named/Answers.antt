use Rattle.std.proofs.Common.{List, sym, ap, ◌∙◌}
use Rattle.std.specs.Prelude.{slice_get}
use Rattle.netlist_core.specs.declared.netlist.Port.{Port}
use Rattle.netlist_core.specs.Netlists.{plain_of}
use Rattle.netlist_core.proofs.Noted.{found_at, found_nowhere}
use Rattle.netlist_core.proofs.ports.Ports.named.Goals as goal

pub returns-in-Some-clause-value : goal.returns-in-Some-clause-value
returns-in-Some-clause-value c =
    rw (← c.self.view_is)
    (c.port_at.ensures.value ∙ ap (λ (l : List Port). slice_get l c.in-Some.place.now) c.as_slice.ensures.value
    ∙ found_at (λ (p : Port). plain_of c.self.inside.netlist.now.nets p.net) c.self.inside.places c.self.inside.netlist.now.ports c.args.name c.self.invariant.1 c.in-Some.place.now (sym c.in-Some.ensures.value))

pub returns-in-None-clause-value : goal.returns-in-None-clause-value
returns-in-None-clause-value c =
    rw (← c.self.view_is)
    (found_nowhere (λ (p : Port). plain_of c.self.inside.netlist.now.nets p.net) c.self.inside.places c.self.inside.netlist.now.ports c.args.name c.self.invariant.1 (sym c.in-None.ensures.value))
