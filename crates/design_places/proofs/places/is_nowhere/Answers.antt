use Rattle.std.proofs.Common.{ℕ, List, Option, ap, ◌∙◌}
use Rattle.std.specs.Prelude.{is_none, option_and_then}
use Rattle.std.specs.List.{find}
use Rattle.std.specs.Str.{bytes_eq}
use Rattle.netlist_core.specs.declared.netlist.Instance.{Instance}
use Rattle.def_reader.specs.declared.design.Component.{Component}
use Rattle.design_places.specs.Ends.{Placed, placed_of}
use Rattle.design_places.proofs.Options.{none_by}
use Rattle.design_places.proofs.places.is_nowhere.Goals as goal

pub returns-in-Some : goal.returns-in-Some
returns-in-Some c =
    let named : List ℕ → Option Placed = λ name. option_and_then (placed_of c.args.components.now.0) (find (λ (x : Component). bytes_eq x.name name) c.args.components.now.1) in
    record {
      value = none_by c.standing.result c.is_none.result c.is_none.ensures ∙ ap is_none (c.standing.ensures.value ∙ ap named c.bytes.ensures.value)
          ∙ ap (λ (o : Option Instance). is_none (option_and_then (λ i. named i.name) o)) c.in-Some.ensures.value;
    }

pub returns-in-None : goal.returns-in-None
returns-in-None c =
    let named : List ℕ → Option Placed = λ name. option_and_then (placed_of c.args.components.now.0) (find (λ (x : Component). bytes_eq x.name name) c.args.components.now.1) in
    record { value = ap (λ (o : Option Instance). is_none (option_and_then (λ i. named i.name) o)) c.in-None.ensures.value }
