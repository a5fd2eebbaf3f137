use Rattle.std.proofs.Common.{◌≡◌, ◌==◌, ◌∙◌, ◌++◌, ℕ, List, map, Option, ap, ap₂}
use Rattle.std.specs.HashMap.{get}
use Rattle.std.specs.Option.{option_or}
use Rattle.netlist_core.specs.declared.netlist.NetName.{NetName}
use Rattle.netlist_core.specs.declared.netlist.NetId.{NetId}
use Rattle.netlist_core.specs.declared.netlist.Assign.{Assign}
use Rattle.path_links.specs.Edited.{map_from}
use Rattle.net_edit.specs.declared.edits.PinEdit.{PinEdit}
use Rattle.net_edit.specs.declared.edits.PortEdit.{PortEdit}
use Rattle.net_edit.specs.declared.edits.TailEdit.{TailEdit}
use Rattle.net_edit.specs.Tails.{freed_between, pin_edits, new_at, net_named}
use Rattle.net_edit.specs.Applied.{HasPuts, tail_put, pin_put, assign_put, put_instance, put_assign, tail_assign}
use Rattle.net_edit.proofs.PutSteps.{puts_are, rights_are, rebuilt}
use Rattle.net_edit.proofs.applied.apply.Goals as goal

pub returns : goal.returns
returns c = record {
  value = λ old new e.
      let n = c.args.netlist.now in
      let t = c.args.table.now in
      let edits = c.args.edits.now in
      let at : ℕ → List ℕ → Option NetId = λ instance pin. new_at n t (freed_between n t old new) (pin_edits n t old new) instance pin in
      let tails = c.as_slice-tails.ensures.value in
      let has : HasPuts at c.in_ok-puts.puts = λ q.
      c.in_ok-puts.ensures.value q ∙ ap₂ (λ (ts : List TailEdit) (ps : List PinEdit). option_or (tail_put n ts q.0 q.1.now) (pin_put n t ps q.0 q.1.now)) tails c.as_slice.ensures.value ∙ puts_are n t old new edits e q.0 q.1.now in
      let right : (place : ℕ) → get ◌==◌ c.in_ok-rights.rights place ≡ assign_put n edits.ports place = λ place.
      c.in_ok-rights.ensures.value place ∙ ap (λ (ps : List PortEdit). assign_put n ps place) c.as_slice-2.ensures.value in
      let nets = c.in_ok-add_nets.ensures.value ∙ ap₂ (λ (ns : List NetName) (ts : List TailEdit). ns ++ map (λ t. net_named t.tail) ts) (c.in_ok-nets.ensures.value ∙ c.as_slice-3.ensures.value) tails in
      let first = c.in_ok-assigns.ensures.value ∙ ap (map_from (put_assign (get ◌==◌ c.in_ok-rights.rights)) 0) c.as_slice-4.ensures.value ∙ rights_are n t old new edits e (get ◌==◌ c.in_ok-rights.rights) right in
      let assigns = c.in_ok-add_assigns.ensures.value ∙ ap₂ (λ (l : List Assign) (ts : List TailEdit). l ++ map (tail_assign n) ts) first tails in
      let instances = c.in_ok-put_instances.ensures.value at has ∙ ap (map_from (put_instance at) 0) c.as_slice-6.ensures.value in
      rebuilt n t old new edits e _ _ _ _ _ (c.in_ok-copy.ensures.value ∙ c.bytes.ensures.value) nets (c.of.ensures.value ∙ c.in_ok-ports.ensures.items ∙ c.as_slice-5.ensures.value) assigns instances;
}
