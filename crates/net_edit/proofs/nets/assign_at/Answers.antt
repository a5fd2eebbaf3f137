use Rattle.std.proofs.Common.{◌≡◌, ◌∙◌, List, ap, sym, arith}
use Rattle.std.specs.Prelude.{Some, position}
use Rattle.netlist_core.specs.declared.netlist.Assign.{Assign}
use Rattle.path_links.specs.Free.{is_one_net}
use Rattle.path_links.proofs.EditPlaces.{first_at, nowhere}
use Rattle.net_edit.proofs.nets.assign_at.Goals as goal

pub returns-then-is_one_net : goal.returns-then-is_one_net
returns-then-is_one_net c =
    let items = c.as_slice-assigns.ensures.value in
    let assigns = c.as_slice-assigns.result.now in
    let i = c.loop-i.i in
    let d = c.index-assigns-i.result in
    let same : c.in-Ok.place ≡ i = omega (arith, c.in-Ok.ensures) in
    let here = ap (is_one_net c.args.net) (sym c.as_slice.ensures.value) ∙ sym c.is_one_net.ensures.value ∙ c.if-is_one_net.true in
    record {
      value = ap (λ k. Some k) same ∙ sym (ap (λ (xs : List Assign). position (λ (a : Assign). is_one_net c.args.net a.left.bits) xs) (sym items)
          ∙ first_at (λ (a : Assign). is_one_net c.args.net a.left.bits) assigns i d c.loop-i-test.true (λ k lt. c.loop-i.invariant k d lt) here);
    }

pub returns : goal.returns
returns c =
    let items = c.as_slice-assigns.ensures.value in
    let assigns = c.as_slice-assigns.result.now in
    record {
      value = sym (ap (λ (xs : List Assign). position (λ (a : Assign). is_one_net c.args.net a.left.bits) xs) (sym items)
          ∙ nowhere (λ (a : Assign). is_one_net c.args.net a.left.bits) assigns c.loop-i.i (omega arith) c.loop-i.invariant);
    }
