use Rattle.std.proofs.Common.{◌≡◌, ◌∙◌, ◌<◌, ◌++◌, ℕ, List, length, get_or, take, refl, ap, sym, subst, arith}
use Rattle.std.specs.List.{flat_map}
use Rattle.netlist_core.specs.declared.netlist.Bit.{Bit}
use Rattle.netlist_core.specs.declared.netlist.Assign.{Assign}
use Rattle.netlist_core.specs.Netlists.{pairs, bit_pairs}
use Rattle.netlist_core.specs.Forests.{IsNumbering}
use Rattle.netlist_core.proofs.Sides.{assigns_more, assigns_all}
use Rattle.netlist_core.proofs.Roots.{classes_from, numbering_alone}
use Rattle.netlist_core.proofs.plain.classes_of.Goals as goal

pub loop-assign-init : goal.loop-assign-init
loop-assign-init c =
    let nets = ap length c.as_slice.ensures.value in
    let len : length c.in_ok-classes.classes.items ≡ length c.args.netlist.now.nets = c.in_ok-classes.ensures.len ∙ nets in
    let own : (k : ℕ) → k < length c.args.netlist.now.nets → get_or c.in_ok-classes.classes.items k 0 ≡ k = λ k lt. c.in_ok-classes.ensures.own k (omega (arith, nets)) in
    record {
      len = len;
      numbering = numbering_alone (length c.args.netlist.now.nets) c.in_ok-classes.classes.items own;
    }

pub loop-assign-preserved : goal.loop-assign-preserved
loop-assign-preserved c =
    let n = c.args.netlist.now in
    let i = c.loop-assign.assign-index in
    let front = flat_map bit_pairs (take i n.assigns) in
    let items : c.as_slice-assign-items.result.now ≡ n.assigns = c.as_slice-assign-items.ensures.value in
    let lt : i < length n.assigns = omega (arith, ap length items) in
    let is : c.assign-item.result ≡ get_or n.assigns i c.assign-item.result = c.assign-item.is ∙ ap (λ (as' : List Assign). get_or as' i c.assign-item.result) items in
    record {
      len = c.join_sides.ensures.len ∙ c.loop-assign.invariant.len;
      numbering =
          assigns_more (λ (qs : List (Bit × Bit)). IsNumbering (length n.nets) qs c.join_sides.new.classes.items) n.assigns i c.assign-item.result
          c.as_slice-in-loop-assign.result.now c.as_slice-in-loop-assign-2.result.now lt is
          c.as_slice-in-loop-assign.ensures.value c.as_slice-in-loop-assign-2.ensures.value
          (subst (λ (m : ℕ). IsNumbering m (front ++ pairs c.as_slice-in-loop-assign.result.now c.as_slice-in-loop-assign-2.result.now) c.join_sides.new.classes.items) c.loop-assign.invariant.len
          (c.join_sides.ensures.joined front (subst (λ (m : ℕ). IsNumbering m front c.loop-assign.classes.items) (sym c.loop-assign.invariant.len) c.loop-assign.invariant.numbering)));
    }

pub returns : goal.returns
returns c =
    let n = c.args.netlist.now in
    let f = assigns_all (λ (qs : List (Bit × Bit)). IsNumbering (length n.nets) qs c.loop-assign.classes.items) n.assigns c.loop-assign.assign-index (omega (arith, ap length c.as_slice-assign-items.ensures.value)) c.loop-assign.invariant.numbering in
    record { value = classes_from n (λ k. get_or c.loop-assign.classes.items k 0) c.loop-assign.classes.items c.loop-assign.invariant.len f.least f.same (λ k lt. refl) }
