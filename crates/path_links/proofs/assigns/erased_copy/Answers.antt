use Rattle.std.proofs.Common.{◌≡◌, List, ap, ap₂, ◌∙◌}
use Rattle.netlist_core.specs.declared.netlist.Bit.{Bit}
use Rattle.netlist_core.specs.declared.netlist.Expr.{Expr}
use Rattle.path_links.specs.Erasure.{is_sink_assign}
use Rattle.path_links.proofs.BlankSides.{named_pairs, erased_is}
use Rattle.path_links.proofs.assigns.erased_copy.Goals as goal

pub returns : goal.returns
returns c =
    let nets = c.args.nets.now in
    let sinks = c.args.sinks.now in
    let a = c.args.assign.now in
    let b = c.is_sink_assign-is_sink.result in
    let left = ap (λ (e : Expr). e.bits) c.in_ok-copy_expr.ensures.value in
    let right = c.in_ok-erased_right.ensures.value in
    let sink : b ≡ is_sink_assign sinks (named_pairs nets a.left.bits a.right.bits) =
    c.is_sink_assign-is_sink.ensures.value ∙ ap₂ (λ (l r : List Bit). is_sink_assign sinks (named_pairs nets l r)) c.as_slice-left.ensures.value c.as_slice-right.ensures.value in
    record { value = ap₂ (λ (l r : List Bit). named_pairs nets l r) left right ∙ erased_is nets sinks a.left.bits a.right.bits b sink }
