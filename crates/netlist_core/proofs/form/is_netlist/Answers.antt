use Rattle.std.proofs.Common.{List, Bool, length, subst, sym}
use Rattle.std.specs.Prelude.{◌↔◌, All, IsTrue}
use Rattle.std.proofs.lemmas.Result.{IfOk-weaker}
use Rattle.netlist_core.specs.declared.netlist.Instance.{Instance}
use Rattle.netlist_core.specs.declared.netlist.NetName.{NetName}
use Rattle.netlist_core.specs.Netlists.{IsInstance, IsNetlist}
use Rattle.netlist_core.proofs.form.is_netlist.Goals as goal

pub returns : goal.returns
returns c =
    let n = c.args.netlist.now in
    let parts = c.has_parts.ensures.value.0 c.if-not-has_parts.false in
    let once = c.in_ok-has_each_once.ensures.value.0 c.if-not-branch.false in
    let nets = c.as_slice-nets.result.now in
    let instances = c.as_slice.result.now in
    let among = λ (h : All (IsInstance (length nets)) instances). subst (λ (is : List Instance). All (IsInstance (length n.nets)) is) c.as_slice.ensures.value (subst (λ (ns : List NetName). All (IsInstance (length ns)) instances) c.as_slice-nets.ensures.value h) in
    let back = λ (h : All (IsInstance (length n.nets)) n.instances). subst (λ (ns : List NetName). All (IsInstance (length ns)) instances) (sym c.as_slice-nets.ensures.value) (subst (λ (is : List Instance). All (IsInstance (length n.nets)) is) (sym c.as_slice.ensures.value) h) in
    record {
      value = IfOk-weaker c.are_instances.result (λ (sound : Bool). IsTrue sound ↔ All (IsInstance (length nets)) instances) (λ (sound : Bool). IsTrue sound ↔ IsNetlist n)
          (λ sound h. (
            λ t. record { few_nets = parts.0; few_instances = parts.1; declared = parts.4; names = once.0; port_nets = parts.2; ports = once.1; assigns = parts.3; instance_names = once.2; instances = among (h.0 t) },
            λ is. h.1 (back is.instances),
          ))
          c.are_instances.ensures.value;
    }
