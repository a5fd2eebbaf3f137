use Rattle.std.proofs.Common.{◌≡◌, ◌<◌, ℕ, List, length, get_or, sym, subst, ap, ◌∙◌, arith}
use Rattle.std.proofs.lemmas.List.Elements.{All-get_or}
use Rattle.netlist_core.specs.declared.netlist.Instance.{Instance}
use Rattle.netlist_core.specs.Netlists.{IsInstance}
use Rattle.path_links.proofs.uses.Uses.of.Goals as goal

pub count_instance-requires : goal.count_instance-requires
count_instance-requires c =
    let n = c.args.netlist.now in
    let i = c.loop-placed.placed-index in
    let d : Instance = c.placed-item.result in
    let items = c.as_slice-placed-items.ensures.value in
    let within : i < length n.instances = omega (arith, c.loop-placed-test.true, ap length items) in
    let is : d ≡ get_or n.instances i d = c.placed-item.is ∙ ap (λ (xs : List Instance). get_or xs i d) items in
    let one : IsInstance (length n.nets) d = subst (λ (x : Instance). IsInstance (length n.nets) x) (sym is) (All-get_or (IsInstance (length n.nets)) n.instances i d within c.requires.netlist.instances) in
    record { within = subst (λ (m : ℕ). IsInstance m d) (sym c.loop-placed.invariant.counted) one }
