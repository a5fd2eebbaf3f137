use Rattle.std.proofs.Common.{arith, subst, sym, refl, ◌∙◌, take}
use Rattle.std.proofs.lemmas.Bool.{false≢true}
use Rattle.std.proofs.lemmas.List.{take_all}
use Rattle.std.proofs.lemmas.List.Elements.{All-more, All-same}
use Rattle.netlist_core.specs.declared.netlist.Instance.{Instance}
use Rattle.netlist_core.specs.Netlists.{IsInstance}
use Rattle.netlist_core.proofs.form.are_instances.Goals as goal

pub returns-then-not-branch : goal.returns-then-not-branch
returns-then-not-branch c = record {
  value = (
    λ t. absurd (false≢true t),
    λ all. absurd (false≢true (sym c.if-not-branch.true ∙ c.in_ok-is_instance.ensures.value.1
        (subst (λ (instance : Instance). IsInstance c.args.count instance) (sym c.instance-item.is) (all c.loop-instance.instance-index c.instance-item.result (omega arith))))),
  );
}

pub loop-instance-preserved : goal.loop-instance-preserved
loop-instance-preserved c =
    All-more (IsInstance c.args.count) c.args.instances.now c.loop-instance.instance-index c.instance-item.result (omega arith) c.loop-instance.invariant
    (subst (λ (instance : Instance). IsInstance c.args.count instance) c.instance-item.is (c.in_ok-is_instance.ensures.value.0 c.if-not-branch.false))

pub returns : goal.returns
returns c = record {
  value = (
    λ _. All-same (IsInstance c.args.count) c.args.instances.now (take c.loop-instance.instance-index c.args.instances.now) (sym (take_all c.loop-instance.instance-index c.args.instances.now (omega arith))) c.loop-instance.invariant,
    λ _. refl,
  );
}
