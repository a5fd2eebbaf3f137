use Rattle.std.proofs.Common.{List, ℕ, sym, ap, ◌∙◌, subst}
use Rattle.std.proofs.lemmas.List.{append-nil}
use Rattle.def_reader.specs.declared.design.NetPin.{NetPin}
use Rattle.def_reader.specs.Hashes.{name_hash, pin_hash, Adds, AreTold, IsNameHeld, IsPinHeld}
use Rattle.list_laws.proofs.RowsMore.{pins_next, pins_all}
use Rattle.def_reader.proofs.Told.{still_told, told_more}
use Rattle.def_reader.proofs.connections.add_hashes.Goals as goal

pub loop-pin-init : goal.loop-pin-init
loop-pin-init c = λ names rows told known.
    let name = c.args.net.now.name in
    let is = c.name_hash.ensures.value ∙ ap name_hash c.bytes.ensures.value in
    let added = subst (λ (h : ℕ). Adds c.args.hashes.now c.add.new.self h) is (c.add.ensures.added c.if-not-add.false) in (
      told_more (IsNameHeld c.args.hashes.now) (IsNameHeld c.add.new.self) names told (λ k h. added.kept (name_hash k) h) name c.args.net.now.line added.fresh added.held,
      subst (λ (l : List (NetPin × ℕ)). AreTold (IsPinHeld c.add.new.self) l) (sym (append-nil rows)) (still_told (IsPinHeld c.args.hashes.now) (IsPinHeld c.add.new.self) rows known (λ k h. added.kept (pin_hash k) h)),
    )

pub loop-pin-preserved : goal.loop-pin-preserved
loop-pin-preserved c = λ names rows told known.
    let old = c.loop-pin.hashes in
    let new = c.add-in-loop-pin.new.self in
    let pin = c.pin-item.result in
    let before = c.loop-pin.invariant names rows told known in
    let added = subst (λ (h : ℕ). Adds old new h) c.pin_hash.ensures.value (c.add-in-loop-pin.ensures.added c.if-not-add-2.false) in (
      still_told (IsNameHeld old) (IsNameHeld new) _ before.0 (λ k h. added.kept (name_hash k) h),
      subst (λ (l : List (NetPin × ℕ)). AreTold (IsPinHeld new) l)
          (pins_next rows c.as_slice-pin-items.result.now c.args.net.now.pins c.args.net.now.line c.loop-pin.pin-index pin c.as_slice-pin-items.ensures.value c.loop-pin-test.true c.pin-item.is)
          (told_more (IsPinHeld old) (IsPinHeld new) _ before.1 (λ k h. added.kept (pin_hash k) h) pin c.args.net.now.line added.fresh added.held),
    )

pub returns : goal.returns
returns c = record {
  told = λ _ names rows told known.
      let before = c.loop-pin.invariant names rows told known in (
        before.0,
        subst (λ (l : List (NetPin × ℕ)). AreTold (IsPinHeld c.loop-pin.hashes) l)
            (pins_all rows c.as_slice-pin-items.result.now c.args.net.now.pins c.args.net.now.line c.loop-pin.pin-index c.as_slice-pin-items.ensures.value c.loop-pin-test.false) before.1,
      );
}
