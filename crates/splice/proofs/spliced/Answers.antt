use Rattle.std.proofs.Common.{◌≡◌, ◌++◌, ◌∙◌, ap, sym, List, ℕ, refl, length, drop, take, is_ok}
use Rattle.std.proofs.ResultArms.{chosen}
use Rattle.std.proofs.lemmas.List.{take_rest}
use Rattle.splice.proofs.Steps.{step, done}
use Rattle.splice.proofs.spliced.Goals as goal

pub loop-edit-preserved : goal.loop-edit-preserved
loop-edit-preserved c =
    let one = c.in_ok-extend_from_slice.ensures.items in
    let two = c.in_ok-extend_from_slice-2.ensures.items in
    let s = step c.args.text.now c.loop-edit.at c.loop-edit.edit-index c.args.edits.now c.edit-item.result c.loop-edit.out.items c.extend_from_slice-in-loop-edit.new.self.items _ c.loop-edit-test.true c.edit-item.is c.loop-edit.invariant.rising (rw (two, one, c.bytes.ensures.value) refl) c.loop-edit.invariant.same in
    record { within = s.within; rising = s.rising; same = s.same }

pub returns : goal.returns
returns c = record {
  value = c.of.ensures.value ∙ done c.args.text.now c.loop-edit.at c.loop-edit.edit-index c.args.edits.now c.loop-edit.out.items c.extend_from_slice-2.new.self.items _ c.loop-edit-test.false (c.in_ok-extend_from_slice-3.ensures.items ∙ ap (λ (x : List ℕ). c.loop-edit.out.items ++ x) (take_rest c.args.text.now c.loop-edit.at)) c.loop-edit.invariant.same;
}
