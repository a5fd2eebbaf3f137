use Rattle.std.proofs.Common.{sym, ◌∙◌, get_or}
use Rattle.base_types.proofs.TruthValues.{was_there, was_new}
use Rattle.rewire_command.proofs.NameLists.{added_name, new_passes, new_fails, new_passed}
use Rattle.rewire_command.proofs.names.are_distinct.Goals as goal

pub returns-then-not-branch : goal.returns-then-not-branch
returns-then-not-branch c =
    let there = was_there c.in_ok-insert.field-0 _ c.in_ok-insert.ensures.added c.if-not-branch.true in
    record { value = new_fails c.args.names.now c.loop-name.name-index _ _ c.loop-name-test.true (sym (c.loop-name.invariant.seen (get_or c.args.names.now c.loop-name.name-index _)) ∙ there) c.loop-name.invariant.same }

pub loop-name-preserved : goal.loop-name-preserved
loop-name-preserved c =
    let absent = was_new c.in_ok-insert.field-0 _ c.in_ok-insert.ensures.added c.if-not-branch.false in
    record {
      same = new_passes c.args.names.now c.loop-name.name-index _ _ c.loop-name-test.true (sym (c.loop-name.invariant.seen (get_or c.args.names.now c.loop-name.name-index _)) ∙ absent) c.loop-name.invariant.same;
      seen = λ q. added_name c.args.names.now c.loop-name.name-index _ q.now _ _ c.loop-name-test.true (c.in_ok-insert.ensures.updates.0 q) (c.loop-name.invariant.seen q);
    }

pub returns : goal.returns
returns c = record { value = new_passed c.args.names.now c.loop-name.name-index _ c.loop-name-test.false c.loop-name.invariant.same }
