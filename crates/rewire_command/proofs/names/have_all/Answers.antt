use Rattle.std.proofs.Common.{sym, ◌∙◌, get_or}
use Rattle.rewire_command.proofs.NameLists.{all_passes, all_fails, all_passed}
use Rattle.rewire_command.specs.Names.{now_of}
use Rattle.rewire_command.proofs.names.have_all.Goals as goal

pub returns-then-not-contains : goal.returns-then-not-contains
returns-then-not-contains c = record {
  value = all_fails (now_of c.args.names.now) c.args.others.now c.loop-other.other-index _ _ c.loop-other-test.true
      (sym (c.in_ok-set.ensures.value (get_or c.args.others.now c.loop-other.other-index _)) ∙ (sym c.contains.ensures ∙ c.if-not-contains.true)) c.loop-other.invariant;
}

pub loop-other-preserved : goal.loop-other-preserved
loop-other-preserved c =
    all_passes (now_of c.args.names.now) c.args.others.now c.loop-other.other-index _ _ c.loop-other-test.true
    (sym (c.in_ok-set.ensures.value (get_or c.args.others.now c.loop-other.other-index _)) ∙ (sym c.contains.ensures ∙ c.if-not-contains.false)) c.loop-other.invariant

pub returns : goal.returns
returns c = record { value = all_passed (now_of c.args.names.now) c.args.others.now c.loop-other.other-index _ c.loop-other-test.false c.loop-other.invariant }
