use Rattle.std.proofs.Common.{length}
use Rattle.std.proofs.lemmas.List.{take_rest}
use Rattle.stil_head.proofs.HeadWalk.{turn_passed, turn_within, turn_ends, turn_stops, ends_last, placed}
use Rattle.stil_head.proofs.ends.head_len.Goals as goal

pub loop-at-preserved : goal.loop-at-preserved
loop-at-preserved c =
    let cut = take_rest c.args.bytes.now c.loop-at.at in
    record {
      within = turn_within c.args.bytes.now _ c.loop-at.at c.loop-at.comment _ c.loop-at-test.true cut c.loop-at.invariant.same c.in-Some.turn c.in-Passed.len c.in-Passed.next c.in-Some.ensures.within c.in-Passed.is;
      same = turn_passed c.args.bytes.now _ c.loop-at.at c.loop-at.comment _ c.loop-at-test.true cut c.loop-at.invariant.same c.in-Some.turn c.in-Passed.len c.in-Passed.next c.in-Some.ensures.value c.in-Some.ensures.within c.in-Passed.is;
    }

-- the three ends of the walk
pub returns-in-Here-clause-value : goal.returns-in-Here-clause-value
returns-in-Here-clause-value c =
    turn_ends c.args.bytes.now _ c.loop-at.at c.loop-at.comment _ c.loop-at-test.true (take_rest c.args.bytes.now c.loop-at.at) c.loop-at.invariant.same c.in-Some.turn c.in-Some.ensures.value c.in-Here.is

pub returns-clause-value : goal.returns-clause-value
returns-clause-value c = ends_last c.args.bytes.now c.loop-at.at _ c.loop-at.comment c.loop-at.invariant.within c.loop-at-test.false c.loop-at.invariant.same

pub returns-in_default-clause-value : goal.returns-in_default-clause-value
returns-in_default-clause-value c =
    turn_stops c.args.bytes.now _ c.loop-at.at c.loop-at.comment _ c.loop-at-test.true (take_rest c.args.bytes.now c.loop-at.at) c.loop-at.invariant.same c.in_default.ensures.value

pub returns-in-Here-clause-tokens : goal.returns-in-Here-clause-tokens
returns-in-Here-clause-tokens c = placed c.args.bytes.now c.loop-at.at (returns-in-Here-clause-value c)

pub returns-clause-tokens : goal.returns-clause-tokens
returns-clause-tokens c = placed c.args.bytes.now c.loop-at.at (returns-clause-value c)

pub returns-in_default-clause-tokens : goal.returns-in_default-clause-tokens
returns-in_default-clause-tokens c = placed c.args.bytes.now (length c.args.bytes.now) (returns-in_default-clause-value c)
