use Rattle.std.proofs.Common.{◌≡◌, ◌<◌, arith}
use Rattle.chain_balance.specs.Balance.{longest}
use Rattle.chain_balance.proofs.Levels.{work_next, next_is, lower_after, longest_at, even_of_none}
use Rattle.chain_balance.proofs.Evens.{even_from_none}
use Rattle.chain_balance.proofs.even.lower.Goals as goal

pub loop-most-init : goal.loop-most-init
loop-most-init c = record {
  is = work_next c.args.rules.now c.args.fixed.now c.args.work.now (longest c.args.rules.now c.args.fixed.now c.args.work.now.plan) c.greatest-most.result c.as_slice.result.now c.requires.is c.as_slice.ensures.value c.greatest-most.ensures.value;
  most = next_is c.args.rules.now c.args.fixed.now c.args.work.now (longest c.args.rules.now c.args.fixed.now c.args.work.now.plan) c.greatest-most.result c.as_slice.result.now c.requires.is c.as_slice.ensures.value c.greatest-most.ensures.value;
  no_longer = omega arith;
}

pub returns-then-not-branch-clause-even : goal.returns-then-not-branch-clause-even
returns-then-not-branch-clause-even c =
    let stuck = c.in_ok-lower_level.ensures.stuck c.if-not-branch.true in
    even_from_none c.args.rules.now c.args.fixed.now c.lower_level.new.work.plan c.lower_level.new.work.paths.items c.loop-most.most c.in_ok-lower_level.ensures.is.level.legal c.requires.paths c.in_ok-lower_level.ensures.is.level.are
    (longest_at c.args.rules.now c.args.fixed.now c.lower_level.new.work.plan c.lower_level.new.work.paths.items c.loop-most.most c.in_ok-lower_level.ensures.is.level stuck.0) stuck.1

pub returns-then-not-branch-clause-no_longer : goal.returns-then-not-branch-clause-no_longer
returns-then-not-branch-clause-no_longer c =
    let stuck = c.in_ok-lower_level.ensures.stuck c.if-not-branch.true in
    omega (
      arith,
      longest_at c.args.rules.now c.args.fixed.now c.lower_level.new.work.plan c.lower_level.new.work.paths.items c.loop-most.most c.in_ok-lower_level.ensures.is.level stuck.0,
      c.loop-most.invariant.most,
      c.loop-most.invariant.no_longer,
    )

pub loop-most-smaller : goal.loop-most-smaller
loop-most-smaller c =
    let less : longest c.args.rules.now c.args.fixed.now c.lower_level.new.work.plan < c.loop-most.most
    = lower_after c.args.rules.now c.args.fixed.now c.lower_level.new.work.plan c.lower_level.new.work.paths.items c.loop-most.most c.in_ok-lower_level.ensures.is.level c.loop-most-test.true (c.in_ok-lower_level.ensures.lower c.if-not-branch.false) in
    omega (arith, less, next_is c.args.rules.now c.args.fixed.now c.lower_level.new.work c.loop-most.most c.greatest-most-in-loop-most.result c.as_slice-in-loop-most.result.now c.in_ok-lower_level.ensures.is c.as_slice-in-loop-most.ensures.value c.greatest-most-in-loop-most.ensures.value)

pub loop-most-preserved : goal.loop-most-preserved
loop-most-preserved c =
    let less : longest c.args.rules.now c.args.fixed.now c.lower_level.new.work.plan < c.loop-most.most
    = lower_after c.args.rules.now c.args.fixed.now c.lower_level.new.work.plan c.lower_level.new.work.paths.items c.loop-most.most c.in_ok-lower_level.ensures.is.level c.loop-most-test.true (c.in_ok-lower_level.ensures.lower c.if-not-branch.false) in
    record {
      is = work_next c.args.rules.now c.args.fixed.now c.lower_level.new.work c.loop-most.most c.greatest-most-in-loop-most.result c.as_slice-in-loop-most.result.now c.in_ok-lower_level.ensures.is c.as_slice-in-loop-most.ensures.value c.greatest-most-in-loop-most.ensures.value;
      most = next_is c.args.rules.now c.args.fixed.now c.lower_level.new.work c.loop-most.most c.greatest-most-in-loop-most.result c.as_slice-in-loop-most.result.now c.in_ok-lower_level.ensures.is c.as_slice-in-loop-most.ensures.value c.greatest-most-in-loop-most.ensures.value;
      no_longer = omega (arith, less, c.loop-most.invariant.most, c.loop-most.invariant.no_longer);
    }

pub returns-clause-even : goal.returns-clause-even
returns-clause-even c =
    even_of_none c.args.rules.now c.args.fixed.now c.loop-most.work.plan (let e : longest c.args.rules.now c.args.fixed.now c.loop-most.work.plan ≡ 0 = omega (arith, c.loop-most.invariant.most, c.loop-most-test.false) in e)
