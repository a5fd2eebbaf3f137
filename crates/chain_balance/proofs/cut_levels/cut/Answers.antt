use Rattle.std.proofs.Common.{◌≡◌, ◌<◌, arith}
use Rattle.std.specs.Prelude.{count_by, nat_eq}
use Rattle.chain_balance.specs.Balance.{longest}
use Rattle.chain_balance.specs.Searches.{IsEnd}
use Rattle.chain_balance.proofs.Answered.{match_some, match_none}
use Rattle.chain_balance.proofs.Levels.{work_next, next_is, lower_still, longest_at}
use Rattle.chain_balance.proofs.Evens.{even_from_none}
use Rattle.chain_balance.proofs.cut_levels.cut.Goals as goal

pub loop-cut-init : goal.loop-cut-init
loop-cut-init c = record {
  is = work_next c.args.rules.now c.args.fixed.now c.args.work.now (longest c.args.rules.now c.args.fixed.now c.args.work.now.plan) c.greatest-most.result c.as_slice.result.now c.requires.is c.as_slice.ensures.value c.greatest-most.ensures.value;
  most = next_is c.args.rules.now c.args.fixed.now c.args.work.now (longest c.args.rules.now c.args.fixed.now c.args.work.now.plan) c.greatest-most.result c.as_slice.result.now c.requires.is c.as_slice.ensures.value c.greatest-most.ensures.value;
  no_longer = omega arith;
}

pub returns-in-Some-clause-even : goal.returns-in-Some-clause-even
returns-in-Some-clause-even c =
    let end : IsEnd c.args.rules.now c.args.fixed.now c.cut_level.new.work c.loop-cut.most c.in-Some.set.items
    = match_some c.in_ok-cut.cut (count_by (nat_eq c.loop-cut.most) c.cut_level.new.work.paths.items ≡ 0) (λ set. IsEnd c.args.rules.now c.args.fixed.now c.cut_level.new.work c.loop-cut.most set.items) c.in-Some.set c.in_ok-cut.ensures.value c.in-Some.is in
    even_from_none c.args.rules.now c.args.fixed.now c.cut_level.new.work.plan c.cut_level.new.work.paths.items c.loop-cut.most c.in_ok-cut.ensures.is.level.legal c.requires.paths c.in_ok-cut.ensures.is.level.are
    (longest_at c.args.rules.now c.args.fixed.now c.cut_level.new.work.plan c.cut_level.new.work.paths.items c.loop-cut.most c.in_ok-cut.ensures.is.level end.some) end.none

pub loop-cut-smaller : goal.loop-cut-smaller
loop-cut-smaller c =
    let none : count_by (nat_eq c.loop-cut.most) c.cut_level.new.work.paths.items ≡ 0
    = match_none c.in_ok-cut.cut (count_by (nat_eq c.loop-cut.most) c.cut_level.new.work.paths.items ≡ 0) (λ set. IsEnd c.args.rules.now c.args.fixed.now c.cut_level.new.work c.loop-cut.most set.items) c.in_ok-cut.ensures.value c.in_default.is in
    let less : longest c.args.rules.now c.args.fixed.now c.cut_level.new.work.plan < c.loop-cut.most
    = lower_still c.args.rules.now c.args.fixed.now c.cut_level.new.work c.loop-cut.most c.in_ok-cut.ensures.is c.requires.some none in
    omega (arith, less, next_is c.args.rules.now c.args.fixed.now c.cut_level.new.work c.loop-cut.most c.greatest-most-in-loop-cut.result c.as_slice-in-loop-cut.result.now c.in_ok-cut.ensures.is c.as_slice-in-loop-cut.ensures.value c.greatest-most-in-loop-cut.ensures.value)

pub loop-cut-preserved : goal.loop-cut-preserved
loop-cut-preserved c =
    let none : count_by (nat_eq c.loop-cut.most) c.cut_level.new.work.paths.items ≡ 0
    = match_none c.in_ok-cut.cut (count_by (nat_eq c.loop-cut.most) c.cut_level.new.work.paths.items ≡ 0) (λ set. IsEnd c.args.rules.now c.args.fixed.now c.cut_level.new.work c.loop-cut.most set.items) c.in_ok-cut.ensures.value c.in_default.is in
    let less : longest c.args.rules.now c.args.fixed.now c.cut_level.new.work.plan < c.loop-cut.most
    = lower_still c.args.rules.now c.args.fixed.now c.cut_level.new.work c.loop-cut.most c.in_ok-cut.ensures.is c.requires.some none in
    record {
      is = work_next c.args.rules.now c.args.fixed.now c.cut_level.new.work c.loop-cut.most c.greatest-most-in-loop-cut.result c.as_slice-in-loop-cut.result.now c.in_ok-cut.ensures.is c.as_slice-in-loop-cut.ensures.value c.greatest-most-in-loop-cut.ensures.value;
      most = next_is c.args.rules.now c.args.fixed.now c.cut_level.new.work c.loop-cut.most c.greatest-most-in-loop-cut.result c.as_slice-in-loop-cut.result.now c.in_ok-cut.ensures.is c.as_slice-in-loop-cut.ensures.value c.greatest-most-in-loop-cut.ensures.value;
      no_longer = omega (arith, less, c.loop-cut.invariant.most, c.loop-cut.invariant.no_longer);
    }
