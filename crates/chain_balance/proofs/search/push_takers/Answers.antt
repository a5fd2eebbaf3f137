use Rattle.std.proofs.Common.{arith}
use Rattle.chain_balance.proofs.Reaching.{grown_none, grown_on}
use Rattle.chain_balance.proofs.search.push_takers.Goals as goal

pub loop-taker-init : goal.loop-taker-init
loop-taker-init c = record {
  search = c.requires.search;
  grown = grown_none c.args.search.now;
  near = c.requires.near;
  none = λ taker giver l. absurd (omega arith);
}

pub loop-taker-preserved : goal.loop-taker-preserved
loop-taker-preserved c = record {
  search = c.in_ok-push_taker.ensures.search;
  grown = grown_on c.args.search.now c.loop-taker.search c.push_taker.new.search c.loop-taker.invariant.grown c.in_ok-push_taker.ensures.grown;
  near = c.in_ok-push_taker.ensures.near c.if-branch.false;
  none = c.in_ok-push_taker.ensures.none c.if-branch.false;
}

pub returns-then-branch-clause-grown : goal.returns-then-branch-clause-grown
returns-then-branch-clause-grown c = grown_on c.args.search.now c.loop-taker.search c.push_taker.new.search c.loop-taker.invariant.grown c.in_ok-push_taker.ensures.grown
