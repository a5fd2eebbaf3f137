use Rattle.std.proofs.Common.{ℕ, List, Option, arith, length, subst}
use Rattle.chain_balance.specs.Searches.{AllGive}
use Rattle.chain_balance.proofs.Reaching.{grown_none, grown_on, closes_round}
use Rattle.chain_balance.proofs.search.search_all.Goals as goal

pub loop-before-init : goal.loop-before-init
loop-before-init c = record {
  search = c.requires.search;
  grown = grown_none c.args.search.now;
  near = c.requires.near;
  within = omega arith;
  closes = λ l. absurd (omega (arith, l, c.requires.search.is.some));
}

pub loop-before-preserved : goal.loop-before-preserved
loop-before-preserved c = record {
  search = c.in_ok-push_takers.ensures.search;
  grown = grown_on c.args.search.now c.loop-before.search c.push_takers.new.search c.loop-before.invariant.grown c.in_ok-push_takers.ensures.grown;
  near = c.in_ok-push_takers.ensures.near c.if-branch.false;
  within = omega (arith, c.in_ok-push_takers.ensures.grown.no_fewer);
  closes = λ l. closes_round c.args.rules.now c.args.work.now c.args.groups.now c.note_givers.new.givers c.loop-before.search c.push_takers.new.search c.requires.groups c.in_ok-push_takers.ensures.grown
      (subst (λ (ns : List (Option ℕ)). AllGive c.args.rules.now c.args.work.now.plan c.args.groups.now ns c.note_givers.new.givers (length c.args.rules.now.chains)) c.as_slice-numbers.ensures.value c.note_givers.ensures.all)
      (c.in_ok-push_takers.ensures.none c.if-branch.false) (omega (arith, l));
}
