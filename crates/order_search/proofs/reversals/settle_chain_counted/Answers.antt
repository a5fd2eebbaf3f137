use Rattle.std.proofs.Common.{arith, ◌≤◌, length}
use Rattle.order_search.proofs.Pinned.{chain_settled, pinned_kept}
use Rattle.order_search.proofs.Different.{few_different}
use Rattle.order_search.proofs.reversals.settle_chain_counted.Goals as goal

pub settle_run-requires-clause-chain : goal.settle_run-requires-clause-chain
settle_run-requires-clause-chain c =
    let f : length c.args.units.now ≤ length c.args.rules.now.units = few_different c.args.units.now (length c.args.rules.now.units) c.requires.different c.requires.units in
    record {
      start = omega arith;
      stop = omega arith;
      entry = λ k l. (let h = c.requires.units k l in omega arith);
      exit = λ k l. (let h = c.requires.units k l in omega arith);
      few = omega arith;
    }

pub returns-clause-pinned : goal.returns-clause-pinned
returns-clause-pinned c = pinned_kept c.args.rules.now c.args.units.now c.settle_run.new.units c.free_count-limit.result c.free_count-limit.ensures.count c.settle_run.ensures.permutation c.settle_run.ensures.tail c.requires.pinned

pub returns-clause-settled : goal.returns-clause-settled
returns-clause-settled c = chain_settled c.args.rules.now c.args.ends.now c.args.chain c.args.units.now c.settle_run.new.units c.free_count-limit.result c.free_count-limit.ensures.count c.settle_run.ensures.permutation c.settle_run.ensures.tail c.requires.different c.settle_run.ensures.settled
