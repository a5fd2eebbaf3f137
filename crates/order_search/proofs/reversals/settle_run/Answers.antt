use Rattle.std.proofs.Common.{ℕ, ◌<◌, List, drop, ◌∙◌, ap, arith}
use Rattle.std.proofs.lemmas.List.Sorted.{IsPermutation-trans}
use Rattle.wire_cost.specs.Lengths.{chain_length_of}
use Rattle.order_search.proofs.Turns.{chain_moved, tail_kept}
use Rattle.order_search.proofs.reversals.settle_run.Goals as goal

pub fill-requires-in-Some-clause-chain : goal.fill-requires-in-Some-clause-chain
fill-requires-in-Some-clause-chain c = chain_moved c.args.ends.now c.args.chain c.gains.units c.reverse_run.new.units c.reverse_run.ensures.permutation c.gains.invariant.chain

pub gains-preserved : goal.gains-preserved
gains-preserved c =
    let us : List ℕ = c.gains.units in
    let vs : List ℕ = c.reverse_run.new.units in
    let less : chain_length_of c.args.ends.now c.args.chain vs < chain_length_of c.args.ends.now c.args.chain us = (let e = ap (chain_length_of c.args.ends.now c.args.chain) c.reverse_run.ensures.after in omega (arith, e, c.in-Some.ensures.found.1)) in
    record {
      chain = chain_moved c.args.ends.now c.args.chain us vs c.reverse_run.ensures.permutation c.gains.invariant.chain;
      filled = record {
        forward_count = c.fill-in-Some.ensures.forward_count;
        forward = c.fill-in-Some.ensures.forward;
        backward_count = c.fill-in-Some.ensures.backward_count;
        backward = c.fill-in-Some.ensures.backward;
        rows = c.fill-in-Some.ensures.rows;
        block_rows = c.fill-in-Some.ensures.block_rows;
      };
      room = c.fill-in-Some.ensures.room ∙ c.gains.invariant.room;
      permutation = IsPermutation-trans c.args.units.now us vs c.gains.invariant.permutation c.reverse_run.ensures.permutation;
      tail = ap (drop c.args.limit) c.reverse_run.ensures.after ∙ tail_kept us c.places.i c.in-Some.m c.args.limit c.in-Some.ensures.found.0 (omega arith) ∙ c.gains.invariant.tail;
      progress = omega arith;
      settled = λ h. cc;
      shorter = omega (arith, less, c.gains.invariant.shorter, c.saturating_add.ensures);
      still = λ h. absurd (omega (arith, c.saturating_add.ensures));
    }
