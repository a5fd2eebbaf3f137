use Rattle.std.proofs.Common.{◌≡◌, ℕ, ℤ, pos, ◌+◌, ap, ◌∙◌, arith, length, take}
use Rattle.std.proofs.lemmas.List.{length-set}
use Rattle.wire_cost.specs.Lengths.{ChainEnds, forward_sum, end_of}
use Rattle.wire_cost.proofs.FirstLinks.{forward_step, stored, smalls_more, end_of_more, first_of_at, first_of_none}
use Rattle.wire_cost.proofs.sums.fill_row.Goals as goal

pub loop-i-preserved : goal.loop-i-preserved
loop-i-preserved c =
    let w : ChainEnds = record { entry = c.args.entries.now; exit = c.args.exits.now; start = c.args.start; stop = c.args.stop } in
    let us = c.args.units.now in
    let i = c.loop-i.i in
    let n : c.loop-i.total + c.wire-total.result ≡ forward_sum w us (i + 1) =
    forward_step w us i c.loop-i.total c.wire-total.result c.loop-i.at _ (omega arith) c.loop-i.invariant.total c.loop-i.invariant.at (first_of_at w.entry w.stop us i (record { x = pos 0; y = pos 0 }) (omega arith) (c.requires.enter i (omega arith))) c.wire-total.ensures.value in
    record {
      near = c.requires.exits _ _ (c.requires.leave i (omega arith));
      at = end_of_more w.exit w.start us i _ (omega arith) (c.requires.leave i (omega arith));
      total = n;
      small = omega arith;
      count = omega (arith, length-set {A = ℤ});
      smalls = smalls_more w us i (omega (arith, n)) c.loop-i.invariant.smalls;
      sums = stored c.loop-i.row (forward_sum w us) i (c.loop-i.total + c.wire-total.result) (omega (arith, length-set {A = ℤ})) (omega arith) n c.loop-i.invariant.sums;
    }

pub returns : goal.returns
returns c =
    let w : ChainEnds = record { entry = c.args.entries.now; exit = c.args.exits.now; start = c.args.start; stop = c.args.stop } in
    let us = c.args.units.now in
    let i : c.loop-i.i ≡ length us = omega arith in
    let n : c.loop-i.total + c.wire-total-2.result ≡ forward_sum w us (length us + 1) =
    forward_step w us (length us) c.loop-i.total c.wire-total-2.result c.loop-i.at c.args.stop (omega arith) (c.loop-i.invariant.total ∙ ap (forward_sum w us) i) (c.loop-i.invariant.at ∙ ap (λ (k : ℕ). end_of w.exit w.start (take k us)) i) (first_of_none w.entry w.stop us) c.wire-total-2.ensures.value in
    record {
      count = omega (arith, length-set {A = ℤ});
      small = smalls_more w us (length us) (omega (arith, n)) (λ k l. c.loop-i.invariant.smalls k (omega arith));
      sums = stored c.loop-i.row (forward_sum w us) (length us) (c.loop-i.total + c.wire-total-2.result) (omega (arith, length-set {A = ℤ})) (omega arith) n (λ k l. c.loop-i.invariant.sums k (omega arith));
    }
