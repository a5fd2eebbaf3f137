use Rattle.std.proofs.Common.{ℕ, ℤ, pos, ◌+◌, get_or, arith}
use Rattle.std.proofs.lemmas.List.{length-set}
use Rattle.wire_cost.proofs.Places.{difference_stored}
use Rattle.wire_cost.proofs.rows.fill_turned.Goals as goal

pub loop-k-preserved : goal.loop-k-preserved
loop-k-preserved c =
    let k = c.loop-k.k in
    record {
      count = omega (arith, length-set {A = ℤ});
      each = difference_stored c.loop-k.turned (λ (j : ℕ). get_or c.args.backward.now (j + 1) (pos 0)) (λ (j : ℕ). get_or c.args.forward.now (j + 2) (pos 0)) k (omega arith) (c.requires.small_back (k + 1) (omega arith)) (c.requires.small (k + 2) (omega arith)) c.loop-k.invariant.each;
    }
