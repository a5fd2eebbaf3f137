use Rattle.std.proofs.Common.{◌≡◌, ℕ, pos, List, length, rules, sym, subst, arith, w64, FitsSigned}
use Rattle.std.specs.Prelude.{◌≤ℤ◌}
use Rattle.std.proofs.lemmas.Int.{ints, clamps}
use Rattle.std.proofs.lemmas.Bool.Decides.{nat_tests}
use Rattle.wire_cost.specs.Lengths.{chain_ends, length_of}
use Rattle.length_bound.proofs.Growths.{empty_order}
use Rattle.length_bound.proofs.trees.tree.Goals as goal

pub returns-then-is_empty : goal.returns-then-is_empty
returns-then-is_empty c =
    let none : length c.args.units.now ≡ 0 = grind (arith, nat_tests) in
    let is = c.wire_of-length.ensures.value in
    record {
      below = λ vs same.
          subst (λ (us : List ℕ). pos c.wire_of-length.result ≤ℤ pos (length_of (chain_ends c.args.ends.now c.args.chain) us)) (sym (empty_order c.args.units.now vs none same)) (omega (arith, ints));
    }

pub loop-round-preserved : goal.loop-round-preserved
loop-round-preserved c =
    let g : FitsSigned w64 c.max-best.result = search rules in
    let is = c.max-best.ensures.value in
    let some = c.loop-round.invariant.some in
    record {
      count = omega arith;
      light = c.move_weights.ensures.light;
      some = omega (arith, ints, clamps);
      below = λ vs same.
          let one = c.loop-round.invariant.below vs same in
          let two = c.in_ok-tree.ensures.below vs same in
          omega (arith, ints, clamps);
    }
