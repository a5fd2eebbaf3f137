use Rattle.std.proofs.Common.{◌≡◌, ◌≤◌, pos, rules, arith, w64, FitsSigned}
use Rattle.std.proofs.lemmas.Int.{ints}
use Rattle.std.proofs.Math.Nat.{le-max_right, max-le}
use Rattle.wire_cost.specs.Lengths.{chain_ends, length_of}
use Rattle.length_bound.specs.Certificates.{value_of}
use Rattle.length_bound.specs.Growth.{IsBelowOrders}
use Rattle.bound_command.proofs.Pushed.{least_some}
use Rattle.bound_command.proofs.chains.bound_of.Goals as goal

pub returns : goal.returns
returns c =
    let w = chain_ends c.args.ends.now c.args.chain in
    let us = c.args.units.now in
    let p = c.in_ok-potentials.potentials in
    let known = c.in_ok-potentials.ensures in
    let some = least_some w us p known.least in
    let above = known.value in
    let is = c.value.ensures.value in
    let g : FitsSigned w64 c.value.result = search rules in
    let kept = c.unsigned_abs-bound.ensures in
    let value : pos c.unsigned_abs-bound.result ≡ value_of p = omega (arith, ints) in
    let below : IsBelowOrders w us (pos c.unsigned_abs-bound.result) = λ vs same. let h = c.bound_law.ensures.law w us vs p c.requires.some known.certificate same in omega (arith, ints) in
    record {
      value = record {
        read = c.wire_of-length.ensures.value;
        certificate = known.certificate;
        value = value;
        below = below;
        least = known.least;
        above = omega (arith, ints);
        tree = λ vs same.
            let one = below vs same in
            let two = c.in_ok-tree_of.ensures.below vs same in
            let a : c.unsigned_abs-bound.result ≤ length_of w vs = omega (arith, ints) in
            let b : c.in_ok-tree_of.field-0 ≤ length_of w vs = omega (arith, ints) in
            let both : c.max-tree.result ≤ length_of w vs = rw c.max-tree.ensures (max-le b a) in
            omega (arith, ints);
        no_less = rw c.max-tree.ensures (le-max_right c.in_ok-tree_of.field-0 c.unsigned_abs-bound.result);
      };
    }
