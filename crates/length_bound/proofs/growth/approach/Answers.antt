use Rattle.std.proofs.Common.{◌≡◌, ℤ, pos, ◌+◌, List, get_or, set, rules, sym, ap, ◌∙◌, subst, arith, w64, to_z, of_z, FitsSigned}
use Rattle.std.specs.Prelude.{◌≤ℤ◌}
use Rattle.std.proofs.lemmas.Int.{ints}
use Rattle.length_bound.proofs.Growths.{Lowered, lowered_here, lowered_passed}
use Rattle.length_bound.proofs.growth.approach.Goals as goal
use Rattle.length_bound.proofs.growth.approach.Goals.{then-way-near, else-way-near}

pub loop-j-preserved : goal.loop-j-preserved
loop-j-preserved c =
    let row = c.args.row.now in
    let near = c.loop-j.near in
    let k = c.args.k in
    let j = c.loop-j.j in
    let way = c.distance-way.result in
    let small = c.distance-way.ensures.small in
    let g : FitsSigned w64 (get_or near j (pos 0)) = search rules in
    let so_far : Lowered c.args.n row c.args.near.now near k j = record { small = c.loop-j.invariant.small; before = c.loop-j.invariant.before; lower = c.loop-j.invariant.lower; under = c.loop-j.invariant.under } in
    elim c.if-way-near.branch [
      | then-way-near w ↦
          let le : way ≤ℤ get_or near j (pos 0) = (let t = w.if-way-near.true in omega (arith, ints)) in
          let kept : to_z w64 (of_z w64 way) ≡ way = omega (arith, ints) in
          let is : c.if-way-near.near ≡ set near j way = w.near-is ∙ ap (set near j) kept in
          let r : Lowered c.args.n row c.args.near.now c.if-way-near.near k (j + 1) =
          subst (λ (l : List ℤ). Lowered c.args.n row c.args.near.now l k (j + 1)) (sym is) (lowered_here c.args.n row c.args.near.now near k j way (omega arith) (omega arith) so_far c.distance-way.ensures.under small le) in
          record { small = r.small; before = r.before; lower = r.lower; under = r.under }
      | else-way-near w ↦
          let le : get_or near j (pos 0) ≤ℤ way = (let t = w.if-way-near.false in omega (arith, ints)) in
          let r : Lowered c.args.n row c.args.near.now c.if-way-near.near k (j + 1) =
          subst (λ (l : List ℤ). Lowered c.args.n row c.args.near.now l k (j + 1)) (sym w.near-is) (lowered_passed c.args.n row c.args.near.now near k j way (omega arith) (omega arith) so_far c.distance-way.ensures.under le) in
          record { small = r.small; before = r.before; lower = r.lower; under = r.under }
    ]
