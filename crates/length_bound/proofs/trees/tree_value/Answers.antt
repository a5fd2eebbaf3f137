use Rattle.std.proofs.Common.{◌≡◌, ℕ, ◌+◌, ◌-◌, length, take, drop, ap, ◌∙◌, arith}
use Rattle.std.proofs.lemmas.Int.{ints}
use Rattle.std.proofs.lemmas.List.{length-drop, length-take, take_all}
use Rattle.length_bound.specs.Certificates.{total}
use Rattle.length_bound.proofs.trees.tree_value.Goals as goal

pub returns : goal.returns
returns c =
    let w = c.args.weights.now in
    let n = c.args.units in
    let e : n + 1 - 1 ≡ n = omega arith in
    let near = c.args.near.now in
    let whole : take (length near - 1) (drop 1 near) ≡ drop 1 near = take_all (length near - 1) (drop 1 near) (omega (arith, length-drop 1 near)) in
    let one : c.total.result ≡ total (drop 1 near) = c.total.ensures.value ∙ ap total whole in
    let two : c.total-2.result ≡ total w = c.total-2.ensures.value in
    let three : c.total-3.result ≡ total (take n (drop 1 w)) = c.total-3.ensures.value ∙ ap (λ (m : ℕ). total (take m (drop 1 w))) e in
    let f = c.total.ensures.small in
    let g = c.total.ensures.large in
    let h = c.total-2.ensures.small in
    let i = c.total-2.ensures.large in
    let j = c.total-3.ensures.small in
    let k = c.total-3.ensures.large in
    record { value = omega (arith, ints, length-drop 1 near, length-drop 1 w, length-take (length near - 1) (drop 1 near), length-take (n + 1 - 1) (drop 1 w)) }
