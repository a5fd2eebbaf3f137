-- A chain's length as a walk over its units, and walks over joined lists.
use Rattle.std.proofs.Common.{◌≡◌, ℕ, ◌+◌, ◌-◌, ◌<◌, ◌≤◌, List, [], ◌∷◌, ◌++◌, length, take, get_or, Option, refl, ap, ◌∙◌, arith, slice_get, sum}
use Rattle.std.proofs.lemmas.List.{take_more}
use Rattle.std.proofs.lemmas.List.Sums.{sum_by-cons}
use Rattle.base_types.specs.declared.span.Point.{Point}
use Rattle.wire_cost.specs.Lengths.{ChainEnds, link_of, links_from, length_of, end_of, first_of}

abbrev pub entry_at : ChainEnds → ℕ → Option Point
entry_at w u = slice_get w.entry u

abbrev pub exit_at : ChainEnds → ℕ → Option Point
exit_at w u = slice_get w.exit u

-- the wire from the point p over the units to the stop
abbrev pub walk : ChainEnds → Option Point → List ℕ → ℕ
walk w p [] = link_of p w.stop
walk w p (u ∷ us) = link_of p (slice_get w.entry u) + walk w (slice_get w.exit u) us

pub sum-links : (w : ChainEnds) (p : Option Point) (us : List ℕ) → sum (links_from w p us) ≡ walk w p us
sum-links w p [] = omega arith
sum-links w p (u ∷ us) = sum_by-cons (λ x. x) (link_of p (entry_at w u)) (links_from w (exit_at w u) us) ∙ ap (λ n. link_of p (entry_at w u) + n) (sum-links w (exit_at w u) us)

pub length-walk : (w : ChainEnds) (us : List ℕ) → length_of w us ≡ walk w w.start us
length-walk w us = sum-links w w.start us

pub end_of_push : (exit : List Point) (x : Option Point) (a : List ℕ) (u : ℕ) → end_of exit x (a ++ u ∷ []) ≡ slice_get exit u
end_of_push exit x [] u = refl
end_of_push exit x (v ∷ a) u = end_of_push exit (slice_get exit v) a u

pub end_of-take : (exit : List Point) (x : Option Point) (us : List ℕ) (i : ℕ) → 0 < i → i ≤ length us → end_of exit x (take i us) ≡ slice_get exit (get_or us (i - 1) 0)
end_of-take exit x us i p q =
    let n : i ≡ (i - 1) + 1 = omega arith in
    ap (λ (k : ℕ). end_of exit x (take k us)) n ∙ ap (end_of exit x) (take_more us (i - 1) 0 (omega arith)) ∙ end_of_push exit x (take (i - 1) us) (get_or us (i - 1) 0)

-- two walks that begin with the same units differ by what follows these
pub walk-append : (w : ChainEnds) (x : Option Point) (a y z : List ℕ) → walk w x (a ++ y) + walk w (end_of w.exit x a) z ≡ walk w x (a ++ z) + walk w (end_of w.exit x a) y
walk-append w x [] y z = omega arith
walk-append w x (u ∷ a) y z = omega (arith, walk-append w (exit_at w u) a y z)

abbrev pub rest_of : ChainEnds → List ℕ → ℕ
rest_of w [] = 0
rest_of w (u ∷ us) = walk w (exit_at w u) us

pub walk-after : (w : ChainEnds) (x : Option Point) (c : List ℕ) → walk w x c ≡ link_of x (first_of w.entry w.stop c) + rest_of w c
walk-after w x [] = omega arith
walk-after w x (u ∷ c) = refl
