-- The links of a chain by their places, and their sums.
use Rattle.std.proofs.Common.{◌≡◌, ℕ, ◌+◌, ◌-◌, ◌<◌, ◌≤◌, List, [], ◌∷◌, length, take, drop, get_or, Option, Some, slice_get, refl, sym, ap, ◌∙◌, arith, suc, zero, sum, set, inl, inr, subst, ℤ, pos, to_z, w64, ◌^◌, ◌*◌}
use Rattle.std.proofs.lemmas.List.Sums.{sum_by_more}
use Rattle.std.proofs.lemmas.List.{take_all, drop_more, drop_all, get_or-set_same, get_or-set_other}
use Rattle.std.proofs.lemmas.Option.{slice_get-get_or}
use Rattle.std.proofs.lemmas.Bool.{cases_lt}
use Rattle.std.proofs.lemmas.Int.{to_z_pos}
use Rattle.base_types.specs.declared.span.Point.{Point}
use Rattle.wire_cost.specs.Lengths.{ChainEnds, link_of, links_from, links_of, length_of, forward_sum, end_of, first_of}
use Rattle.wire_cost.proofs.Walks.{exit_at, end_of-take}

pub length-links : (w : ChainEnds) (p : Option Point) (us : List ℕ) → length (links_from w p us) ≡ length us + 1
length-links w p [] = refl
length-links w p (u ∷ us) = omega (arith, length-links w (exit_at w u) us)

-- the link at place i
pub link_at : (w : ChainEnds) (p : Option Point) (us : List ℕ) (i : ℕ) → i ≤ length us → get_or (links_from w p us) i 0 ≡ link_of (end_of w.exit p (take i us)) (first_of w.entry w.stop (drop i us))
link_at w p [] zero h = refl
link_at w p [] (suc i) h = absurd (omega arith)
link_at w p (u ∷ us) zero h = refl
link_at w p (u ∷ us) (suc i) h = link_at w (exit_at w u) us i (omega arith)

-- one link more
pub forward_more : (w : ChainEnds) (us : List ℕ) (i : ℕ) → i ≤ length us → forward_sum w us (i + 1) ≡ forward_sum w us i + link_of (end_of w.exit w.start (take i us)) (first_of w.entry w.stop (drop i us))
forward_more w us i h = sum_by_more (λ x. x) (links_of w us) i 0 (omega (arith, length-links w w.start us)) ∙ ap (λ n. forward_sum w us i + n) (link_at w w.start us i h)

pub forward_all : (w : ChainEnds) (us : List ℕ) → forward_sum w us (length us + 1) ≡ length_of w us
forward_all w us = ap sum (take_all (length us + 1) (links_of w us) (omega (arith, length-links w w.start us)))

-- the step of a sum, from what the calls gave
pub forward_step : (w : ChainEnds) (us : List ℕ) (i t d : ℕ) (b a : Option Point) → i ≤ length us → t ≡ forward_sum w us i → b ≡ end_of w.exit w.start (take i us) → a ≡ first_of w.entry w.stop (drop i us) → d ≡ link_of b a → t + d ≡ forward_sum w us (i + 1)
forward_step w us i t d b a h et eb ea ed = let f : d ≡ link_of (end_of w.exit w.start (take i us)) (first_of w.entry w.stop (drop i us)) = ed ∙ (λ n. link_of (eb n) (ea n)) in omega (arith, f, forward_more w us i h)

-- one sum more is stored
pub stored : (xs : List ℤ) (f : ℕ → ℕ) (i n : ℕ) → i + 1 < length xs → n < 2 ^ 63 → n ≡ f (i + 1) → ((k : ℕ) → k ≤ i → get_or xs k (pos 0) ≡ pos (f k)) → (k : ℕ) → k ≤ i + 1 → get_or (set xs (i + 1) (to_z w64 n)) k (pos 0) ≡ pos (f k)
stored xs f i n l s e h k m = elim (cases_lt k (i + 1)) [
  | inl a ↦ get_or-set_other xs (i + 1) k (to_z w64 n) (pos 0) (λ q. omega arith) ∙ h k (omega arith)
  | inr b ↦ (let q : i + 1 ≡ k = omega arith in
      subst (λ (j : ℕ). get_or (set xs (i + 1) (to_z w64 n)) j (pos 0) ≡ pos (f j)) q (get_or-set_same xs (i + 1) (to_z w64 n) (pos 0) l ∙ to_z_pos w64 n s ∙ ap pos e))
]

-- one sum more is small
pub smalls_more : (w : ChainEnds) (us : List ℕ) (i : ℕ) → forward_sum w us (i + 1) ≤ 2 ^ 43 * (i + 1) → ((k : ℕ) → k ≤ i → forward_sum w us k ≤ 2 ^ 43 * k) → (k : ℕ) → k ≤ i + 1 → forward_sum w us k ≤ 2 ^ 43 * k
smalls_more w us i p h k m = elim (cases_lt k (i + 1)) [
  | inl a ↦ h k (omega arith)
  | inr b ↦ (let q : i + 1 ≡ k = omega arith in subst (λ (j : ℕ). forward_sum w us j ≤ 2 ^ 43 * j) q p)
]

-- where one comes from after the unit at place i, and where one goes to at it
pub end_of_more : (exit : List Point) (x : Option Point) (us : List ℕ) (i : ℕ) (d : Point) → i < length us → get_or us i 0 < length exit → Some (get_or exit (get_or us i 0) d) ≡ end_of exit x (take (i + 1) us)
end_of_more exit x us i d l m =
    let n : get_or us (i + 1 - 1) 0 ≡ get_or us i 0 = ap (λ (k : ℕ). get_or us k 0) (omega arith) in
    sym (end_of-take exit x us (i + 1) (omega arith) (omega arith) ∙ ap (slice_get exit) n ∙ slice_get-get_or exit (get_or us i 0) d m)

pub first_of_at : (entry : List Point) (stop : Option Point) (us : List ℕ) (i : ℕ) (d : Point) → i < length us → get_or us i 0 < length entry → Some (get_or entry (get_or us i 0) d) ≡ first_of entry stop (drop i us)
first_of_at entry stop us i d l m = sym (ap (first_of entry stop) (drop_more us i 0 l) ∙ slice_get-get_or entry (get_or us i 0) d m)

pub first_of_none : (entry : List Point) (stop : Option Point) (us : List ℕ) → stop ≡ first_of entry stop (drop (length us) us)
first_of_none entry stop us = sym (ap (first_of entry stop) (drop_all (length us) us (omega arith)))
