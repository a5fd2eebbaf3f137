-- Where the links at a place are as short as they can be, no other unit makes them shorter.
use Rattle.std.proofs.Common.{◌≡◌, ℕ, ℤ, ◌+◌, ◌<◌, ◌≤◌, ◌-ℤ◌, Option, None, Some, length, get_or, slice_get, ap, arith, inl, inr, unsigned_abs}
use Rattle.std.proofs.lemmas.Int.{ints}
use Rattle.std.proofs.lemmas.Option.{slice_get_cases}
use Rattle.base_types.specs.declared.span.Point.{Point}
use Rattle.chain_rules.specs.Legality.{IsLegal, chain_at}
use Rattle.chain_rules.specs.declared.plan.Plan.{Plan}
use Rattle.chain_rules.specs.declared.unit.Rules.{Rules}
use Rattle.wire_cost.specs.declared.ends.Ends.{Ends}
use Rattle.wire_cost.specs.Lengths.{chain_ends, gap_of, link_of}
use Rattle.order_search.specs.Searches.{AreSearchable}
use Rattle.order_search.proofs.Legal.{chain_within}
use Rattle.partition_moves.specs.Quiet.{NoCloserSwap}
use Rattle.partition_moves.specs.Straight.{AreNarrow, IsStraightAt}

triangle : (b p n : ℤ) → unsigned_abs (b -ℤ n) ≤ unsigned_abs (b -ℤ p) + unsigned_abs (p -ℤ n)
triangle b p n = omega (arith, ints)

-- the way over two points is no shorter than the straight one
past : (b p q n : Point) → gap_of b n ≤ gap_of b p + gap_of p q + gap_of q n
past b p q n = omega (arith, triangle b.x p.x n.x, triangle p.x q.x n.x, triangle b.y p.y n.y, triangle p.y q.y n.y)

not_closer : (b n x y : Option Point) (p q : Point) (s m : ℕ) → x ≡ Some p → y ≡ Some q → link_of x y ≤ m → s + m ≤ link_of b n → link_of b x + link_of y n < s → ⊥
not_closer None n x y p q s m ex ey narrow straight less = omega (arith, straight, less)
not_closer (Some b) None x y p q s m ex ey narrow straight less = omega (arith, straight, less)
not_closer (Some b) (Some n) x y p q s m ex ey narrow straight less =
    let one : link_of (Some b) x ≡ gap_of b p = ap (link_of (Some b)) ex in
    let two : link_of y (Some n) ≡ gap_of q n = ap (λ (o : Option Point). link_of o (Some n)) ey in
    let three : link_of x y ≡ gap_of p q = λ t. link_of (ex t) (ey t) in
    omega (arith, one, two, three, past b p q n, narrow, straight, less)

-- no exchange with a chain of which each place is so makes the links there shorter
pub no_swap_straight : (rules : Rules) (e : Ends) (p : Plan) (c d m : ℕ) → AreSearchable rules e → IsLegal rules p → c < length p.chains → AreNarrow rules e m
    → ((k : ℕ) → k < length (chain_at p d) → IsStraightAt (chain_ends e d) (chain_at p d) m k) → NoCloserSwap rules e p c d
no_swap_straight rules e p c d m searchable legal hc narrow straight = record {
  each = λ n i hi k hk closer g.
      let u = get_or (chain_at p c) i 0 in
      let within : u < length rules.units = chain_within rules p c hc legal i hi in
      elim (slice_get_cases e.entry u).1 [
        | inl x ↦ elim (slice_get_cases e.exit u).1 [
          | inl y ↦ not_closer _ _ (slice_get e.entry u) (slice_get e.exit u) x.0 y.0 _ m x.2 y.2 (narrow u within) (straight k hk) closer
          | inr y ↦ absurd (omega (arith, y.0, within, searchable.exit))
        ]
        | inr x ↦ absurd (omega (arith, x.0, within, searchable.entry))
      ];
}
