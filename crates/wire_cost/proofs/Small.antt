-- The points that a chain comes to and from are near, and the sums of its links small.
use Rattle.std.proofs.Common.{◌≡◌, ℕ, zero, suc, ℤ, pos, ◌+◌, ◌*◌, ◌^◌, ◌≤◌, List, [], ◌∷◌, length, take, drop, Option, Some, None, slice_get, ap, arith}
use Rattle.std.specs.Prelude.{◌-ℤ◌, unsigned_abs}
use Rattle.std.proofs.lemmas.Int.{ints}
use Rattle.base_types.specs.declared.span.Point.{Point}
use Rattle.wire_cost.specs.declared.ends.Ends.{Ends}
use Rattle.wire_cost.specs.Lengths.{AreNear, ArePlaced, ChainEnds, IsChainAt, IsNear, IsNearOrNowhere, chain_ends, end_of, exchanged, first_of, forward_sum, link_of}
use Rattle.wire_cost.specs.Rows.{x_of, y_of, next_at}
use Rattle.wire_cost.proofs.FirstLinks.{forward_more}

-- every point that a chain comes to or from is near
pub record HasNearEnds (w : ChainEnds) : Type 0 where
  pub entry : AreNear w.entry
  pub exit : AreNear w.exit
  pub start : IsNearOrNowhere w.start
  pub stop : IsNearOrNowhere w.stop

pub near_ends : (e : Ends) (c : ℕ) (us : List ℕ) → ArePlaced e → IsChainAt e c us → HasNearEnds (chain_ends e c)
near_ends e c us p g = record { entry = p.entry; exit = p.exit; start = p.start c None g.start; stop = p.stop c None g.stop }

pub near_exchanged : (w : ChainEnds) → HasNearEnds w → HasNearEnds (exchanged w)
near_exchanged w n = record { entry = n.exit; exit = n.entry; start = n.start; stop = n.stop }

near_at : (ps : List Point) (u : ℕ) → AreNear ps → IsNearOrNowhere (slice_get ps u)
near_at [] u h = tt
near_at (p ∷ ps) zero h = h 0 p (omega arith)
near_at (p ∷ ps) (suc u) h = near_at ps u (λ k d l. h (suc k) d (omega arith))

pub near_end : (exit : List Point) (x : Option Point) (us : List ℕ) → AreNear exit → IsNearOrNowhere x → IsNearOrNowhere (end_of exit x us)
near_end exit x [] h n = n
near_end exit x (u ∷ us) h n = near_end exit (slice_get exit u) us h (near_at exit u h)

pub near_first : (entry : List Point) (stop : Option Point) (us : List ℕ) → AreNear entry → IsNearOrNowhere stop → IsNearOrNowhere (first_of entry stop us)
near_first entry stop [] h n = n
near_first entry stop (u ∷ us) h n = near_at entry u h

way_small : (a b : ℤ) → unsigned_abs a ≤ 2 ^ 41 → unsigned_abs b ≤ 2 ^ 41 → unsigned_abs (a -ℤ b) ≤ 2 ^ 42
way_small a b p q = omega (arith, ints)

link_small : (a b : Option Point) → IsNearOrNowhere a → IsNearOrNowhere b → link_of a b ≤ 2 ^ 43
link_small None b p q = omega arith
link_small (Some a) None p q = omega arith
link_small (Some a) (Some b) p q =
    let m : IsNear a = p in
    let n : IsNear b = q in
    omega (arith, way_small a.x b.x m.x n.x, way_small a.y b.y m.y n.y)

pub forward_small : (w : ChainEnds) (us : List ℕ) (k : ℕ) → HasNearEnds w → k ≤ length us + 1 → forward_sum w us k ≤ 2 ^ 43 * k
forward_small w us zero n h = omega arith
forward_small w us (suc k) n h =
    let next : k + 1 ≡ suc k = omega arith in
    let one : forward_sum w us (k + 1) ≡ forward_sum w us (suc k) = ap (forward_sum w us) next in
    let link : link_of (end_of w.exit w.start (take k us)) (first_of w.entry w.stop (drop k us)) ≤ 2 ^ 43
    = link_small (end_of w.exit w.start (take k us)) (first_of w.entry w.stop (drop k us)) (near_end w.exit w.start (take k us) n.exit n.start) (near_first w.entry w.stop (drop k us) n.entry n.stop)
    in
    omega (arith, one, link, forward_more w us k (omega arith), forward_small w us k n (omega arith))

-- each sum of the links of a chain is small
pub sum_small : (w : ChainEnds) (us : List ℕ) (k : ℕ) → HasNearEnds w → length us ≤ 65536 → k ≤ length us + 1 → forward_sum w us k ≤ 2 ^ 60
sum_small w us k n f h = omega (arith, forward_small w us k n h)

x_small : (o : Option Point) → IsNearOrNowhere o → unsigned_abs (x_of o) ≤ 2 ^ 41
x_small None n = omega arith
x_small (Some p) n = (let h : IsNear p = n in h.x)

y_small : (o : Option Point) → IsNearOrNowhere o → unsigned_abs (y_of o) ≤ 2 ^ 41
y_small None n = omega arith
y_small (Some p) n = (let h : IsNear p = n in h.y)

pub next_x_small : (w : ChainEnds) (us : List ℕ) (k : ℕ) → HasNearEnds w → unsigned_abs (x_of (next_at w us k)) ≤ 2 ^ 41
next_x_small w us k n = x_small (next_at w us k) (near_first w.entry w.stop (drop k us) n.entry n.stop)

pub next_y_small : (w : ChainEnds) (us : List ℕ) (k : ℕ) → HasNearEnds w → unsigned_abs (y_of (next_at w us k)) ≤ 2 ^ 41
next_y_small w us k n = y_small (next_at w us k) (near_first w.entry w.stop (drop k us) n.entry n.stop)

pub difference_small : (a b : ℕ) → a ≤ 2 ^ 60 → b ≤ 2 ^ 60 → unsigned_abs (pos a -ℤ pos b) ≤ 2 ^ 60
difference_small a b p q = omega (arith, ints)
