-- Which nets the assigns of the made netlist join.
use Rattle.std.proofs.Common.{◌≡◌, ℕ, zero, suc, ◌+◌, ◌-◌, ◌<◌, ◌≤◌, Bool, true, false, ◌&&◌, cond, List, [], ◌∷◌, map, Contains, refl, sym, ap, ◌∙◌, subst, arith, ◌⊎◌, inl, inr}
use Rattle.std.specs.Prelude.{nat_lt, nat_le}
use Rattle.std.specs.List.{flat_map, range_with_len, AllByRecursion as Each}
use Rattle.std.proofs.lemmas.Bool.Decides.{nat_tests}
use Rattle.std.proofs.lemmas.Bool.{cases_lt}
use Rattle.netlist_core.specs.declared.netlist.Bit.{Bit}
use Rattle.netlist_core.specs.declared.netlist.Bit.TheVariants.{Net, Zero, One, Unknown}
use Rattle.netlist_core.specs.Netlists.{bit_pairs}
use Rattle.netlist_core.specs.Joining.{net_bit, assigned, AreSides, IsChain, AreJoined}
use Rattle.design_maker.specs.Chains.{last_unit}
use Rattle.made_law.specs.Paths.MadeNetlist.{NetlistPlaces, out_number, unit_number, made_assign, made_netlist}

-- the net of the last unit for an output port, and each other net itself
abbrev pub shown_by : ℕ → ℕ → ℕ
shown_by n x = cond (nat_le 11 x && nat_lt x 19) (unit_number (last_unit n (x - 11))) x

pub shown_port : (n k : ℕ) → k < 8 → shown_by n (out_number k) ≡ unit_number (last_unit n k)
shown_port n k lt =
    let low : nat_le 11 (11 + k) ≡ true = grind (arith, nat_tests) in
    let high : nat_lt (11 + k) 19 ≡ true = grind (arith, nat_tests) in
    let same : 11 + k - 11 ≡ k = omega arith in
    rw (low, high, same) refl

pub shown_low : (n x : ℕ) → x < 11 → shown_by n x ≡ x
shown_low n x lt = let low : nat_le 11 x ≡ false = grind (arith, nat_tests) in rw low refl

pub shown_unit : (n i : ℕ) → shown_by n (unit_number i) ≡ unit_number i
shown_unit n i = let high : nat_lt (19 + i) 19 ≡ false = grind (arith, nat_tests) in off (nat_le 11 (19 + i)) (nat_lt (19 + i) 19) high
  where
    off : (a b : Bool) → b ≡ false → cond (a && b) (unit_number (last_unit n (19 + i - 11))) (19 + i) ≡ 19 + i
    off true true e = absurd cc
    off true false e = refl
    off false b e = refl

-- the number of a net bit
abbrev number_of : Bit → ℕ
number_of (Net id) = id.0
number_of Zero = 0
number_of One = 0
number_of Unknown = 0

-- an output port beside the net of the last unit of its chain
abbrev IsShown : ℕ → Bit × Bit → Type 0
IsShown n q = (k : ℕ) × (k < 8) × (q ≡ (net_bit (out_number k), net_bit (unit_number (last_unit n k))))

pairs_are : (n : ℕ) (at : NetlistPlaces) (ks : List ℕ) → Each (λ k. k < 8) ks → Each (IsShown n) (flat_map bit_pairs (map (made_assign at n) ks))
pairs_are n at [] h = tt
pairs_are n at (k ∷ ks) h = ((k, h.0, refl), pairs_are n at ks h.1)

each_contains : {X : Type 0} (P : X → Type 0) (xs : List X) (x : X) → Each P xs → Contains xs x → P x
each_contains P [] x e h = absurd (let lt = h.1 in omega arith)
each_contains P (y ∷ xs) x e (zero, lt, is) = subst P is e.0
each_contains P (y ∷ xs) x e (suc k, lt, is) = each_contains P xs x e.1 (k, omega arith, is)

pub eight : (P : ℕ → Type 0) → ((k : ℕ) → k < 8 → P k) → Each P (range_with_len 0 8)
eight P f = (f 0 (omega arith), (f 1 (omega arith), (f 2 (omega arith), (f 3 (omega arith), (f 4 (omega arith), (f 5 (omega arith), (f 6 (omega arith), (f 7 (omega arith), tt))))))))

-- a list of numbers holds each of them
there_by : (a m k : ℕ) → (a < k) ⊎ (k ≤ a) → a ≤ k → (a < k → Contains (range_with_len (a + 1) m) k) → Contains (range_with_len a (suc m)) k
there_by a m k (inl lt) from more = let r = more lt in (suc r.0, (let l = r.1 in omega arith), r.2)
there_by a m k (inr le) from more = let e : a ≡ k = omega arith in (zero, omega arith, e)

pub number_there : (a m k : ℕ) → a ≤ k → k < a + m → Contains (range_with_len a m) k
number_there a zero k from to = absurd (omega arith)
number_there a (suc m) k from to = there_by a m k (cases_lt a k) from (λ lt. number_there (a + 1) m k (omega arith) (omega arith))

module _ (n : ℕ) (at : NetlistPlaces) where
  pair_shown : (a b : ℕ) → Contains (assigned (made_netlist at n)) (net_bit a, net_bit b) → shown_by n a ≡ shown_by n b
  pair_shown a b h =
      let p = each_contains (IsShown n) (assigned (made_netlist at n)) (net_bit a, net_bit b) (pairs_are n at (range_with_len 0 8) (eight (λ k. k < 8) (λ k lt. lt))) h in
      let left : a ≡ out_number p.0 = ap (λ (q : Bit × Bit). number_of q.0) p.2 in
      let right : b ≡ unit_number (last_unit n p.0) = ap (λ (q : Bit × Bit). number_of q.1) p.2 in
      ap (shown_by n) left ∙ shown_port n p.0 p.1 ∙ sym (shown_unit n (last_unit n p.0)) ∙ sym (ap (shown_by n) right)

  sides_shown : (a b : ℕ) → AreSides (made_netlist at n) a b → shown_by n a ≡ shown_by n b
  sides_shown a b (inl h) = pair_shown a b h
  sides_shown a b (inr h) = sym (pair_shown b a h)

  chain_shown : (a : ℕ) (over : List ℕ) (b : ℕ) → IsChain (AreSides (made_netlist at n)) a over b → shown_by n a ≡ shown_by n b
  chain_shown a [] b h = ap (shown_by n) h
  chain_shown a (c ∷ cs) b h = sides_shown a c h.0 ∙ chain_shown c cs b h.1

  -- joined nets show the same
  pub joined_shown : (a b : ℕ) → AreJoined (made_netlist at n) a b → shown_by n a ≡ shown_by n b
  joined_shown a b h = chain_shown a h.over b h.chain

  -- the pair of a port stands among the assigned ones
  pub pair_there : (ks : List ℕ) (k : ℕ) → Contains ks k → Contains (flat_map bit_pairs (map (made_assign at n) ks)) (net_bit (out_number k), net_bit (unit_number (last_unit n k)))
  pair_there [] k h = absurd (let lt = h.1 in omega arith)
  pair_there (j ∷ ks) k (zero, lt, is) = (zero, omega arith, ap (λ (i : ℕ). (net_bit (out_number i), net_bit (unit_number (last_unit n i)))) is)
  pair_there (j ∷ ks) k (suc p, lt, is) = let r = pair_there ks k (p, omega arith, is) in (suc r.0, (let l = r.1 in omega arith), r.2)

  -- the net of the last unit is joined with the output port
  pub last_joined : (k : ℕ) → k < 8 → AreJoined (made_netlist at n) (unit_number (last_unit n k)) (out_number k)
  last_joined k lt = record { over = out_number k ∷ []; chain = (inr (pair_there (range_with_len 0 8) k (number_there 0 8 k (omega arith) (omega arith))), refl) }

  pub itself_joined : (a : ℕ) → AreJoined (made_netlist at n) a a
  itself_joined a = record { over = []; chain = refl }
