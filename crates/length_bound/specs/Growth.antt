-- A row of a chain's places that grows from its first one.
use Rattle.std.specs.Prelude.{◌≡◌, ℕ, ℤ, pos, ◌+◌, ◌-◌, ◌^◌, map, unsigned_abs, ◌+ℤ◌, ◌<◌, ◌≤◌, ◌≤ℤ◌, List, length, slice_index_or, IsPermutation, None}
use Rattle.std.specs.List.{range_with_len}
use Rattle.wire_cost.specs.Lengths.{ChainEnds, IsNearOrNowhere, length_of, link_of}
use Rattle.wire_cost.specs.Rows.{before_at, next_at}
use Rattle.length_bound.specs.declared.growth.Place.{Place}
use Rattle.length_bound.specs.Certificates.{AreSmall, number_at}
use Rattle.length_bound.specs.Trees.{CanPass}

-- stands for what is behind the end of a row
abbrev pub no_place : Place
no_place = record { number = 0; exit = None; entry = None; weight = pos 0 }

-- the place at a position of a row
abbrev pub place_at : List Place → ℕ → Place
place_at row i = slice_index_or row i no_place

-- the place is near, and its weight small
pub record IsNearPlace (p : Place) : Type 0 where
  pub exit : IsNearOrNowhere p.exit
  pub entry : IsNearOrNowhere p.entry
  pub weight : unsigned_abs p.weight ≤ 2 ^ 42

-- each place of the row is
abbrev pub AreNearPlaces : List Place → Type 0
AreNearPlaces row = (i : ℕ) → i < length row → IsNearPlace (place_at row i)

-- z and the weights of two places are together at most the link from the one to the other, and the one back, where an order
-- of n units can make it
pub record IsUnderBoth (n : ℕ) (p q : Place) (z : ℤ) : Type 0 where
  pub there : CanPass n p.number q.number → (z +ℤ (p.weight +ℤ q.weight)) ≤ℤ pos (link_of p.exit q.entry)
  pub back : CanPass n q.number p.number → (z +ℤ (q.weight +ℤ p.weight)) ≤ℤ pos (link_of q.exit p.entry)

-- the row has grown up to position k: a number further on is under the links between its place and those before k, and the
-- number at a position up to k under all links over the gap before it
pub record Grown (n : ℕ) (row : List Place) (near : List ℤ) (k : ℕ) : Type 0 where
  pub count : length near ≡ length row
  pub small : AreSmall near
  pub waiting : (i j : ℕ) → i < k → k ≤ j → j < length row → IsUnderBoth n (place_at row i) (place_at row j) (number_at near j)
  pub under : (i m j : ℕ) → i ≤ m → m < k → m < j → j < length row → IsUnderBoth n (place_at row i) (place_at row j) (number_at near (m + 1))

-- a place of the chain, with the weight that a list gives it
pub record IsPlace (w : ChainEnds) (us : List ℕ) (weights : List ℤ) (p : Place) : Type 0 where
  pub within : p.number ≤ length us + 1
  pub exit : p.number ≤ length us → p.exit ≡ before_at w us p.number
  pub entry : 0 < p.number → p.entry ≡ next_at w us (p.number - 1)
  pub weight : p.weight ≡ number_at weights p.number

-- the places of the chain, each once, with their weights
pub record ArePlaces (w : ChainEnds) (us : List ℕ) (weights : List ℤ) (row : List Place) : Type 0 where
  pub each : (i : ℕ) → i < length row → IsPlace w us weights (place_at row i)
  pub numbers : IsPermutation (range_with_len 0 (length us + 2)) (map (λ p. p.number) row)

-- each number of the list is at most 2^42 in size
abbrev pub AreLight : List ℤ → Type 0
AreLight xs = (k : ℕ) → k < length xs → unsigned_abs (number_at xs k) ≤ 2 ^ 42

-- z is at most the length of every order of the units
abbrev pub IsBelowOrders : ChainEnds → List ℕ → ℤ → Type 0
IsBelowOrders w us z = (vs : List ℕ) → IsPermutation us vs → z ≤ℤ pos (length_of w vs)
