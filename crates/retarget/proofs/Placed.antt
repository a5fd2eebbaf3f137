-- The homes of cells, one bit more at a time, and one chain more.
use Rattle.std.proofs.Common.{◌≡◌, ℕ, ◌+◌, ◌-◌, ◌<◌, ◌≤◌, List, [], ◌∷◌, length, refl, sym, ap, ◌∙◌, arith, get_or, ⊎_elim, subst, inl, inr}
use Rattle.std.specs.Prelude.{All, slice_set}
use Rattle.std.proofs.lemmas.Bool.{cases_lt, cases_eq}
use Rattle.std.proofs.lemmas.List.{get_or-set_other, get_or-set_same, length-append}
use Rattle.std.proofs.lemmas.List.Elements.{All-head, All-tail}
use Rattle.stil_tester.specs.declared.chains.ChainBits.{ChainBits}
use Rattle.stil_tester.specs.declared.chains.Chains.{Chains}
use Rattle.stil_tester.specs.Shifting.{AreChains, IsChain, numbers_of}
use Rattle.stil_tester.proofs.WellFormed.{once_of}
use Rattle.retarget.specs.Places.{chain_bits, bits_at, StandsAt, chain_of, place_of}
use Rattle.retarget.specs.declared.home.Home.{Home}
use Rattle.retarget.specs.Homes.{home_in, home_of, no_home, home_at, IsHome, AreHomes, IsKept, IsPut, ArePut}
use Rattle.retarget.proofs.Numbers.{few}
use Rattle.retarget.proofs.AllChains.{standing, start_of, number_within}
use Rattle.retarget.proofs.Standing.{stands_there, chain_is_of, place_is_of}

-- no bit has got its home yet
pub put_none : (number : ℕ) (chain : ChainBits) (homes : List Home) (cells : List ℕ) → ArePut number chain homes homes cells 0
put_none number chain homes cells v = inl (record { none = λ i l. absurd (omega arith); stays = refl })

-- the next bit gets its home
pub put_more : (number : ℕ) (chain : ChainBits) (old homes : List Home) (cells : List ℕ) (n cell : ℕ) (home : Home)
    → get_or cells n 0 ≡ cell → cell < length homes → home ≡ home_in number chain n
    → ArePut number chain old homes cells n → ArePut number chain old (slice_set homes cell home) cells (n + 1)
put_more number chain old homes cells n cell home at within is put v =
    ⊎_elim (λ (same : cell ≡ v).
    inr (record {
      place = n;
      within = omega arith;
      there = at ∙ same;
      home = subst (λ (w : ℕ). home_at (slice_set homes cell home) w ≡ home_in number chain n) same (get_or-set_same homes cell home no_home within ∙ is);
    }))
    (λ (other : cell ≡ v → ⊥).
    let kept : home_at (slice_set homes cell home) v ≡ home_at homes v = get_or-set_other homes cell v home no_home (λ e. other (sym e)) in
    ⊎_elim (λ (k : IsKept old homes cells n v).
    inl (record {
      none = λ i l e. ⊎_elim (λ (before : i < n). k.none i before e) (λ (here : n ≤ i). let same : n ≡ i = omega arith in other (sym at ∙ ap (λ j. get_or cells j 0) same ∙ e)) (cases_lt i n);
      stays = kept ∙ k.stays;
    }))
    (λ (p : IsPut number chain homes cells n v).
    inr (record { place = p.place; within = omega (arith, p.within); there = p.there; home = kept ∙ p.home }))
    (put v))
    (cases_eq cell v)

-- where a cell stands is its home
pub home_is : (chains : Chains) (cell : ℕ) (home : Home) → AreChains chains → IsHome chains cell home → home ≡ home_of chains cell
home_is chains cell home good at =
    let chain : home.chain ≡ chain_of chains cell = sym (chain_is_of chains cell home.chain home.place good at.stands) in
    let place : home.place ≡ place_of chains cell = sym (place_is_of chains cell home.chain home.place good at.stands) in
    at.is ∙ (λ i. home_in (chain i) (chain_bits chains (chain i)) (place i))

-- the home of a cell that stands there
pub home_where : (chains : Chains) (cell c i : ℕ) → AreChains chains → StandsAt chains cell c i → home_of chains cell ≡ home_in c (chain_bits chains c) i
home_where chains cell c i good stands =
    let chain : chain_of chains cell ≡ c = chain_is_of chains cell c i good stands in
    let place : place_of chains cell ≡ i = place_is_of chains cell c i good stands in
    λ j. home_in (chain j) (chain_bits chains (chain j)) (place j)

-- each cell stands at its home
pub at_home : (chains : Chains) (cell : ℕ) → AreChains chains → cell < chains.cells → StandsAt chains cell (chain_of chains cell) (place_of chains cell)
at_home chains cell good l =
    let at : (c : ℕ) × (i : ℕ) × StandsAt chains cell c i = standing chains good cell l in
    stands_there chains cell at.0 at.1 at.2

-- and at what a list of homes gives
pub stands_in : (chains : Chains) (homes : List Home) (cell : ℕ) → AreHomes chains homes → cell < chains.cells → StandsAt chains cell (home_at homes cell).chain (home_at homes cell).place
stands_in chains homes cell are l = subst (λ (home : Home). StandsAt chains cell home.chain home.place) (sym (are.each cell l)) (at_home chains cell are.good l)

-- the cells of the first n chains have their homes
abbrev pub AreDone : Chains → List Home → ℕ → Type 0
AreDone chains homes n = (c i : ℕ) → c < n → i < bits_at chains c → IsHome chains (get_or (chain_bits chains c).cells i 0) (home_at homes (get_or (chain_bits chains c).cells i 0))

-- the cells of the next chain get theirs
pub done_more : (chains : Chains) (old new : List Home) (n : ℕ) (chain : ChainBits) → n < length chains.chains → chain ≡ chain_bits chains n
    → ArePut n chain old new chain.cells (length chain.cells) → AreDone chains old n → AreDone chains new (n + 1)
done_more chains old new n chain l e put done c i h m =
    let v : ℕ = get_or (chain_bits chains c).cells i 0 in
    ⊎_elim (λ (k : IsKept old new chain.cells (length chain.cells) v).
    ⊎_elim (λ (before : c < n). subst (λ (home : Home). IsHome chains v home) (sym k.stays) (done c i before m))
    (λ (here : n ≤ c).
    let same : c ≡ n = omega arith in
    let cells : chain.cells ≡ (chain_bits chains c).cells = ap (λ (x : ChainBits). x.cells) (e ∙ ap (chain_bits chains) (sym same)) in
    absurd (k.none i (omega (arith, ap length cells)) (ap (λ q. get_or q i 0) cells)))
    (cases_lt c n))
    (λ (p : IsPut n chain new chain.cells (length chain.cells) v).
    let cells : chain.cells ≡ (chain_bits chains n).cells = ap (λ (x : ChainBits). x.cells) e in
    let stands : StandsAt chains v n p.place = record { is_chain = l; is_place = omega (arith, p.within, ap length cells); is_there = sym (ap (λ q. get_or q p.place 0) cells) ∙ p.there } in
    let home : home_at new v ≡ home_in n (chain_bits chains n) p.place = p.home ∙ ap (λ (x : ChainBits). home_in n x p.place) e in
    subst (λ (x : Home). IsHome chains v x) (sym home) (record { stands = stands; is = refl }))
    (put v)

-- and so all of them
pub done_all : (chains : Chains) (homes : List Home) (n : ℕ) → AreChains chains → length homes ≡ chains.cells → length chains.chains ≤ n → AreDone chains homes n → AreHomes chains homes
done_all chains homes n good long h done = record {
  good = good;
  long = long;
  each = λ cell l.
      let at : (c : ℕ) × (i : ℕ) × StandsAt chains cell c i = standing chains good cell l in
      home_is chains cell (home_at homes cell) good (subst (λ (v : ℕ). IsHome chains v (home_at homes v)) at.2.is_there (done at.0 at.1 (omega (arith, at.2.is_chain)) at.2.is_place));
}

-- ---- homes by numbers of 32 bits

chain_by_chain : (chains : List ChainBits) → All IsChain chains → length chains ≤ length (numbers_of chains)
chain_by_chain [] h = omega arith
chain_by_chain (chain ∷ chains) h =
    omega (arith, (All-head IsChain chain chains h).some, length-append chain.cells (numbers_of chains), chain_by_chain chains (All-tail IsChain chain chains h))

few_numbers : (chains : Chains) → AreChains chains → length (numbers_of chains.chains) ≤ chains.cells
few_numbers chains good = few (numbers_of chains.chains) chains.cells (once_of chains good) good.others

-- there are no more chains than cells
pub few_chains : (chains : Chains) → AreChains chains → length chains.chains ≤ chains.cells
few_chains chains good = omega (arith, chain_by_chain chains.chains good.each, few_numbers chains good)

-- and no chain has more bits
pub few_bits : (chains : Chains) → AreChains chains → (c : ℕ) → c < length chains.chains → bits_at chains c ≤ chains.cells
few_bits chains good c l =
    ⊎_elim (λ (none : bits_at chains c < 1). let n : bits_at chains c ≤ chains.cells = omega arith in n)
    (λ (some : 1 ≤ bits_at chains c).
    let last : start_of chains.chains c + (bits_at chains c - 1) < length (numbers_of chains.chains) = number_within chains.chains c (bits_at chains c - 1) l (omega arith) in
    let n : bits_at chains c ≤ chains.cells = omega (arith, last, few_numbers chains good) in n)
    (cases_lt (bits_at chains c) 1)
