-- The most units that a chain of a legal plan holds.
use Rattle.std.proofs.Common.{◌≡◌, ℕ, zero, suc, ◌+◌, ◌<◌, ◌≤◌, Bool, cond, nat_eq, List, [], ◌∷◌, ◌++◌, length, take, get_or, insert, remove, map, sum_by, count_by, refl, sym, ap, ◌∙◌, arith}
use Rattle.std.specs.List.{concat, range_with_len}
use Rattle.std.proofs.lemmas.List.{length-set, take_all}
use Rattle.std.proofs.lemmas.List.Edits.{length-insert}
use Rattle.std.proofs.lemmas.List.FromFn.{sum_by-map-range_with_len_more}
use Rattle.std.proofs.lemmas.List.Sorted.{sum_by-IsPermutation}
use Rattle.std.proofs.lemmas.List.Sums.{sum_by-append, sum_by-cons, sum_by_more}
use Rattle.chain_rules.specs.Legality.{IsLegal, bits_of, chain_at, moved_plan, no_unit, taken_out, unit_at, unit_in}
use Rattle.chain_rules.specs.declared.plan.Plan.{Plan}
use Rattle.chain_rules.specs.declared.unit.Rules.{Rules}
use Rattle.chain_rules.specs.declared.unit.Unit.{Unit as MovedUnit}
use Rattle.chain_rules.proofs.Concats.{before, behind, concat_at}
use Rattle.chain_rules.proofs.Steps.{with_chain_same}
use Rattle.list_laws.proofs.Totals.{counted-cons, sum_by-map}
use Rattle.order_search.specs.Trials.{at}
use Rattle.order_search.proofs.Legal.{chain_few}
use Rattle.partition_moves.proofs.Spared.{chain_within_spare, roomy_still}
use Rattle.partition_moves.specs.Roomy.{AreRoomyFor, bitless, most_in, room_in}

one_or_none : (n : ℕ) → 1 ≤ n + cond (nat_eq n 0) 1 0
one_or_none zero = omega arith
one_or_none (suc n) = omega arith

-- a unit has a bit or none
few_by_bits : (rules : Rules) (us : List ℕ) → length us ≤ bits_of rules us + count_by (λ u. nat_eq (unit_at rules u).bits 0) us
few_by_bits rules [] = omega arith
few_by_bits rules (u ∷ us) =
    omega (arith, sum_by-cons (λ v. (unit_at rules v).bits) u us, counted-cons (λ v. nat_eq (unit_at rules v).bits 0) u us, one_or_none (unit_at rules u).bits, few_by_bits rules us)

-- a sum over the numbers of the first elements is one over these
sum_by_number : {X : Type 0} (f : X → ℕ) (xs : List X) (d : X) (k : ℕ) → k ≤ length xs → sum_by f (map (λ u. get_or xs u d) (range_with_len 0 k)) ≡ sum_by f (take k xs)
sum_by_number f xs d zero h = refl
sum_by_number f xs d (suc k) h =
    let s : suc k ≡ k + 1 = omega arith in
    let more = sum_by-map-range_with_len_more f (λ u. get_or xs u d) 0 k k (omega arith) in
    let there = ap (λ (n : ℕ). sum_by f (map (λ u. get_or xs u d) (range_with_len 0 n))) s in
    let here = ap (λ (n : ℕ). sum_by f (take n xs)) s in
    omega (arith, more, there, here, sum_by_number f xs d k (omega arith), sum_by_more f xs k d (omega arith))

-- each unit stands in a legal plan once, so those without a bit do
bitless_in : (rules : Rules) (p : Plan) → IsLegal rules p → count_by (λ u. nat_eq (unit_at rules u).bits 0) (concat p.chains) ≡ bitless rules
bitless_in rules p legal =
    let f : MovedUnit → ℕ = λ v. cond (nat_eq v.bits 0) 1 0 in
    let n : ℕ = length rules.units in
    sum_by-IsPermutation (λ u. f (unit_at rules u)) (range_with_len 0 n) (concat p.chains) legal.once
    ∙ sym (sum_by-map f (λ u. unit_at rules u) (range_with_len 0 n))
    ∙ sum_by_number f rules.units no_unit n (omega arith)
    ∙ ap (λ (xs : List MovedUnit). sum_by f xs) (take_all n rules.units (omega arith))

-- no chain has more of some units than all together
counted_in : (p : ℕ → Bool) (css : List (List ℕ)) (c : ℕ) → c < length css → count_by p (get_or css c []) ≤ count_by p (concat css)
counted_in p css c h =
    let f : ℕ → ℕ = λ u. cond (p u) 1 0 in
    omega (arith, ap (λ (xs : List ℕ). count_by p xs) (concat_at css c h), sum_by-append f (before css c) (get_or css c [] ++ behind css c), sum_by-append f (get_or css c []) (behind css c))

-- a chain of a legal plan holds no more units than it may
pub most_in_legal : (rules : Rules) (p : Plan) (c : ℕ) → c < length p.chains → IsLegal rules p → length (chain_at p c) ≤ most_in rules p c
most_in_legal rules p c h legal =
    omega (arith, chain_few rules p c h legal, chain_within_spare rules p c h, few_by_bits rules (chain_at p c), counted_in (λ u. nat_eq (unit_at rules u).bits 0) p.chains c h, bitless_in rules p legal, legal.bounded c h)

-- so there is room where a unit is put, if the plan with it is legal
pub room_to_land : (rules : Rules) (p : Plan) (rooms : List ℕ) (c i d j : ℕ) → AreRoomyFor rules p rooms → IsLegal rules p → IsLegal rules (moved_plan p (at c i) (at d j)) → d < length p.chains → j ≤ length (chain_at (taken_out p (at c i)) d)
    → length (chain_at (taken_out p (at c i)) d) < room_in rooms d
room_to_land rules p rooms c i d j roomy before legal h within =
    let q : Plan = taken_out p (at c i) in
    let there : d < length q.chains = omega (arith, length-set p.chains c (remove (chain_at p c) i)) in
    let landed = insert (chain_at q d) j (unit_in p (at c i)) in
    let long = ap (λ (us : List ℕ). length us) (with_chain_same q d landed there) in
    let more = length-insert (chain_at q d) j (unit_in p (at c i)) within in
    let still : d < length (moved_plan p (at c i) (at d j)).chains = omega (arith, length-set q.chains d landed) in
    let after : AreRoomyFor rules (moved_plan p (at c i) (at d j)) rooms = roomy_still rules p (moved_plan p (at c i) (at d j)) rooms before legal roomy in
    omega (arith, long, more, most_in_legal rules (moved_plan p (at c i) (at d j)) d still legal, after.each d (omega (arith, legal.chains)))
