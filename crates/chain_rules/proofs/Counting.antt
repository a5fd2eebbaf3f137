-- Sums over a part of a list.
use Rattle.std.proofs.Common.{◌≡◌, ℕ, ◌+◌, ◌<◌, ◌≤◌, Bool, true, false, cond, nat_eq, List, [], ◌∷◌, length, get_or, take, sum_by, filter, Option, Some, unwrap_or, refl, sym, ap, ◌∙◌, subst, arith, eqb-true, eq-eqb}
use Rattle.std.proofs.lemmas.List.Sums.{sum_by-cons, sum_by_more, sum_by_more_le, sum_by-take-le}
use Rattle.std.specs.HashMap.{HashMap, get}
use Rattle.chain_rules.specs.declared.spec.ChainSpec.{ChainSpec}
use Rattle.chain_rules.specs.Stretches.{groups_of, spec_at, no_chain}
use Rattle.chain_rules.specs.ChainFaults.{units_so_far}

sum_by-chosen : {X : Type 0} (f : X → ℕ) (b : Bool) (x : X) (xs : List X) → sum_by f (cond b (x ∷ xs) xs) ≤ f x + sum_by f xs
sum_by-chosen f true x xs = omega (arith, sum_by-cons f x xs)
sum_by-chosen f false x xs = omega arith

pub sum_by-filter-le : {X : Type 0} (f : X → ℕ) (p : X → Bool) (xs : List X) → sum_by f (filter p xs) ≤ sum_by f xs
sum_by-filter-le f p [] = omega arith
sum_by-filter-le f p (x ∷ xs) = omega (arith, sum_by-chosen f (p x) x (filter p xs), sum_by-cons f x xs, sum_by-filter-le f p xs)

pub sum_by_filter_more_le : {X : Type 0} (f : X → ℕ) (p : X → Bool) (xs : List X) (i : ℕ) (d : X) → i < length xs → sum_by f (filter p (take i xs)) + f (get_or xs i d) ≤ sum_by f xs
sum_by_filter_more_le f p xs i d h = omega (arith, sum_by-filter-le f p (take i xs), sum_by_more_le f xs i d h)

-- The units of each partition

abbrev of_partition : ℕ → ChainSpec → ℕ
of_partition q chain = cond (nat_eq chain.partition q) (length (groups_of chain)) 0

sum_by-chosen_is : {X : Type 0} (f : X → ℕ) (b : Bool) (x : X) (xs : List X) → sum_by f (cond b (x ∷ xs) xs) ≡ cond b (f x) 0 + sum_by f xs
sum_by-chosen_is f true x xs = sum_by-cons f x xs
sum_by-chosen_is f false x xs = omega arith

sum_by-filter : {X : Type 0} (f : X → ℕ) (p : X → Bool) (xs : List X) → sum_by f (filter p xs) ≡ sum_by (λ x. cond (p x) (f x) 0) xs
sum_by-filter f p [] = refl
sum_by-filter f p (x ∷ xs) = omega (arith, sum_by-chosen_is f (p x) x (filter p xs), sum_by-cons (λ y. cond (p y) (f y) 0) x xs, sum_by-filter f p xs)

-- for each partition the map has the units of the first chains that are of it
abbrev pub CountUnits : {S : Type 0} → List ChainSpec → ℕ → HashMap ℕ ℕ S → Type 0
CountUnits chains i units = (q : ℕ) → unwrap_or (get nat_eq units q) 0 ≡ sum_by (of_partition q) (take i chains)

-- with the units of the next chain they are those so far
pub with_next : {S : Type 0} (chains : List ChainSpec) (i : ℕ) (chain : ChainSpec) (units : HashMap ℕ ℕ S) → i < length chains → chain ≡ spec_at chains i → CountUnits chains i units
    → unwrap_or (get nat_eq units chain.partition) 0 + length (groups_of chain) ≡ units_so_far chains i
with_next chains i chain units h is counts =
    let p : ℕ = (spec_at chains i).partition in
    let more : sum_by (of_partition p) (take (i + 1) chains) ≡ sum_by (of_partition p) (take i chains) + of_partition p (spec_at chains i) = sum_by_more (of_partition p) chains i no_chain h in
    let own : of_partition p (spec_at chains i) ≡ length (groups_of (spec_at chains i)) = λ j. cond (eq-eqb p p refl j) (length (groups_of (spec_at chains i))) 0 in
    let here : unwrap_or (get nat_eq units p) 0 + length (groups_of (spec_at chains i)) ≡ units_so_far chains i =
    omega (arith, counts p, more, own, sum_by-filter (λ (c : ChainSpec). length (groups_of c)) (λ (c : ChainSpec). nat_eq c.partition p) (take (i + 1) chains)) in
    subst (λ (c : ChainSpec). unwrap_or (get nat_eq units c.partition) 0 + length (groups_of c) ≡ units_so_far chains i) (sym is) here

pub so_far-le : (chains : List ChainSpec) (i : ℕ) → units_so_far chains i ≤ sum_by (λ (c : ChainSpec). length (groups_of c)) chains
so_far-le chains i =
    omega (
      arith,
      sum_by-filter-le (λ (c : ChainSpec). length (groups_of c)) (λ (c : ChainSpec). nat_eq c.partition (spec_at chains i).partition) (take (i + 1) chains),
      sum_by-take-le (λ (c : ChainSpec). length (groups_of c)) chains (i + 1),
    )

unwrapped : (b : Bool) (n : ℕ) (o : Option ℕ) → unwrap_or (cond b (Some n) o) 0 ≡ cond b n (unwrap_or o 0)
unwrapped true n o = refl
unwrapped false n o = refl

chosen : (b : Bool) (n k old : ℕ) → (b ≡ true → n ≡ old + k) → cond b n old ≡ old + cond b k 0
chosen true n k old e = e refl
chosen false n k old e = omega arith

-- one chain more
pub count_units_more : {S : Type 0} (chains : List ChainSpec) (i : ℕ) (chain : ChainSpec) (count : ℕ) (old new : HashMap ℕ ℕ S) → i < length chains → chain ≡ spec_at chains i → CountUnits chains i old
    → count ≡ unwrap_or (get nat_eq old chain.partition) 0 + length (groups_of chain) → ((q : ℕ) → get nat_eq new q ≡ cond (nat_eq chain.partition q) (Some count) (get nat_eq old q)) → CountUnits chains (i + 1) new
count_units_more chains i chain count old new h is counts e put q =
    let more : sum_by (of_partition q) (take (i + 1) chains) ≡ sum_by (of_partition q) (take i chains) + of_partition q (spec_at chains i) = sum_by_more (of_partition q) chains i no_chain h in
    let last : of_partition q chain ≡ of_partition q (spec_at chains i) = ap (of_partition q) is in
    let step : cond (nat_eq chain.partition q) count (unwrap_or (get nat_eq old q) 0) ≡ unwrap_or (get nat_eq old q) 0 + of_partition q chain =
    chosen (nat_eq chain.partition q) count (length (groups_of chain)) (unwrap_or (get nat_eq old q) 0) (λ same. subst (λ (x : ℕ). count ≡ unwrap_or (get nat_eq old x) 0 + length (groups_of chain)) (eqb-true chain.partition q same) e) in
    ap (λ (o : Option ℕ). unwrap_or o 0) (put q) ∙ (unwrapped (nat_eq chain.partition q) count (get nat_eq old q) ∙ omega (arith, step, counts q, more, last))
