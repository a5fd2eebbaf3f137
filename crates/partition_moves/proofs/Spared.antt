-- What the chains of a partition can spare, in part and in all legal plans alike.
use Rattle.std.proofs.Common.{◌≡◌, ℕ, zero, suc, ◌+◌, ◌-◌, ◌<◌, ◌≤◌, Bool, true, false, cond, nat_eq, List, [], ◌∷◌, ◌++◌, length, take, get_or, set, Option, Some, None, All, min, count_by, refl, sym, ap, ◌∙◌, arith, subst, inl, inr}
use Rattle.std.specs.List.{concat, range_with_len}
use Rattle.std.proofs.lemmas.Bool.{cases_eq}
use Rattle.std.proofs.lemmas.Bool.Decides.{nat_tests}
use Rattle.std.proofs.lemmas.List.{length-set, get_or-set_same, get_or-set_other, take_all}
use Rattle.std.proofs.lemmas.List.Elements.{All-head, All-tail}
use Rattle.std.proofs.lemmas.List.Concat.{concat_is, flat_map-cons}
use Rattle.std.proofs.lemmas.List.Sorted.{sum_by-IsPermutation}
use Rattle.std.proofs.lemmas.List.Sums.{sum_by-append}
use Rattle.chain_rules.specs.Legality.{IsLegal, chain_at, partition_of, rule_at}
use Rattle.chain_rules.specs.declared.plan.Plan.{Plan}
use Rattle.chain_rules.specs.declared.unit.Rules.{Rules}
use Rattle.list_laws.proofs.Totals.{counted-cons}
use Rattle.partition_moves.specs.Roomy.{AreRoomyFor, AreSpares, AreSparesOf, spare_from, spare_in}

-- One chain more

abbrev pub spare_at : Rules → ℕ → ℕ → List ℕ → ℕ
spare_at rules part b us = cond (nat_eq (rule_at rules b).partition part) (length us - 1) 0

spare_more : (rules : Rules) (part b : ℕ) (css : List (List ℕ)) (n : ℕ) → n < length css → spare_from rules part b (take (n + 1) css) ≡ spare_from rules part b (take n css) + spare_at rules part (b + n) (get_or css n [])
spare_more rules part b [] n h = absurd (omega arith)
spare_more rules part b (us ∷ css) zero h =
    let z : b + 0 ≡ b = omega arith in
    omega (arith, ap (λ (k : ℕ). spare_at rules part k us) z)
spare_more rules part b (us ∷ css) (suc n) h =
    let s : suc n + 1 ≡ suc (n + 1) = omega arith in
    let z : b + 1 + n ≡ b + suc n = omega arith in
    omega (arith, ap (λ (k : ℕ). spare_from rules part b (take k (us ∷ css))) s, spare_more rules part (b + 1) css n (omega arith), ap (λ (k : ℕ). spare_at rules part k (get_or css n [])) z)

same_part : (a b x : ℕ) → a ≡ b → cond (nat_eq a b) x 0 ≡ x
same_part a b x e = grind (arith, nat_tests, e)

other_part : (a b x : ℕ) → (a ≡ b → ⊥) → cond (nat_eq a b) x 0 ≡ 0
other_part a b x n = grind (arith, nat_tests, n)

spare_next : (rules : Rules) (part : ℕ) (css : List (List ℕ)) (n : ℕ) → n < length css → spare_from rules part 0 (take (n + 1) css) ≡ spare_from rules part 0 (take n css) + cond (nat_eq (rule_at rules n).partition part) (length (get_or css n []) - 1) 0
spare_next rules part css n h =
    let z : 0 + n ≡ n = omega arith in
    spare_more rules part 0 css n h ∙ ap (λ (k : ℕ). spare_from rules part 0 (take n css) + spare_at rules part k (get_or css n [])) z

pub spares_none : (rules : Rules) (p : Plan) (spares : List ℕ) → length spares ≡ length p.chains → AreSparesOf rules p spares 0
spares_none rules p spares long = record {
  count = long;
  each = λ q h. omega arith;
}

-- a chain whose partition has an entry
pub spares_more : (rules : Rules) (p : Plan) (spares : List ℕ) (n part new : ℕ) → AreSparesOf rules p spares n → n < length p.chains → (rule_at rules n).partition ≡ part → part < length p.chains
    → min (get_or spares part 0) (length rules.units) + (length (chain_at p n) - 1) ≤ new → AreSparesOf rules p (set spares part new) (n + 1)
spares_more rules p spares n part new s hn own hp low =
    let here : get_or (set spares part new) part 0 ≡ new = get_or-set_same spares part new 0 (omega (arith, s.count, hp)) in
    record {
      count = length-set spares part new ∙ s.count;
      each = λ q h. elim (cases_eq q part) [
        | inl x ↦ omega (arith, low, here, ap (λ (i : ℕ). get_or (set spares part new) i 0) x, ap (λ (i : ℕ). get_or spares i 0) x, s.each q h, spare_next rules q p.chains n hn, same_part (rule_at rules n).partition q (length (chain_at p n) - 1) (own ∙ sym x))
        | inr x ↦ omega (arith, get_or-set_other spares part q new 0 x, s.each q h, spare_next rules q p.chains n hn, other_part (rule_at rules n).partition q (length (chain_at p n) - 1) (λ e. x (sym e ∙ own)))
      ];
    }

-- one whose partition has none
pub spares_past : (rules : Rules) (p : Plan) (spares : List ℕ) (n : ℕ) → AreSparesOf rules p spares n → n < length p.chains → length p.chains ≤ (rule_at rules n).partition → AreSparesOf rules p spares (n + 1)
spares_past rules p spares n s hn past = record {
  count = s.count;
  each = λ q h. omega (arith, s.each q h, spare_next rules q p.chains n hn, other_part (rule_at rules n).partition q (length (chain_at p n) - 1) (λ e. absurd (omega (arith, e, past, h))));
}

pub spares_all : (rules : Rules) (p : Plan) (spares : List ℕ) (n : ℕ) → AreSparesOf rules p spares n → length p.chains ≤ n → AreSpares rules p spares
spares_all rules p spares n s h = record {
  count = s.count;
  each = λ q l. omega (arith, s.each q l, ap (λ (css : List (List ℕ)). spare_from rules q 0 css) (take_all n p.chains h));
}

-- In all legal plans alike

abbrev units_from : Rules → ℕ → ℕ → List (List ℕ) → ℕ
units_from rules part b [] = 0
units_from rules part b (us ∷ css) = cond (nat_eq (rule_at rules b).partition part) (length us) 0 + units_from rules part (b + 1) css

abbrev chains_from : Rules → ℕ → ℕ → List (List ℕ) → ℕ
chains_from rules part b [] = 0
chains_from rules part b (us ∷ css) = cond (nat_eq (rule_at rules b).partition part) 1 0 + chains_from rules part (b + 1) css

parted : (t : Bool) (n : ℕ) → 0 < n → ◌≡◌ {A = ℕ} (cond t n 0) (cond t (n - 1) 0 + cond t 1 0)
parted true n h = omega arith
parted false n h = omega arith

spare_and_chains : (rules : Rules) (part b : ℕ) (css : List (List ℕ)) → ((k : ℕ) → k < length css → 0 < length (get_or css k [])) → units_from rules part b css ≡ spare_from rules part b css + chains_from rules part b css
spare_and_chains rules part b [] full = omega arith
spare_and_chains rules part b (us ∷ css) full =
    omega (arith, parted (nat_eq (rule_at rules b).partition part) (length us) (full 0 (omega arith)), spare_and_chains rules part (b + 1) css (λ k h. full (suc k) (omega arith)))

as_many_chains : (rules : Rules) (part b : ℕ) (css ess : List (List ℕ)) → length css ≡ length ess → chains_from rules part b css ≡ chains_from rules part b ess
as_many_chains rules part b [] [] h = refl
as_many_chains rules part b [] (v ∷ ess) h = absurd (omega arith)
as_many_chains rules part b (u ∷ css) [] h = absurd (omega arith)
as_many_chains rules part b (u ∷ css) (v ∷ ess) h = omega (arith, as_many_chains rules part (b + 1) css ess (omega arith))

abbrev is_part : ℕ → Option ℕ → Bool
is_part part None = false
is_part part (Some q) = nat_eq q part

own_units : (rules : Rules) (part r : ℕ) (us : List ℕ) → All (λ u. partition_of rules u ≡ Some r) us → count_by (λ u. is_part part (partition_of rules u)) us ≡ cond (nat_eq r part) (length us) 0
own_units rules part r [] all = none (nat_eq r part)
  where
    none : (t : Bool) → ◌≡◌ {A = ℕ} 0 (cond t 0 0)
    none true = refl
    none false = refl
own_units rules part r (u ∷ us) all =
    let here : is_part part (partition_of rules u) ≡ nat_eq r part = ap (is_part part) (All-head (λ v. partition_of rules v ≡ Some r) u us all) in
    omega (arith, counted-cons (λ v. is_part part (partition_of rules v)) u us, ap {B = ℕ} (λ (t : Bool). cond t 1 0) here, one_more (nat_eq r part) (length us), own_units rules part r us (All-tail (λ v. partition_of rules v ≡ Some r) u us all))
  where
    one_more : (t : Bool) (n : ℕ) → ◌≡◌ {A = ℕ} (cond t (suc n) 0) (cond t 1 0 + cond t n 0)
    one_more true n = omega arith
    one_more false n = omega arith

joined : (us : List ℕ) (css : List (List ℕ)) → concat (us ∷ css) ≡ us ++ concat css
joined us css = concat_is (us ∷ css) ∙ flat_map-cons (λ (x : List ℕ). x) us css ∙ ap (λ (q : List ℕ). us ++ q) (sym (concat_is css))

units_counted : (rules : Rules) (part b : ℕ) (css : List (List ℕ)) → ((k : ℕ) → k < length css → All (λ u. partition_of rules u ≡ Some (rule_at rules (b + k)).partition) (get_or css k []))
    → count_by (λ u. is_part part (partition_of rules u)) (concat css) ≡ units_from rules part b css
units_counted rules part b [] own = refl
units_counted rules part b (us ∷ css) own =
    let p : ℕ → Bool = λ u. is_part part (partition_of rules u) in
    let z : b + 0 ≡ b = omega arith in
    let first : All (λ u. partition_of rules u ≡ Some (rule_at rules b).partition) us = subst (λ (k : ℕ). All (λ u. partition_of rules u ≡ Some (rule_at rules k).partition) us) z (own 0 (omega arith)) in
    let rest : (k : ℕ) → k < length css → All (λ u. partition_of rules u ≡ Some (rule_at rules (b + 1 + k)).partition) (get_or css k []) =
    λ k h. subst (λ (i : ℕ). All (λ u. partition_of rules u ≡ Some (rule_at rules i).partition) (get_or css k [])) (omega arith) (own (suc k) (omega arith)) in
    omega (arith, ap (λ (q : List ℕ). count_by p q) (joined us css), sum_by-append (λ u. cond (p u) 1 0) us (concat css), own_units rules part (rule_at rules b).partition us first, units_counted rules part (b + 1) css rest)

units_of_partition : (rules : Rules) (p : Plan) (part : ℕ) → IsLegal rules p → units_from rules part 0 p.chains ≡ count_by (λ u. is_part part (partition_of rules u)) (range_with_len 0 (length rules.units))
units_of_partition rules p part legal =
    sym (units_counted rules part 0 p.chains (λ k h. (let z : k ≡ 0 + k = omega arith in subst (λ (i : ℕ). All (λ u. partition_of rules u ≡ Some (rule_at rules i).partition) (chain_at p k)) z (legal.own_partition k h))))
    ∙ sum_by-IsPermutation (λ u. cond (is_part part (partition_of rules u)) 1 0) (range_with_len 0 (length rules.units)) (concat p.chains) legal.once

pub spare_same : (rules : Rules) (p q : Plan) (part : ℕ) → IsLegal rules p → IsLegal rules q → spare_from rules part 0 p.chains ≡ spare_from rules part 0 q.chains
spare_same rules p q part one other =
    omega (arith, units_of_partition rules p part one, units_of_partition rules q part other, spare_and_chains rules part 0 p.chains one.not_empty, spare_and_chains rules part 0 q.chains other.not_empty, as_many_chains rules part 0 p.chains q.chains (one.chains ∙ sym other.chains))

-- a plan that a step leaves legal needs no more room
pub roomy_still : (rules : Rules) (p q : Plan) (rooms : List ℕ) → IsLegal rules p → IsLegal rules q → AreRoomyFor rules p rooms → AreRoomyFor rules q rooms
roomy_still rules p q rooms one other roomy = record { each = λ c h. omega (arith, roomy.each c h, spare_same rules p q (rule_at rules c).partition one other) }

-- a chain holds no more than its partition can spare, and one
within_spare : (rules : Rules) (part b : ℕ) (css : List (List ℕ)) (k : ℕ) → k < length css → (rule_at rules (b + k)).partition ≡ part → length (get_or css k []) ≤ spare_from rules part b css + 1
within_spare rules part b [] k h own = absurd (omega arith)
within_spare rules part b (us ∷ css) zero h own =
    let z : b + 0 ≡ b = omega arith in
    omega (arith, same_part (rule_at rules b).partition part (length us - 1) (ap (λ (i : ℕ). (rule_at rules i).partition) (sym z) ∙ own))
within_spare rules part b (us ∷ css) (suc k) h own =
    let z : b + 1 + k ≡ b + suc k = omega arith in
    omega (arith, within_spare rules part (b + 1) css k (omega arith) (ap (λ (i : ℕ). (rule_at rules i).partition) z ∙ own))

pub chain_within_spare : (rules : Rules) (p : Plan) (c : ℕ) → c < length p.chains → length (chain_at p c) ≤ spare_in rules p c + 1
chain_within_spare rules p c h =
    let z : 0 + c ≡ c = omega arith in
    within_spare rules (rule_at rules c).partition 0 p.chains c h (ap (λ (i : ℕ). (rule_at rules i).partition) z)
