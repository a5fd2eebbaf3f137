-- The partition of a unit, found by going over the first read chains.
use Rattle.std.proofs.Common.{◌≡◌, ℕ, zero, suc, ◌+◌, ◌<◌, ◌≤◌, Bool, true, false, cond, nat_eq, List, [], ◌∷◌, length, get_or, Option, Some, None, slice_get, refl, sym, ap, ◌∙◌, arith, subst, inl, inr, ◌⊎◌, ◌-◌, All, ◌↔◌}
use Rattle.std.specs.List.{concat, list_any, range_with_len}
use Rattle.std.specs.List.Sorted.{IsPermutation}
use Rattle.std.specs.Option.{option_or, option_map, option_and_then}
use Rattle.std.proofs.lemmas.Bool.{cases_lt, both_ways}
use Rattle.std.proofs.lemmas.List.Quantifiers.{position-Some}
use Rattle.std.proofs.lemmas.List.FromFn.{length-range_with_len, get_or-range_with_len}
use Rattle.std.proofs.lemmas.List.Sorted.{All-permutation}
use Rattle.chain_rules.specs.declared.unit.ChainRule.{ChainRule}
use Rattle.chain_rules.specs.declared.unit.Rules.{Rules}
use Rattle.chain_rules.specs.Legality.{chain_at, rule_at, no_rule, read_chain_of, partition_of}
use Rattle.chain_rules.proofs.Concats.{flat, flat-below, get_or-flat}
use Rattle.chain_rules.proofs.Positions.{position_found}

-- whether a unit stands in a read chain
abbrev pub stands_in : Rules → ℕ → ℕ → Bool
stands_in rules u j = list_any (λ v. nat_eq v u) (chain_at rules.read j)

-- what the first n read chains tell of a unit's partition
abbrev pub IsOwner : Rules → ℕ → ℕ → Option ℕ → Type 0
IsOwner rules n u None = (j : ℕ) → j < n → stands_in rules u j ≡ false
IsOwner rules n u (Some q) = (j : ℕ) × (j < n) × (stands_in rules u j ≡ true) × ((k : ℕ) → k < j → stands_in rules u k ≡ false) × (q ≡ (rule_at rules j).partition)

owner_joined : (rules : Rules) (n u : ℕ) (o : Option ℕ) (b : Bool) → stands_in rules u n ≡ b → IsOwner rules n u o → IsOwner rules (n + 1) u (option_or o (cond b (Some (rule_at rules n).partition) None))
owner_joined rules n u (Some q) b e (j, l, at, before, is) = (j, omega arith, at, before, is)
owner_joined rules n u None true e h = (n, omega arith, e, h, refl)
owner_joined rules n u None false e h = λ j l. elim (cases_lt j n) [
  | inl a ↦ h j a
  | inr a ↦ (let m : n ≡ j = omega arith in subst (λ (k : ℕ). stands_in rules u k ≡ false) m e)
]

-- one read chain more
pub owner_more : (rules : Rules) (n u : ℕ) (o x : Option ℕ) → IsOwner rules n u o → x ≡ option_or o (cond (stands_in rules u n) (Some (rule_at rules n).partition) None) → IsOwner rules (n + 1) u x
owner_more rules n u o x h e = subst (IsOwner rules (n + 1) u) (sym e) (owner_joined rules n u o (stands_in rules u n) refl h)

rule_there : (rs : List ChainRule) (j : ℕ) → j < length rs → slice_get rs j ≡ Some (get_or rs j no_rule)
rule_there [] j l = absurd (omega arith)
rule_there (r ∷ rs) zero l = refl
rule_there (r ∷ rs) (suc j) l = rule_there rs j (omega arith)

rule_missing : (rs : List ChainRule) (j : ℕ) → length rs ≤ j → slice_get rs j ≡ None
rule_missing [] j l = refl
rule_missing (r ∷ rs) zero l = absurd (omega arith)
rule_missing (r ∷ rs) (suc j) l = rule_missing rs j (omega arith)

abbrev partition_in : Rules → Option ℕ → Option ℕ
partition_in rules o = option_and_then (λ c. option_map (λ r. r.partition) (slice_get rules.chains c)) o

missing : (rules : Rules) (n u : ℕ) (o : Option ℕ) → read_chain_of rules u ≡ o → (n ≡ length rules.read.chains) ⊎ (n ≡ length rules.chains) → ((j : ℕ) → j < n → stands_in rules u j ≡ false) → partition_in rules o ≡ None
missing rules n u None e all h = refl
missing rules n u (Some i) e all h =
    let p = position-Some (list_any (λ v. nat_eq v u)) rules.read.chains i [] e in
    elim (cases_lt i n) [
      | inl a ↦ absurd (both_ways _ (h i a) p.1)
      | inr a ↦ elim all [
        | inl m ↦ absurd (omega (arith, p.0))
        | inr m ↦ ap (option_map (λ (r : ChainRule). r.partition)) (rule_missing rules.chains i (omega arith))
      ]
    ]

-- they tell it where they are all that have a rule
pub owner_is : (rules : Rules) (n u : ℕ) (o : Option ℕ) → n ≤ length rules.read.chains → n ≤ length rules.chains → (n ≡ length rules.read.chains) ⊎ (n ≡ length rules.chains) → IsOwner rules n u o → o ≡ partition_of rules u
owner_is rules n u None few ruled all h = sym (missing rules n u (read_chain_of rules u) refl all h)
owner_is rules n u (Some q) few ruled all (j, l, at, before, is) =
    let e : read_chain_of rules u ≡ Some j = position_found (list_any (λ v. nat_eq v u)) rules.read.chains j [] (omega arith) before at in
    sym (ap (partition_in rules) e ∙ ap (option_map (λ (r : ChainRule). r.partition)) (rule_there rules.chains j (omega arith)) ∙ ap Some (sym is))

-- a window of notes tells the partitions of its units
pub noted_is : (rules : Rules) (owners : List (Option ℕ)) (low n p q : ℕ) (us : List ℕ) → length owners ≡ n → p ≡ q → ((k : ℕ) → k < n → get_or owners k None ≡ partition_of rules (low + k))
    → All (λ u. low ≤ u → u < low + length owners → get_or owners (u - low) None ≡ Some p) us ↔ All (λ u. low ≤ u → u < low + n → partition_of rules u ≡ Some q) us
noted_is rules owners low n p q us long same note =
    let here : (u : ℕ) → low ≤ u → u < low + n → get_or owners (u - low) None ≡ partition_of rules u
    = (λ u a b. let e : low + (u - low) ≡ u = omega arith in note (u - low) (omega arith) ∙ ap (partition_of rules) e)
    in (
      λ h k d l a b. sym (here (get_or us k d) a b) ∙ h k d l a (omega arith) ∙ ap Some same,
      λ h k d l a b. here (get_or us k d) a (omega arith) ∙ h k d l a (omega arith) ∙ ap Some (sym same),
    )

-- the units of a plan that has each once
pub units_below : (n : ℕ) (css : List (List ℕ)) → IsPermutation (range_with_len 0 n) (concat css) → (c : ℕ) → c < length css → (k d : ℕ) → k < length (get_or css c []) → get_or (get_or css c []) k d < n
units_below n css p c h k d l =
    let ranged : All (λ u. u < n) (range_with_len 0 n) = (λ j z m. let a = get_or-range_with_len 0 n j z (omega (arith, length-range_with_len 0 n)) in omega (arith, length-range_with_len 0 n, a)) in
    let all : All (λ u. u < n) (concat css) = All-permutation (λ u. u < n) (range_with_len 0 n) (concat css) p ranged in
    subst (λ (u : ℕ). u < n) (get_or-flat css c k d h l) (all (flat css c k) d (flat-below css c k h l))
