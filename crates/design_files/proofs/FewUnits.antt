-- Rules have no more units than their chains have elements: each unit begins with a step that an element names, and no element
-- names two steps.
use Rattle.std.proofs.Common.{◌≡◌, ◌≢◌, ℕ, zero, suc, ◌+◌, ◌<◌, ◌≤◌, ◌||◌, Bool, true, false, List, [], ◌∷◌, ◌++◌, length, get_or, map, All, inl, inr, refl, sym, ap, ◌∙◌, subst, arith, length-append}
use Rattle.std.specs.List.{AllByRecursion, IsDistinct, list_any}
use Rattle.std.proofs.Math.Dec.{eqb}
use Rattle.std.proofs.lemmas.Bool.Decides.{eqb_tells}
use Rattle.std.proofs.lemmas.List.{get_or_default}
use Rattle.std.proofs.lemmas.List.Elements.{All-head, All-tail}
use Rattle.std.proofs.lemmas.Map.Keys.{IsDistinct-cons}
use Rattle.std.proofs.lemmas.Map.Steps.{length-le_from_distinct_below}
use Rattle.chain_rules.specs.declared.spec.PathSpec.{PathSpec}
use Rattle.chain_rules.specs.declared.spec.ElementSpec.{ElementSpec}
use Rattle.chain_rules.specs.declared.spec.ChainSpec.{ChainSpec}
use Rattle.chain_rules.specs.declared.unit.Unit.{Unit as MovedUnit}
use Rattle.chain_rules.specs.Stretches.{path_at, step_at, elements_of, Names, StepsOnce}
use Rattle.chain_rules.specs.Rules.{Cover, IsUnit}
use Rattle.chain_rules.proofs.Stretched.{place_once}

-- what holds of each number of a list holds of one that is found there
passes : (P : ℕ → Type 0) (xs : List ℕ) (q : ℕ) → AllByRecursion P xs → list_any (eqb q) xs ≡ true → P q
passes P [] q all is = absurd cc
passes P (x ∷ xs) q all is =
    elim (eqb_tells q x) [
      | inl here ↦ subst P (sym here.1) all.0
      | inr there ↦ passes P xs q all.1 (ap (λ (b : Bool). b || list_any (eqb q) xs) (sym there.0) ∙ is)
    ]

weaker : (P Q : ℕ → Type 0) (xs : List ℕ) → ((q : ℕ) → P q → Q q) → AllByRecursion P xs → AllByRecursion Q xs
weaker P Q [] f all = tt
weaker P Q (x ∷ xs) f all = (f x all.0, weaker P Q xs f all.1)

-- the units go up to the end
cover_le : (us : List MovedUnit) (from to : ℕ) → Cover us from to → from ≤ to
cover_le [] from to cover = omega (arith, cover)
cover_le (u ∷ us) from to cover =
    let begins = cover.0 in
    let some = cover.1 in
    let rest = cover_le us (u.last + 1) to cover.2 in
    omega arith

module _ (paths : List PathSpec) (chain : ChainSpec) (n : ℕ) (once : StepsOnce paths) (on : n < length paths) where
  -- the places among the chain's elements of those with which the units begin
  firsts : (us : List MovedUnit) → All (IsUnit (path_at paths n) chain) us → List ℕ
  firsts [] all = []
  firsts (u ∷ us) all = (All-head (IsUnit (path_at paths n) chain) u us all).begins.0 ∷ firsts us (All-tail (IsUnit (path_at paths n) chain) u us all)

  firsts_len : (us : List MovedUnit) (all : All (IsUnit (path_at paths n) chain) us) → length (firsts us all) ≡ length us
  unfolding firsts
  firsts_len [] all = refl
  firsts_len (u ∷ us) all = ap suc (firsts_len us (All-tail (IsUnit (path_at paths n) chain) u us all))

  -- the element at the place names a step between two places of the path
  record NamesWithin (from to q : ℕ) : Type 0 where
    pub k : ℕ
    pub low : from ≤ k
    pub high : k < to
    pub element : ElementSpec
    pub within : q < length (elements_of chain)
    pub is : get_or (elements_of chain) q element ≡ element
    pub names : Names element (step_at (path_at paths n) k)

  further : (m from to q : ℕ) → m ≤ from → NamesWithin from to q → NamesWithin m to q
  further m from to q le w =
      let low = w.low in
      record { k = w.k; low = omega arith; high = w.high; element = w.element; within = w.within; is = w.is; names = w.names }

  begun : (us : List MovedUnit) (all : All (IsUnit (path_at paths n) chain) us) (from to : ℕ) → Cover us from to → AllByRecursion (NamesWithin from to) (firsts us all)
  unfolding firsts
  begun [] all from to cover = tt
  begun (u ∷ us) all from to cover =
      let begins = cover.0 in
      let some = cover.1 in
      let end = cover_le us (u.last + 1) to cover.2 in
      let first = (All-head (IsUnit (path_at paths n) chain) u us all).begins in (
        record { k = u.first; low = omega arith; high = omega arith; element = first.1; within = first.2; is = first.3; names = first.4 },
        weaker (NamesWithin (u.last + 1) to) (NamesWithin from to) (firsts us (All-tail (IsUnit (path_at paths n) chain) u us all)) (λ q w. further from (u.last + 1) to q (omega arith) w)
            (begun us (All-tail (IsUnit (path_at paths n) chain) u us all) (u.last + 1) to cover.2),
      )

  -- no element names two steps
  apart : (to m from p q : ℕ) → to ≤ length (path_at paths n).steps → m < from → (w : NamesWithin m to p) → w.k ≡ m → NamesWithin from to q → eqb p q ≡ false
  apart to m from p q short lt w at v =
      elim (eqb_tells p q) [
        | inl same ↦
            let e : get_or (elements_of chain) p v.element ≡ v.element = ap (λ (i : ℕ). get_or (elements_of chain) i v.element) same.1 ∙ v.is in
            let one : w.element ≡ v.element = sym w.is ∙ get_or_default (elements_of chain) p w.element v.element w.within ∙ e in
            let low = w.high in
            let high = v.high in
            let place = (place_once paths once n w.k n v.k w.element.instance w.element.path (record { path = on; step = omega arith }) (record { path = on; step = omega arith }) w.names
            (subst (λ (x : ElementSpec). Names x (step_at (path_at paths n) v.k)) (sym one) v.names)).1 in
            let behind = v.low in
            absurd (omega arith)
        | inr differ ↦ differ.0
      ]

  distinct : (us : List MovedUnit) (all : All (IsUnit (path_at paths n) chain) us) (from to : ℕ) → to ≤ length (path_at paths n).steps → Cover us from to → IsDistinct eqb (firsts us all)
  unfolding IsDistinct firsts
  distinct [] all from to short cover = tt
  distinct (u ∷ us) all from to short cover =
      let begins = cover.0 in
      let some = cover.1 in
      let end = cover_le us (u.last + 1) to cover.2 in
      let first = (All-head (IsUnit (path_at paths n) chain) u us all).begins in
      let here : NamesWithin u.first to first.0 = record { k = u.first; low = omega arith; high = omega arith; element = first.1; within = first.2; is = first.3; names = first.4 } in (
        weaker (NamesWithin (u.last + 1) to) (λ q. eqb first.0 q ≡ false) (firsts us (All-tail (IsUnit (path_at paths n) chain) u us all))
            (λ q w. apart to u.first (u.last + 1) first.0 q short (omega arith) here refl w) (begun us (All-tail (IsUnit (path_at paths n) chain) u us all) (u.last + 1) to cover.2),
        distinct us (All-tail (IsUnit (path_at paths n) chain) u us all) (u.last + 1) to short cover.2,
      )

  -- no more units than elements
  pub few : (us : List MovedUnit) → All (IsUnit (path_at paths n) chain) us → (from to : ℕ) → to ≤ length (path_at paths n).steps → Cover us from to → length us ≤ length (elements_of chain)
  few us all from to short cover =
      let at_most = length-le_from_distinct_below (firsts us all) (length (elements_of chain)) (distinct us all from to short cover)
      (λ q is. (passes (NamesWithin from to) (firsts us all) q (begun us all from to cover) is).within) in
      omega (arith, firsts_len us all)
