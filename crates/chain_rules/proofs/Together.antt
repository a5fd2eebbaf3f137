-- The steps of a group stand together where no ORDERED list is broken.
use Rattle.std.proofs.Common.{◌≡◌, ◌≢◌, ◌⊎◌, ℕ, ◌+◌, ◌-◌, ◌<◌, ◌≤◌, List, [], ◌∷◌, length, get_or, map, take, All, Contains, refl, sym, ◌∙◌, ap, subst, arith, zero, suc, inl, inr, ⊎_elim, length-append}
use Rattle.std.specs.List.{flat_map}
use Rattle.std.proofs.lemmas.List.{get_or_default, get_or-map, length-map}
use Rattle.std.proofs.lemmas.List.Concat.{get_or-flat_map}
use Rattle.std.proofs.lemmas.List.Folds.{length-flat_map-take}
use Rattle.std.proofs.lemmas.List.Elements.{Contains-append_cases, Contains-get_or, All-get_or}
use Rattle.std.proofs.lemmas.Bool.{cases_eq, cases_lt, cases_order}
use Rattle.chain_rules.specs.declared.spec.StepSpec.{StepSpec}
use Rattle.chain_rules.specs.declared.spec.PathSpec.{PathSpec}
use Rattle.chain_rules.specs.declared.spec.ElementSpec.{ElementSpec}
use Rattle.chain_rules.specs.declared.spec.ListSpec.{ListSpec}
use Rattle.chain_rules.specs.declared.spec.ListSpec.TheVariants.{Floating, Ordered}
use Rattle.chain_rules.specs.declared.spec.ChainSpec.{ChainSpec}
use Rattle.chain_rules.specs.Stretches.{path_at, spec_at, step_at, no_element, Names, IsNamedBy, IsListed, IsInside, Stretch, IsStretch, StandsIn, elements_in, elements_of, groups_in, groups_of, IsPlace, NamesAt, NamedOnce, StepsOnce}
use Rattle.chain_rules.specs.ChainFaults.{IsOrderBroken}
use Rattle.chain_rules.specs.Runs.{mark_at, AreMarks, AreTogether}
use Rattle.chain_rules.proofs.Stretched.{inside_place, stretch_within, All-each}
use Rattle.chain_rules.proofs.Marking.{names_one, NamesOne}
use Rattle.chain_rules.proofs.Listed.{joined, joined-groups, listed_by_mark}

-- the place of an element of a group among all elements
flat_place : List (List ElementSpec) → ℕ → ℕ → ℕ
flat_place groups g p = length (joined (take g groups)) + p

joined-take-below : (groups : List (List ElementSpec)) (g h : ℕ) → g < h → g < length groups → length (joined (take g groups)) + length (get_or groups g []) ≤ length (joined (take h groups))
joined-take-below [] g h below within = absurd (omega arith)
joined-take-below (es ∷ gs) zero (suc h) below within = omega (arith, length-append es (joined (take h gs)))
joined-take-below (es ∷ gs) (suc g) (suc h) below within =
    omega (arith, length-append es (joined (take g gs)), length-append es (joined (take h gs)), joined-take-below gs g h (omega arith) (omega arith))
joined-take-below (es ∷ gs) g zero below within = absurd (omega arith)

-- an element that names a step, at its place among all elements of the chain
names_flat : (chains : List ChainSpec) (c : ℕ) → c < length chains → (g p : ℕ) (e : ElementSpec) (step : StepSpec) → g < length (groups_of (spec_at chains c)) → p < length (get_or (groups_of (spec_at chains c)) g []) → get_or (get_or (groups_of (spec_at chains c)) g []) p e ≡ e → Names e step → NamesAt chains c (length (joined (take g (groups_of (spec_at chains c)))) + p) step
names_flat chains c h g p e step in_groups in_group is names =
    let groups = groups_of (spec_at chains c) in
    let all = joined-groups (spec_at chains c) in
    let bound = length-flat_map-take (λ (es : List ElementSpec). es) (groups_of (spec_at chains c)) g [] in_groups in
    let within : length (joined (take g (groups_of (spec_at chains c)))) + p < length (joined (groups_of (spec_at chains c))) = omega arith in (
      h,
      omega (arith, ap length all),
      λ d.
          let at = get_or-flat_map (λ (es : List ElementSpec). es) (groups_of (spec_at chains c)) g p [] d in_groups in_group in
          let same : get_or (elements_of (spec_at chains c)) (length (joined (take g (groups_of (spec_at chains c)))) + p) d ≡ e =
          ap (λ (es : List ElementSpec). get_or es (length (joined (take g (groups_of (spec_at chains c)))) + p) d) (sym all) ∙ (at ∙ (get_or_default (get_or (groups_of (spec_at chains c)) g []) p d e in_group ∙ is)) in
          subst (λ (x : ElementSpec). Names x step) (sym same) names,
    )

-- a step is named by one group alone
pub one_group : (paths : List PathSpec) (chains : List ChainSpec) → NamedOnce paths chains → (c : ℕ) → c < length chains → (n k g h : ℕ) → IsPlace paths n k → g < length (groups_of (spec_at chains c)) → h < length (groups_of (spec_at chains c)) → IsNamedBy (get_or (groups_of (spec_at chains c)) g []) (step_at (path_at paths n) k) → IsNamedBy (get_or (groups_of (spec_at chains c)) h []) (step_at (path_at paths n) k) → g ≡ h
one_group paths chains once c within n k g h at in_g in_h (p, e, p_in, e_is, names) (q, f, q_in, f_is, names_too) =
    let groups = groups_of (spec_at chains c) in
    let step = step_at (path_at paths n) k in
    let same = (once n k c (length (joined (take g (groups_of (spec_at chains c)))) + p) c (length (joined (take h (groups_of (spec_at chains c)))) + q) at
    (names_flat chains c within g p e (step_at (path_at paths n) k) in_g p_in e_is names) (names_flat chains c within h q f (step_at (path_at paths n) k) in_h q_in f_is names_too)).1 in
    ⊎_elim
    (λ (e : g ≡ h). e)
    (λ (far : (g < h) ⊎ (h < g)). ⊎_elim
    (λ (below : g < h). absurd (omega (arith, joined-take-below (groups_of (spec_at chains c)) g h below in_g)))
    (λ (above : h < g). absurd (omega (arith, joined-take-below (groups_of (spec_at chains c)) h g above in_h)))
    far)
    (cases_order g h)

-- the list that a group comes from
pub list_of_group : (lists : List ListSpec) (gr : List ElementSpec) → Contains (flat_map groups_in lists) gr → (list : ListSpec) × Contains lists list × Contains (groups_in list) gr
list_of_group [] gr (k, within, e) = absurd (omega arith)
list_of_group (l ∷ ls) gr m =
    ⊎_elim
    (λ (here : Contains (groups_in l) gr). (l, (0, omega arith, refl), here))
    (λ (there : Contains (flat_map groups_in ls) gr). let w = list_of_group ls gr there in (w.0, (suc w.1.0, omega (arith, w.1.1), w.1.2), w.2))
    (Contains-append_cases (groups_in l) (flat_map groups_in ls) gr m)

-- the elements of an unbroken list: places rise, and no other listed step stands between
record IsUnbroken (path : PathSpec) (s : Stretch) (chain : ChainSpec) (es : List ElementSpec) : Type 0 where
  rises : (i a b : ℕ) → i + 1 < length es → IsInside s a → IsInside s b → Names (get_or es i no_element) (step_at path a) → Names (get_or es (i + 1) no_element) (step_at path b) → (a < b) × ((k : ℕ) → a < k → k < b → ¬ IsListed chain (step_at path k))

unbroken : (paths : List PathSpec) (chain : ChainSpec) (s : Stretch) → IsStretch paths chain s → ¬ IsOrderBroken paths chain → (es : List ElementSpec) → Contains chain.lists (Ordered es) → IsUnbroken (path_at paths s.path) s chain es
unbroken paths chain s is whole es m =
    record {
      rises = λ i a b next in_a in_b first second.
          let broken : ((b ≤ a) ⊎ ((k : ℕ) × (a < k) × (k < b) × IsListed chain (step_at (path_at paths s.path) k))) → ⊥ =
          λ how. whole (
            s,
            is,
            es,
            m,
            i,
            a,
            b,
            record {
              neighbours = next;
              first_inside = in_a;
              second_inside = in_b;
              first = λ d. subst (λ (x : ElementSpec). Names x (step_at (path_at paths s.path) a)) (get_or_default es i no_element d (omega arith)) first;
              second = λ d. subst (λ (x : ElementSpec). Names x (step_at (path_at paths s.path) b)) (get_or_default es (i + 1) no_element d next) second;
              broken = how;
            },
          ) in
          (⊎_elim (λ (h : a < b). h) (λ (h : b ≤ a). absurd (broken (inl h))) (cases_lt a b), λ k low high listed. broken (inr (k, low, high, listed)));
    }

-- from the element i to the n-th behind it, each listed step is one of the list, and the places rise
between : (path : PathSpec) (s : Stretch) (chain : ChainSpec) (es : List ElementSpec) → IsUnbroken path s chain es → All (StandsIn path s) es → NamesOne path s → (i n a b : ℕ) → i + n < length es → IsInside s a → IsInside s b → Names (get_or es i no_element) (step_at path a) → Names (get_or es (i + n) no_element) (step_at path b) → (a ≤ b) × ((k : ℕ) → a ≤ k → k ≤ b → IsListed chain (step_at path k) → IsNamedBy es (step_at path k))
between path s chain es un stand one i zero a b within in_a in_b first second =
    let same = one (get_or es i no_element) a b in_a in_b first (subst (λ (j : ℕ). Names (get_or es j no_element) (step_at path b)) (omega arith) second) in (
      omega arith,
      λ k low high listed.
          let here : a ≡ k = omega arith in
          subst (λ (j : ℕ). IsNamedBy es (step_at path j)) here (i, get_or es i no_element, omega arith, get_or_default es i (get_or es i no_element) no_element (omega arith), first),
    )
between path s chain es un stand one i (suc n) a b within in_a in_b first second =
    let middle = All-get_or (StandsIn path s) es (i + n) no_element (omega arith) stand in
    let before = between path s chain es un stand one i n a middle.0 (omega arith) in_a middle.1 first middle.2 in
    let last : Names (get_or es (i + n + 1) no_element) (step_at path b) = subst (λ (j : ℕ). Names (get_or es j no_element) (step_at path b)) (omega arith) second in
    let step = un.rises (i + n) middle.0 b (omega arith) middle.1 in_b middle.2 last in
    let low = before.0 in
    let high = step.0 in (
      omega arith,
      λ k after until listed.
          ⊎_elim
          (λ (h : k ≤ middle.0). before.1 k after h listed)
          (λ (h : middle.0 < k). ⊎_elim
          (λ (e : k ≡ b). subst (λ (j : ℕ). IsNamedBy es (step_at path j)) (sym e) (i + n + 1, get_or es (i + n + 1) no_element, omega arith, get_or_default es (i + n + 1) (get_or es (i + n + 1) no_element) no_element (omega arith), last))
          (λ (other : k ≢ b). absurd (step.1 k h (below_of k b until other) listed))
          (cases_eq k b))
          (below_or middle.0 k),
    )
  where
    below_or : (m k : ℕ) → (k ≤ m) ⊎ (m < k)
    below_or m k = ⊎_elim (λ (h : m < k). inr h) (λ (h : k ≤ m). inl h) (cases_lt m k)

    below_of : (k b : ℕ) → k ≤ b → k ≢ b → k < b
    below_of k b h other = ⊎_elim (λ (l : k < b). l) (λ (g : b ≤ k). absurd (other (omega arith))) (cases_lt k b)

named_single : (e : ElementSpec) (step : StepSpec) → IsNamedBy (e ∷ []) step → Names e step
named_single e step (zero, x, within, is, names) = subst (λ (y : ElementSpec). Names y step) (sym is) names
named_single e step (suc k, x, within, is, names) = absurd (omega arith)

single_group : (es : List ElementSpec) (gr : List ElementSpec) → Contains (map (λ e. e ∷ []) es) gr → (e : ElementSpec) × (gr ≡ e ∷ [])
single_group es gr (q, within, is) =
    let e = get_or es q no_element in
    (get_or es q no_element, sym is ∙ get_or-map (λ (x : ElementSpec). x ∷ []) es q no_element gr (omega (arith, length-map es (λ (x : ElementSpec). x ∷ []))))

whole_group : (es : List ElementSpec) (gr : List ElementSpec) → Contains (es ∷ []) gr → gr ≡ es
whole_group es gr (zero, within, is) = sym is
whole_group es gr (suc k, within, is) = absurd (omega arith)

-- the steps of a list that isn't broken have no other listed step between
spanned : (path : PathSpec) (s : Stretch) (chain : ChainSpec) (es : List ElementSpec) → IsUnbroken path s chain es → All (StandsIn path s) es → NamesOne path s → (a b : ℕ) → IsInside s a → IsInside s b → a < b → IsNamedBy es (step_at path a) → IsNamedBy es (step_at path b) → (k : ℕ) → a < k → k < b → IsListed chain (step_at path k) → IsNamedBy es (step_at path k)
spanned path s chain es un stand one a b in_a in_b order (p, e, p_in, e_is, first) (q, f, q_in, f_is, second) k low high listed =
    let first_at : Names (get_or es p no_element) (step_at path a) = subst (λ (x : ElementSpec). Names x (step_at path a)) (sym (get_or_default es p no_element e p_in ∙ e_is)) first in
    let second_at : Names (get_or es q no_element) (step_at path b) = subst (λ (x : ElementSpec). Names x (step_at path b)) (sym (get_or_default es q no_element f q_in ∙ f_is)) second in
    ⊎_elim
    (λ (back : q < p).
    let w = between path s chain es un stand one q (p - q) b a (omega arith) in_b in_a second_at (subst (λ (j : ℕ). Names (get_or es j no_element) (step_at path a)) (omega arith) first_at) in
    let h = w.0 in
    absurd (omega arith))
    (λ (forth : p ≤ q).
    let w = between path s chain es un stand one p (q - p) a b (omega arith) in_a in_b first_at (subst (λ (j : ℕ). Names (get_or es j no_element) (step_at path b)) (omega arith) second_at) in
    w.1 k (omega arith) (omega arith) listed)
    (cases_lt q p)

pub are_together : (paths : List PathSpec) (chains : List ChainSpec) → StepsOnce paths → NamedOnce paths chains → (c : ℕ) → c < length chains → (s : Stretch) → IsStretch paths (spec_at chains c) s → ¬ IsOrderBroken paths (spec_at chains c) → (marks : List ℕ) → AreMarks (path_at paths s.path) s (groups_of (spec_at chains c)) marks → AreTogether s marks
are_together paths chains once named c within s is whole marks are i j k in_i in_k low high same some other =
    let chain = spec_at chains c in
    let path = path_at paths s.path in
    let one = names_one paths once s is.path (stretch_within paths (spec_at chains c) s is) in
    let in_j : IsInside s j = let a = in_i.low in let b = in_k.high in record { low = omega arith; high = omega arith } in
    let by_i = are.named i (mark_at s marks i - 1) in_i (omega arith) in
    let by_k = are.named k (mark_at s marks i - 1) in_k (omega arith) in
    let by_j = are.named j (mark_at s marks j - 1) in_j (omega arith) in
    let w = list_of_group (spec_at chains c).lists (get_or (groups_of (spec_at chains c)) (mark_at s marks i - 1) []) (Contains-get_or (groups_of (spec_at chains c)) (mark_at s marks i - 1) [] by_i.0) in
    let listed = listed_by_mark (path_at paths s.path) s (spec_at chains c) marks are j in_j other in
    let named_too : IsNamedBy (get_or (groups_of (spec_at chains c)) (mark_at s marks i - 1) []) (step_at (path_at paths s.path) j) = by_list w.0 (get_or (groups_of (spec_at chains c)) (mark_at s marks i - 1) []) w.1 w.2 one in_j by_i.1 by_k.1 listed in
    let g = one_group paths chains named c within s.path j (mark_at s marks j - 1) (mark_at s marks i - 1) (inside_place paths (spec_at chains c) s j is in_j) by_j.0 by_i.0 by_j.1 named_too in
    omega arith
  where
    by_list : (list : ListSpec) (gr : List ElementSpec) → Contains (spec_at chains c).lists list → Contains (groups_in list) gr → NamesOne (path_at paths s.path) s → IsInside s j → IsNamedBy gr (step_at (path_at paths s.path) i) → IsNamedBy gr (step_at (path_at paths s.path) k) → IsListed (spec_at chains c) (step_at (path_at paths s.path) j) → IsNamedBy gr (step_at (path_at paths s.path) j)
    by_list (Floating es) gr m n one in_j by_i by_k listed =
        let e = single_group es gr n in
        let first = named_single e.0 (step_at (path_at paths s.path) i) (subst (λ (xs : List ElementSpec). IsNamedBy xs (step_at (path_at paths s.path) i)) e.1 by_i) in
        let second = named_single e.0 (step_at (path_at paths s.path) k) (subst (λ (xs : List ElementSpec). IsNamedBy xs (step_at (path_at paths s.path) k)) e.1 by_k) in
        let twice = one e.0 i k in_i in_k first second in
        absurd (omega arith)
    by_list (Ordered es) gr m n one in_j by_i by_k listed =
        let e = whole_group es gr n in
        let stand = All-each (StandsIn (path_at paths s.path) s) elements_in (spec_at chains c).lists (Ordered es) m is.elements in
        subst (λ (xs : List ElementSpec). IsNamedBy xs (step_at (path_at paths s.path) j)) (sym e)
        (spanned (path_at paths s.path) s (spec_at chains c) es (unbroken paths (spec_at chains c) s is whole es m) stand one i k in_i in_k (omega arith)
        (subst (λ (xs : List ElementSpec). IsNamedBy xs (step_at (path_at paths s.path) i)) e by_i) (subst (λ (xs : List ElementSpec). IsNamedBy xs (step_at (path_at paths s.path) k)) e by_k) j low high listed)
