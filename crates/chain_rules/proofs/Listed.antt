-- Marks tell which steps the chain lists.
use Rattle.std.proofs.Common.{◌≡◌, ◌≢◌, ◌⊎◌, ℕ, ◌+◌, ◌-◌, ◌<◌, ◌≤◌, List, [], ◌∷◌, ◌++◌, length, get_or, map, refl, sym, ◌∙◌, ap, subst, arith, zero, suc, inl, inr, ⊎_elim, length-append}
use Rattle.std.specs.List.{flat_map}
use Rattle.std.proofs.lemmas.List.{get_or_append_left, get_or-append_right, get_or_push, append-nil, length_push}
use Rattle.std.proofs.lemmas.Bool.{cases_eq, cases_lt}
use Rattle.std.proofs.lemmas.List.Concat.{flat_map-append}
use Rattle.chain_rules.specs.declared.listing.Listing.{Listing}
use Rattle.chain_rules.specs.declared.spec.StepSpec.{StepSpec}
use Rattle.chain_rules.specs.declared.spec.PathSpec.{PathSpec}
use Rattle.chain_rules.specs.declared.spec.ElementSpec.{ElementSpec}
use Rattle.chain_rules.specs.declared.spec.ListSpec.{ListSpec}
use Rattle.chain_rules.specs.declared.spec.ListSpec.TheVariants.{Floating, Ordered}
use Rattle.chain_rules.specs.declared.spec.ChainSpec.{ChainSpec}
use Rattle.chain_rules.specs.Stretches.{spec_at, step_at, IsNamedBy, IsListed, IsInside, Stretch, elements_in, elements_of, groups_in, groups_of}
use Rattle.chain_rules.specs.Runs.{mark_at, AreMarks, IsListingOf}
use Rattle.chain_rules.proofs.Marking.{named_left}

abbrev pub joined : List (List ElementSpec) → List ElementSpec
joined groups = flat_map (λ es. es) groups

joined-single : (es : List ElementSpec) → joined (map (λ e. e ∷ []) es) ≡ es
joined-single [] = refl
joined-single (e ∷ es) = ap (λ (xs : List ElementSpec). e ∷ xs) (joined-single es)

joined-list : (list : ListSpec) → joined (groups_in list) ≡ elements_in list
joined-list (Floating es) = joined-single es
joined-list (Ordered es) = append-nil es

joined-lists : (lists : List ListSpec) → joined (flat_map groups_in lists) ≡ flat_map elements_in lists
joined-lists [] = refl
joined-lists (l ∷ ls) =
    flat_map-append (λ es. es) (groups_in l) (flat_map groups_in ls)
    ∙ (ap (λ (xs : List ElementSpec). xs ++ joined (flat_map groups_in ls)) (joined-list l) ∙ ap (λ (xs : List ElementSpec). elements_in l ++ xs) (joined-lists ls))

-- the groups of a chain are its elements
pub joined-groups : (chain : ChainSpec) → joined (groups_of chain) ≡ elements_of chain
joined-groups chain = joined-lists chain.lists

named_right : (es fs : List ElementSpec) (step : StepSpec) → IsNamedBy fs step → IsNamedBy (es ++ fs) step
named_right es fs step (k, e, within, is, names) =
    let back : length es + k - length es ≡ k = omega arith in
    (length es + k, e, omega (arith, length-append es fs), get_or-append_right es fs (length es) (length es + k) e refl (omega arith) ∙ (ap (λ (n : ℕ). get_or fs n e) back ∙ is), names)

named_part : (es fs : List ElementSpec) (step : StepSpec) → IsNamedBy (es ++ fs) step → IsNamedBy es step ⊎ IsNamedBy fs step
named_part es fs step (k, x, within, is, names) =
    ⊎_elim
    (λ (h : k < length es). inl (k, x, h, sym (get_or_append_left es fs x k h) ∙ is, names))
    (λ (h : length es ≤ k). inr (k - length es, x, omega (arith, length-append es fs), sym (get_or-append_right es fs (length es) k x refl h) ∙ is, names))
    (cases_lt k (length es))

pub named_joined : (groups : List (List ElementSpec)) (g : ℕ) (step : StepSpec) → g < length groups → IsNamedBy (get_or groups g []) step → IsNamedBy (joined groups) step
named_joined [] g step h by = absurd (omega arith)
named_joined (es ∷ gs) zero step h by = named_left es (joined gs) step by
named_joined (es ∷ gs) (suc g) step h by = named_right es (joined gs) step (named_joined gs g step (omega arith) by)

pub group_of_named : (groups : List (List ElementSpec)) (step : StepSpec) → IsNamedBy (joined groups) step → (g : ℕ) × (g < length groups) × IsNamedBy (get_or groups g []) step
group_of_named [] step (k, x, within, is, names) = absurd (omega arith)
group_of_named (es ∷ gs) step by =
    ⊎_elim
    (λ (here : IsNamedBy es step). (0, omega arith, here))
    (λ (there : IsNamedBy (joined gs) step). let w = group_of_named gs step there in (suc w.0, omega (arith, w.1), w.2))
    (named_part es (joined gs) step by)

pub listed_by : (chain : ChainSpec) (step : StepSpec) → IsListed chain step → (g : ℕ) × (g < length (groups_of chain)) × IsNamedBy (get_or (groups_of chain) g []) step
listed_by chain step by = group_of_named (groups_of chain) step (subst (λ (es : List ElementSpec). IsNamedBy es step) (sym (joined-groups chain)) by)

pub listed_from : (chain : ChainSpec) (g : ℕ) (step : StepSpec) → g < length (groups_of chain) → IsNamedBy (get_or (groups_of chain) g []) step → IsListed chain step
listed_from chain g step h by = subst (λ (es : List ElementSpec). IsNamedBy es step) (joined-groups chain) (named_joined (groups_of chain) g step h by)

-- a step with a mark is listed, and one without isn't
pub listed_by_mark : (path : PathSpec) (s : Stretch) (chain : ChainSpec) (marks : List ℕ) → AreMarks path s (groups_of chain) marks → (k : ℕ) → IsInside s k → 0 < mark_at s marks k → IsListed chain (step_at path k)
listed_by_mark path s chain marks are k inside h =
    let n = are.named k (mark_at s marks k - 1) inside (omega arith) in
    listed_from chain (mark_at s marks k - 1) (step_at path k) n.0 n.1

pub mark_by_listed : (path : PathSpec) (s : Stretch) (chain : ChainSpec) (marks : List ℕ) → AreMarks path s (groups_of chain) marks → (k : ℕ) → IsInside s k → IsListed chain (step_at path k) → 0 < mark_at s marks k
mark_by_listed path s chain marks are k inside by =
    let w = listed_by chain (step_at path k) by in
    are.marked k w.0 inside w.1 w.2

pub listings_more : (paths : List PathSpec) (chains : List ChainSpec) (ls : List Listing) (i : ℕ) (l : Listing) → length ls ≡ i → ((c : ℕ) (d : Listing) → c < i → IsListingOf paths (spec_at chains c) (get_or ls c d)) → IsListingOf paths (spec_at chains i) l → (length (ls ++ l ∷ []) ≡ i + 1) × ((c : ℕ) (d : Listing) → c < i + 1 → IsListingOf paths (spec_at chains c) (get_or (ls ++ l ∷ []) c d))
listings_more paths chains ls i l long each here = (
  omega (arith, length_push ls l),
  λ c d h.
      ⊎_elim
      (λ (e : c ≡ i). subst (λ (x : ℕ). IsListingOf paths (spec_at chains x) (get_or (ls ++ l ∷ []) x d)) (sym e) (subst (λ (m : Listing). IsListingOf paths (spec_at chains i) m) (sym (get_or_push ls l d i long)) here))
      (λ (e : c ≢ i).
      let below : c < length ls = omega arith in
      subst (λ (m : Listing). IsListingOf paths (spec_at chains c) m) (sym (get_or_append_left ls (l ∷ []) d c below)) (each c d (omega arith)))
      (cases_eq c i),
)
