-- Marks of a stretch while the groups of the chain come one by one.
use Rattle.std.proofs.Common.{◌≡◌, ◌≢◌, ◌⊎◌, ℕ, ◌+◌, ◌-◌, ◌<◌, ◌≤◌, List, [], ◌∷◌, ◌++◌, length, get_or, set, replicate, refl, sym, ◌∙◌, ap, subst, arith, map, take, inl, inr, ⊎_elim, length-append}
use Rattle.std.proofs.lemmas.List.{get_or-set_same, get_or-set_other, get_or_append_left, get_or_push, get_or-replicate, length-replicate, length-set, append_assoc, take_more, map_more, length-map, length-take-le}
use Rattle.std.proofs.lemmas.Bool.{cases_eq, cases_lt}
use Rattle.chain_rules.specs.declared.spec.StepSpec.{StepSpec}
use Rattle.chain_rules.specs.declared.spec.PathSpec.{PathSpec}
use Rattle.chain_rules.specs.declared.spec.ElementSpec.{ElementSpec}
use Rattle.chain_rules.specs.Stretches.{path_at, step_at, Names, IsNamedBy, IsInside, Stretch, StandsIn, StepsOnce}
use Rattle.chain_rules.specs.Runs.{mark_at, AreMarks}
use Rattle.chain_rules.proofs.Stretched.{place_once}

pub named_left : (es fs : List ElementSpec) (step : StepSpec) → IsNamedBy es step → IsNamedBy (es ++ fs) step
named_left es fs step (k, e, within, is, names) = (k, e, omega (arith, length-append es fs), get_or_append_left es fs e k within ∙ is, names)

pub named_last : (es : List ElementSpec) (e : ElementSpec) (step : StepSpec) → Names e step → IsNamedBy (es ++ e ∷ []) step
named_last es e step names = (length es, e, omega (arith, length-append es (e ∷ [])), get_or_push es e e (length es) refl, names)

pub named_cases : (es : List ElementSpec) (e : ElementSpec) (step : StepSpec) → IsNamedBy (es ++ e ∷ []) step → IsNamedBy es step ⊎ Names e step
named_cases es e step (k, x, within, is, names) =
    ⊎_elim
    (λ (h : k < length es). inl (k, x, h, sym (get_or_append_left es (e ∷ []) x k h) ∙ is, names))
    (λ (h : length es ≤ k).
    let last : length es ≡ k = omega (arith, length-append es (e ∷ [])) in
    let same : x ≡ e = sym is ∙ get_or_push es e x k last in
    inr (subst (λ (y : ElementSpec). Names y step) same names))
    (cases_lt k (length es))

pub named_none : (step : StepSpec) → ¬ IsNamedBy [] step
named_none step (k, x, within, is, names) = omega arith

-- an element of the path names one step alone
abbrev pub NamesOne : PathSpec → Stretch → Type 0
NamesOne path s = (e : ElementSpec) (j k : ℕ) → IsInside s j → IsInside s k → Names e (step_at path j) → Names e (step_at path k) → j ≡ k

pub marks_none : (path : PathSpec) (s : Stretch) (n : ℕ) → n ≡ s.to - s.from → AreMarks path s [] (replicate n 0)
marks_none path s n e =
    record {
      long = length-replicate n 0 ∙ e;
      named = λ k g inside mark.
          let low = inside.low in
          let high = inside.high in
          let empty : mark_at s (replicate n 0) k ≡ 0 = get_or-replicate n (k - s.from) 0 0 (omega arith) in
          absurd (omega arith);
      marked = λ k g inside h names. absurd (omega arith);
    }

-- a group without an element names nothing
pub marks_group : (path : PathSpec) (s : Stretch) (groups : List (List ElementSpec)) (marks : List ℕ) → AreMarks path s groups marks → AreMarks path s (groups ++ [] ∷ []) marks
marks_group path s groups marks are =
    record {
      long = are.long;
      named = λ k g inside mark.
          let n = are.named k g inside mark in
          (omega (arith, n.0, length-append groups ([] ∷ [])), subst (λ (es : List ElementSpec). IsNamedBy es (step_at path k)) (sym (get_or_append_left groups ([] ∷ []) [] g n.0)) n.1);
      marked = λ k g inside h names.
          ⊎_elim
          (λ (below : g < length groups). are.marked k g inside below (subst (λ (es : List ElementSpec). IsNamedBy es (step_at path k)) (get_or_append_left groups ([] ∷ []) [] g below) names))
          (λ (above : length groups ≤ g).
          let last : length groups ≡ g = omega (arith, length-append groups ([] ∷ [])) in
          absurd (named_none (step_at path k) (subst (λ (es : List ElementSpec). IsNamedBy es (step_at path k)) (get_or_push groups [] [] g last) names)))
          (cases_lt g (length groups));
    }

-- one more element of the last group, at place k
pub marks_more : (path : PathSpec) (s : Stretch) → NamesOne path s → (groups : List (List ElementSpec)) (es : List ElementSpec) (e : ElementSpec) (marks : List ℕ) (k : ℕ) → IsInside s k → Names e (step_at path k) → AreMarks path s (groups ++ es ∷ []) marks → AreMarks path s (groups ++ (es ++ e ∷ []) ∷ []) (set marks (k - s.from) (length groups + 1))
marks_more path s one groups es e marks k inside names are =
    record {
      long = length-set marks (k - s.from) (length groups + 1) ∙ are.long;
      named = λ j g in_j mark.
          ⊎_elim
          (λ (same : j ≡ k).
          let here = subst (λ (i : ℕ). mark_at s (set marks (k - s.from) (length groups + 1)) i ≡ g + 1) same mark in
          let at = get_or-set_same marks (k - s.from) (length groups + 1) 0 (within k inside) in
          let last : length groups ≡ g = omega arith in
          let given : IsNamedBy (es ++ e ∷ []) (step_at path j) = subst (λ (i : ℕ). IsNamedBy (es ++ e ∷ []) (step_at path i)) (sym same) (named_last es e (step_at path k) names) in
          (omega (arith, length-append groups ((es ++ e ∷ []) ∷ [])), subst (λ (fs : List ElementSpec). IsNamedBy fs (step_at path j)) (sym (get_or_push groups (es ++ e ∷ []) [] g last)) given))
          (λ (other : j ≢ k).
          let low = in_j.low in
          let low_k = inside.low in
          let apart : j - s.from ≢ k - s.from = λ d. other (omega arith) in
          let n = are.named j g in_j (sym (get_or-set_other marks (k - s.from) (j - s.from) (length groups + 1) 0 apart) ∙ mark) in
          let long = length-append groups (es ∷ []) in
          let long_new = length-append groups ((es ++ e ∷ []) ∷ []) in
          let bound = n.0 in
          (omega arith, renamed j g n.0 n.1))
          (cases_eq j k);
      marked = λ j g in_j h by.
          ⊎_elim
          (λ (same : j ≡ k).
          let at = get_or-set_same marks (k - s.from) (length groups + 1) 0 (within k inside) in
          subst (λ (i : ℕ). 0 < mark_at s (set marks (k - s.from) (length groups + 1)) i) (sym same) (omega arith))
          (λ (other : j ≢ k).
          let low = in_j.low in
          let low_k = inside.low in
          let apart : j - s.from ≢ k - s.from = λ d. other (omega arith) in
          let old = are.marked j g in_j (omega (arith, length-append groups (es ∷ []), length-append groups ((es ++ e ∷ []) ∷ []))) (named_before j g in_j other h by) in
          let kept = get_or-set_other marks (k - s.from) (j - s.from) (length groups + 1) 0 apart in
          omega arith)
          (cases_eq j k);
    }
  where
    within : (k : ℕ) → IsInside s k → k - s.from < length marks
    within k inside = let low = inside.low in let high = inside.high in omega (arith, are.long)

    renamed : (j g : ℕ) → g < length (groups ++ es ∷ []) → IsNamedBy (get_or (groups ++ es ∷ []) g []) (step_at path j) → IsNamedBy (get_or (groups ++ (es ++ e ∷ []) ∷ []) g []) (step_at path j)
    renamed j g h by =
        ⊎_elim
        (λ (below : g < length groups). subst (λ (fs : List ElementSpec). IsNamedBy fs (step_at path j)) (get_or_append_left groups (es ∷ []) [] g below ∙ sym (get_or_append_left groups ((es ++ e ∷ []) ∷ []) [] g below)) by)
        (λ (above : length groups ≤ g).
        let last : length groups ≡ g = omega (arith, length-append groups (es ∷ [])) in
        subst (λ (fs : List ElementSpec). IsNamedBy fs (step_at path j)) (sym (get_or_push groups (es ++ e ∷ []) [] g last))
        (named_left es (e ∷ []) (step_at path j) (subst (λ (fs : List ElementSpec). IsNamedBy fs (step_at path j)) (get_or_push groups es [] g last) by)))
        (cases_lt g (length groups))

    named_before : (j g : ℕ) → IsInside s j → j ≢ k → g < length (groups ++ (es ++ e ∷ []) ∷ []) → IsNamedBy (get_or (groups ++ (es ++ e ∷ []) ∷ []) g []) (step_at path j) → IsNamedBy (get_or (groups ++ es ∷ []) g []) (step_at path j)
    named_before j g in_j other h by =
        ⊎_elim
        (λ (below : g < length groups). subst (λ (fs : List ElementSpec). IsNamedBy fs (step_at path j)) (get_or_append_left groups ((es ++ e ∷ []) ∷ []) [] g below ∙ sym (get_or_append_left groups (es ∷ []) [] g below)) by)
        (λ (above : length groups ≤ g).
        let last : length groups ≡ g = omega (arith, length-append groups ((es ++ e ∷ []) ∷ [])) in
        subst (λ (fs : List ElementSpec). IsNamedBy fs (step_at path j)) (sym (get_or_push groups es [] g last))
        (⊎_elim (λ (old : IsNamedBy es (step_at path j)). old) (λ (new : Names e (step_at path j)). absurd (other (one e j k in_j inside new names)))
        (named_cases es e (step_at path j) (subst (λ (fs : List ElementSpec). IsNamedBy fs (step_at path j)) (get_or_push groups (es ++ e ∷ []) [] g last) by))))
        (cases_lt g (length groups))

pub names_one : (paths : List PathSpec) → StepsOnce paths → (s : Stretch) → s.path < length paths → s.to ≤ length (path_at paths s.path).steps → NamesOne (path_at paths s.path) s
names_one paths once s path within e j k in_j in_k names names_too =
    let high = in_j.high in
    let high_k = in_k.high in
    (place_once paths once s.path j s.path k e.instance e.path (record { path = path; step = omega arith }) (record { path = path; step = omega arith }) names names_too).1

-- one more ORDERED element
pub marks_more_ordered : (path : PathSpec) (s : Stretch) → NamesOne path s → (before : List (List ElementSpec)) (es : List ElementSpec) (i : ℕ) (d : ElementSpec) (old new : List ℕ) → i < length es → StandsIn path s (get_or es i d)
    → ((k : ℕ) → IsInside s k → Names (get_or es i d) (step_at path k) → new ≡ set old (k - s.from) (length before + 1)) → AreMarks path s (before ++ take i es ∷ []) old → AreMarks path s (before ++ take (i + 1) es ∷ []) new
marks_more_ordered path s one before es i d old new h stands writes are =
    subst (λ (ms : List ℕ). AreMarks path s (before ++ take (i + 1) es ∷ []) ms) (sym (writes stands.0 stands.1 stands.2))
    (subst (λ (fs : List ElementSpec). AreMarks path s (before ++ fs ∷ []) (set old (stands.0 - s.from) (length before + 1))) (sym (take_more es i d h))
    (marks_more path s one before (take i es) (get_or es i d) old stands.0 stands.1 stands.2 are))

-- one more FLOATING element
pub marks_more_floating : (path : PathSpec) (s : Stretch) → NamesOne path s → (before : List (List ElementSpec)) (es : List ElementSpec) (i : ℕ) (d : ElementSpec) (old new : List ℕ) → i < length es → StandsIn path s (get_or es i d)
    → ((k : ℕ) → IsInside s k → Names (get_or es i d) (step_at path k) → new ≡ set old (k - s.from) (length before + i + 1)) → AreMarks path s (before ++ map (λ e. e ∷ []) (take i es)) old → AreMarks path s (before ++ map (λ e. e ∷ []) (take (i + 1) es)) new
marks_more_floating path s one before es i d old new h stands writes are =
    let done = before ++ map (λ e. e ∷ []) (take i es) in
    let count : length (before ++ map (λ e. e ∷ []) (take i es)) ≡ length before + i = omega (arith, length-append before (map (λ e. e ∷ []) (take i es)), length-map (take i es) (λ (e : ElementSpec). e ∷ []), length-take-le i es (omega arith)) in
    let added = marks_more path s one (before ++ map (λ e. e ∷ []) (take i es)) [] (get_or es i d) old stands.0 stands.1 stands.2 (marks_group path s (before ++ map (λ e. e ∷ []) (take i es)) old are) in
    let groups : (before ++ map (λ e. e ∷ []) (take i es)) ++ (get_or es i d ∷ []) ∷ [] ≡ before ++ map (λ e. e ∷ []) (take (i + 1) es) =
    append_assoc before (map (λ e. e ∷ []) (take i es)) ((get_or es i d ∷ []) ∷ []) ∙ ap (λ (xs : List (List ElementSpec)). before ++ xs) (sym (map_more (λ (e : ElementSpec). e ∷ []) es i d h)) in
    subst (λ (ms : List ℕ). AreMarks path s (before ++ map (λ e. e ∷ []) (take (i + 1) es)) ms) (sym (writes stands.0 stands.1 stands.2))
    (subst (λ (gs : List (List ElementSpec)). AreMarks path s gs (set old (stands.0 - s.from) (length before + i + 1))) groups
    (subst (λ (n : ℕ). AreMarks path s ((before ++ map (λ e. e ∷ []) (take i es)) ++ (get_or es i d ∷ []) ∷ []) (set old (stands.0 - s.from) (n + 1))) count added))
