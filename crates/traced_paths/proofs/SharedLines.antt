-- The least line of an instance, of which a scan path stands on two paths.
use Rattle.std.proofs.Common.{◌≡◌, ℕ, ◌+◌, ◌<◌, ◌≤◌, ◌⊎◌, inl, inr, true, cond, List, [], ◌∷◌, ◌++◌, length, get_or, take, Option, None, Contains, refl, sym, ap, ◌∙◌, subst, append_assoc, arith}
use Rattle.std.specs.HashSet.{HashSet, contains}
use Rattle.std.specs.List.{slice_get}
use Rattle.std.proofs.lemmas.List.{take_all, take_more, get_or_default}
use Rattle.std.proofs.lemmas.List.Elements.{Contains-append_left, Contains-push, Contains-push_cases}
use Rattle.netlist_core.specs.declared.netlist.Netlist.{Netlist}
use Rattle.chain_trace.specs.declared.path.Path.{Path}
use Rattle.chain_trace.specs.declared.path.Step.{Step}
use Rattle.chain_trace.specs.Faults.{IsAmong, line_of_instance}
use Rattle.chain_trace.specs.Drivers.{same_place, AreMarks}
use Rattle.chain_trace.proofs.Marked.{marks_more, marked_among, among_marked}
use Rattle.list_laws.specs.Leasts.{IsLeast, lesser, found_if}
use Rattle.list_laws.proofs.LeastLines.{same_least, either, alone}
use Rattle.list_laws.proofs.RowsMore.{take_next, flat_next, split_last, nil_not}
use Rattle.traced_paths.specs.Traced.{steps_of}
use Rattle.traced_paths.specs.Steps.{is_marked, IsMarked, StandsAgain}

abbrev pub line_at : Netlist → Step → ℕ
line_at n step = line_of_instance (slice_get n.instances step.instance)

module _ (n : Netlist) {S : Type 0} (marks : HashSet (ℕ × ℕ) S) where
  module _ (steps : List Step) (step : Step) where
    to_end : (line : ℕ) → IsMarked n marks steps line ⊎ ((is_marked marks step ≡ true) × (line ≡ line_at n step)) → IsMarked n marks (steps ++ step ∷ []) line
    to_end line (inl h) = record { step = h.step; there = Contains-append_left steps (step ∷ []) h.step h.there; marked = h.marked; is = h.is }
    to_end line (inr h) = record { step = step; there = Contains-push steps step; marked = h.0; is = h.1 }

    from_end : (line : ℕ) → IsMarked n marks (steps ++ step ∷ []) line → IsMarked n marks steps line ⊎ ((is_marked marks step ≡ true) × (line ≡ line_at n step))
    from_end line h =
        elim (Contains-push_cases steps step h.step h.there) [
          | inl there ↦ inl (record { step = h.step; there = there; marked = h.marked; is = h.is })
          | inr same ↦ inr (subst (λ (s : Step). is_marked marks s ≡ true) (sym same) h.marked, h.is ∙ ap (line_at n) (sym same))
        ]

    marked_last : (r : Option ℕ) → IsLeast (IsMarked n marks steps) r → IsLeast (IsMarked n marks (steps ++ step ∷ [])) (lesser r (found_if (is_marked marks step) (line_at n step)))
    marked_last r least =
        same_least (λ line. IsMarked n marks steps line ⊎ ((is_marked marks step ≡ true) × (line ≡ line_at n step))) (IsMarked n marks (steps ++ step ∷ [])) _ to_end from_end
        (either (IsMarked n marks steps) (λ line. (is_marked marks step ≡ true) × (line ≡ line_at n step)) r (found_if (is_marked marks step) (line_at n step)) least (alone (is_marked marks step) (line_at n step)))

  pub marked_none : IsLeast (IsMarked n marks []) None
  marked_none = λ line h. absurd (omega (arith, h.there.1))

  -- one step more is looked at
  marked_next : (steps : List Step) (i : ℕ) (step : Step) (r : Option ℕ) → i < length steps → step ≡ get_or steps i step → IsLeast (IsMarked n marks (take i steps)) r
      → IsLeast (IsMarked n marks (take (i + 1) steps)) (lesser r (found_if (is_marked marks step) (line_at n step)))
  marked_next steps i step r lt is least =
      subst (λ (l : List Step). IsLeast (IsMarked n marks l) (lesser r (found_if (is_marked marks step) (line_at n step)))) (sym (take_next steps i step lt is)) (marked_last (take i steps) step r least)

  pub marked_at : (steps : List Step) (i : ℕ) (d : Step) (r : Option ℕ) → i < length steps → IsLeast (IsMarked n marks (take i steps)) r
      → IsLeast (IsMarked n marks (take (i + 1) steps)) (lesser r (found_if (is_marked marks (get_or steps i d)) (line_at n (get_or steps i d))))
  marked_at steps i d r lt least = marked_next steps i (get_or steps i d) r lt (get_or_default steps i d (get_or steps i d) lt) least

  pub marked_all : (steps : List Step) (i : ℕ) (r : Option ℕ) → length steps ≤ i → IsLeast (IsMarked n marks (take i steps)) r → IsLeast (IsMarked n marks steps) r
  marked_all steps i r le least = subst (λ (l : List Step). IsLeast (IsMarked n marks l) r) (take_all i steps le) least

  module _ (paths : List Path) (path : Path) (are : AreMarks (steps_of paths) marks) where
    to_last : (line : ℕ) → StandsAgain n paths line ⊎ IsMarked n marks path.steps line → StandsAgain n (paths ++ path ∷ []) line
    to_last line (inl h) = record {
      front = h.front;
      path = h.path;
      behind = h.behind ++ path ∷ [];
      is = ap (λ (l : List Path). l ++ path ∷ []) h.is ∙ append_assoc h.front (h.path ∷ h.behind) (path ∷ []);
      step = h.step;
      there = h.there;
      again = h.again;
      line_is = h.line_is;
    }
    to_last line (inr h) = record {
      front = paths;
      path = path;
      behind = [];
      is = refl;
      step = h.step;
      there = h.there;
      again = marked_among (steps_of paths) h.step (sym (are (h.step.instance, h.step.path)) ∙ h.marked);
      line_is = h.is;
    }

    from_last : (line : ℕ) → StandsAgain n (paths ++ path ∷ []) line → StandsAgain n paths line ⊎ IsMarked n marks path.steps line
    from_last line h =
        elim (split_last paths h.front h.behind path h.path h.is) [
          | inl w ↦ inl (record { front = h.front; path = h.path; behind = w.0; is = w.1; step = h.step; there = h.there; again = h.again; line_is = h.line_is })
          | inr w ↦
              inr (record {
                step = h.step;
                there = subst (λ (p : Path). Contains p.steps h.step) (sym w.1) h.there;
                marked = are (h.step.instance, h.step.path) ∙ among_marked (steps_of paths) h.step (subst (λ (l : List Path). IsAmong (steps_of l) h.step) (sym w.0) h.again);
                is = h.line_is;
              })
        ]

    again_last : (r here : Option ℕ) → IsLeast (StandsAgain n paths) r → IsLeast (IsMarked n marks path.steps) here → IsLeast (StandsAgain n (paths ++ path ∷ [])) (lesser r here)
    again_last r here least marked =
        same_least (λ line. StandsAgain n paths line ⊎ IsMarked n marks path.steps line) (StandsAgain n (paths ++ path ∷ [])) _ to_last from_last
        (either (StandsAgain n paths) (IsMarked n marks path.steps) r here least marked)

  -- one path more is looked at
  pub again_next : (paths : List Path) (i : ℕ) (path : Path) (r here : Option ℕ) → i < length paths → path ≡ get_or paths i path → AreMarks (steps_of (take i paths)) marks → IsLeast (StandsAgain n (take i paths)) r
      → IsLeast (IsMarked n marks path.steps) here → IsLeast (StandsAgain n (take (i + 1) paths)) (lesser r here)
  again_next paths i path r here lt is are least marked =
      subst (λ (l : List Path). IsLeast (StandsAgain n l) (lesser r here)) (sym (take_next paths i path lt is)) (again_last (take i paths) path are r here least marked)

pub again_none : (n : Netlist) → IsLeast (StandsAgain n []) None
again_none n = λ line h. nil_not h.front h.behind h.path h.is

pub again_all : (n : Netlist) (paths : List Path) (i : ℕ) (r : Option ℕ) → length paths ≤ i → IsLeast (StandsAgain n (take i paths)) r → IsLeast (StandsAgain n paths) r
again_all n paths i r le least = subst (λ (l : List Path). IsLeast (StandsAgain n l) r) (take_all i paths le) least

-- one step more is marked
pub marks_next : {S : Type 0} (before steps : List Step) (i : ℕ) (d : Step) (old new : HashSet (ℕ × ℕ) S) → i < length steps
    → ((q : ℕ × ℕ) → contains same_place new q ≡ cond (same_place ((get_or steps i d).instance, (get_or steps i d).path) q) true (contains same_place old q)) → AreMarks (before ++ take i steps) old
    → AreMarks (before ++ take (i + 1) steps) new
marks_next before steps i d old new lt put are =
    subst (λ (l : List Step). AreMarks l new) (append_assoc before (take i steps) (get_or steps i d ∷ []) ∙ ap (λ (l : List Step). before ++ l) (sym (take_more steps i d lt)))
    (marks_more (before ++ take i steps) (get_or steps i d) old new are put)

-- the steps of one path more are marked
pub path_marked : {S : Type 0} (paths : List Path) (i : ℕ) (path : Path) (steps : List Step) (marks : HashSet (ℕ × ℕ) S) → steps ≡ path.steps → i < length paths → path ≡ get_or paths i path
    → AreMarks (steps_of (take i paths) ++ steps) marks → AreMarks (steps_of (take (i + 1) paths)) marks
path_marked paths i path steps marks e lt is are =
    subst (λ (l : List Step). AreMarks l marks) (ap (λ (l : List Step). steps_of (take i paths) ++ l) e ∙ sym (flat_next (λ (p : Path). p.steps) paths i path lt is)) are
