-- The marks of scan paths that were met.
use Rattle.std.proofs.Common.{◌≡◌, ℕ, ◌==◌, ◌&&◌, ◌||◌, get_or, Bool, true, false, cond, List, [], ◌∷◌, ◌++◌, refl, sym, ap, ap₂, ◌∙◌, subst}
use Rattle.std.specs.List.{list_any}
use Rattle.std.specs.HashSet.{HashSet, contains}
use Rattle.std.proofs.lemmas.Bool.{eqb-true, eq-eqb}
use Rattle.std.proofs.lemmas.List.{get_or_default}
use Rattle.std.proofs.lemmas.List.Folds.{list_any-append, list_any_at, Any-from_list_any}
use Rattle.base_types.proofs.TruthValues.{or_false, and_first, and_second}
use Rattle.chain_trace.specs.declared.path.Step.{Step}
use Rattle.chain_trace.specs.Paths.{AreOfOnePath}
use Rattle.chain_trace.specs.Faults.{IsAmong}
use Rattle.chain_trace.specs.Drivers.{same_place, AreMarks}

abbrev At : ℕ × ℕ → Step → Bool
At q step = same_place (step.instance, step.path) q

or_cond : (a b : Bool) → cond a true b ≡ (b || a)
or_cond true true = refl
or_cond true false = refl
or_cond false true = refl
or_cond false false = refl

-- no marks
pub marks_start : {S : Type 0} (marks : HashSet (ℕ × ℕ) S) → ((q : ℕ × ℕ) → contains same_place marks q ≡ false) → AreMarks [] marks
marks_start marks none q = none q

-- one more mark
pub marks_more : {S : Type 0} (steps : List Step) (step : Step) (old new : HashSet (ℕ × ℕ) S) → AreMarks steps old
    → ((q : ℕ × ℕ) → contains same_place new q ≡ cond (same_place (step.instance, step.path) q) true (contains same_place old q)) → AreMarks (steps ++ step ∷ []) new
marks_more steps step old new marks put q =
    put q ∙ or_cond (At q step) (contains same_place old q) ∙ ap₂ (λ (a b : Bool). a || b) (marks q) (sym (or_false (At q step))) ∙ sym (list_any-append (At q) steps (step ∷ []))

-- a step that is marked is among the steps
pub marked_among : (steps : List Step) (step : Step) → list_any (At (step.instance, step.path)) steps ≡ true → IsAmong steps step
marked_among steps step h =
    let any = Any-from_list_any (At (step.instance, step.path)) steps h in
    let x = any.1 in
    let i : x.instance ≡ step.instance = eqb-true x.instance step.instance (and_first (x.instance == step.instance) (x.path == step.path) any.4) in
    let p : x.path ≡ step.path = eqb-true x.path step.path (and_second (x.instance == step.instance) (x.path == step.path) any.4) in
    let same : get_or steps any.0 step ≡ x = get_or_default steps any.0 step x any.2 ∙ any.3 in
    (any.0, any.2, subst (λ (y : Step). AreOfOnePath y step) (sym same) (record { instance = i; path = p }))

pub among_marked : (steps : List Step) (step : Step) → IsAmong steps step → list_any (At (step.instance, step.path)) steps ≡ true
among_marked steps step a = list_any_at (At (step.instance, step.path)) steps a.0 step a.1 (ap₂ ◌&&◌ (eq-eqb _ _ a.2.instance) (eq-eqb _ _ a.2.path))
