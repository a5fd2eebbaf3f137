-- What is kept of steps by their scan paths, as one member more is looked at.
use Rattle.std.proofs.Common.{◌≡◌, ℕ, ◌+◌, ◌<◌, ◌≤◌, Bool, true, false, cond, ◌||◌, List, [], ◌∷◌, length, get_or, take, Option, Some, None, refl, sym, ap, ap₂, ◌∙◌}
use Rattle.std.specs.List.{find, list_any}
use Rattle.std.specs.Option.{option_or}
use Rattle.std.proofs.lemmas.List.{get_or_default}
use Rattle.std.proofs.lemmas.List.Folds.{list_any-append, find-append}
use Rattle.base_types.proofs.TruthValues.{or_false, or_assoc}
use Rattle.list_laws.proofs.RowsMore.{take_next, flat_next}
use Rattle.chain_trace.specs.declared.path.Step.{Step}
use Rattle.chain_trace.specs.declared.path.Path.{Path}
use Rattle.traced_paths.specs.Traced.{steps_of}

or_cond : (a b : Bool) → cond b true a ≡ (a || b)
or_cond true true = refl
or_cond true false = refl
or_cond false true = refl
or_cond false false = refl

any_next : {X : Type 0} (test : X → Bool) (xs : List X) (i : ℕ) (x : X) → i < length xs → x ≡ get_or xs i x → list_any test (take (i + 1) xs) ≡ (list_any test (take i xs) || test x)
any_next test xs i x lt is =
    ap (list_any test) (take_next xs i x lt is) ∙ list_any-append test (take i xs) (x ∷ []) ∙ ap (λ (b : Bool). list_any test (take i xs) || b) (or_false (test x))

-- a member that is put in a set
pub put_next : {X : Type 0} (test : X → Bool) (xs : List X) (i : ℕ) (x : X) (first old new : Bool) → i < length xs → x ≡ get_or xs i x → new ≡ cond (test x) true old → old ≡ (first || list_any test (take i xs))
    → new ≡ (first || list_any test (take (i + 1) xs))
put_next test xs i x first old new lt is put was =
    put ∙ or_cond old (test x) ∙ ap (λ (b : Bool). b || test x) was ∙ or_assoc first (list_any test (take i xs)) (test x) ∙ ap (λ (b : Bool). first || b) (sym (any_next test xs i x lt is))

-- the same of the member at its place
pub put_at : {X : Type 0} (test : X → Bool) (xs : List X) (i : ℕ) (d : X) (first old new : Bool) → i < length xs → new ≡ cond (test (get_or xs i d)) true old → old ≡ (first || list_any test (take i xs))
    → new ≡ (first || list_any test (take (i + 1) xs))
put_at test xs i d first old new lt put was = put_next test xs i (get_or xs i d) first old new lt (get_or_default xs i d (get_or xs i d) lt) put was

option_or_assoc : {X : Type 0} (a b c : Option X) → option_or (option_or a b) c ≡ option_or a (option_or b c)
option_or_assoc None b c = refl
option_or_assoc (Some x) b c = refl

-- the first that passes, with one member more
pub find_next : {X : Type 0} (test : X → Bool) (xs : List X) (i : ℕ) (x : X) (first old new : Option X) → i < length xs → x ≡ get_or xs i x → new ≡ option_or old (cond (test x) (Some x) None)
    → old ≡ option_or first (find test (take i xs)) → new ≡ option_or first (find test (take (i + 1) xs))
find_next test xs i x first old new lt is put was =
    put ∙ ap (λ (o : Option _). option_or o (cond (test x) (Some x) None)) was ∙ option_or_assoc first (find test (take i xs)) (cond (test x) (Some x) None)
    ∙ ap (λ (o : Option _). option_or first o) (sym (ap (find test) (take_next xs i x lt is) ∙ find-append test (take i xs) (x ∷ [])))

-- the same of the member at its place
pub find_at : {X : Type 0} (test : X → Bool) (xs : List X) (i : ℕ) (d : X) (first old new : Option X) → i < length xs → new ≡ option_or old (cond (test (get_or xs i d)) (Some (get_or xs i d)) None)
    → old ≡ option_or first (find test (take i xs)) → new ≡ option_or first (find test (take (i + 1) xs))
find_at test xs i d first old new lt put was = find_next test xs i (get_or xs i d) first old new lt (get_or_default xs i d (get_or xs i d) lt) put was

-- with the steps of one path more
pub steps_next : (test : Step → Bool) (paths : List Path) (i : ℕ) (path : Path) (steps : List Step) (old new : Option Step) → i < length paths → path ≡ get_or paths i path → steps ≡ path.steps
    → new ≡ option_or old (find test steps) → old ≡ find test (steps_of (take i paths)) → new ≡ find test (steps_of (take (i + 1) paths))
steps_next test paths i path steps old new lt is same put was =
    put ∙ ap₂ (λ (o : Option Step) (l : List Step). option_or o (find test l)) was same
    ∙ sym (find-append test (steps_of (take i paths)) path.steps)
    ∙ ap (find test) (sym (flat_next (λ (p : Path). p.steps) paths i path lt is))
