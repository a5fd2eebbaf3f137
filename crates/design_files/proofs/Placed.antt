-- No scan path stands twice in the paths as numbers, and their bits are few.
use Rattle.std.proofs.Common.{◌≡◌, ◌⊎◌, ℕ, zero, suc, ◌+◌, ◌<◌, ◌≤◌, ◌^◌, List, [], ◌∷◌, ◌++◌, length, get_or, map, take, inl, inr, ⊎_elim, refl, sym, ap, ◌∙◌, subst, arith, length-append}
use Rattle.std.specs.Prelude.{sum_by, Option}
use Rattle.std.specs.List.{flat_map}
use Rattle.std.proofs.lemmas.Bool.{cases_order}
use Rattle.std.proofs.lemmas.List.{get_or-map, length-map}
use Rattle.std.proofs.lemmas.List.Concat.{get_or-flat_map}
use Rattle.std.proofs.lemmas.List.Folds.{length-flat_map-take}
use Rattle.std.proofs.lemmas.List.Sums.{sum_by-cons}
use Rattle.netlist_core.specs.declared.netlist.NetId.{NetId}
use Rattle.netlist_core.specs.declared.netlist.Netlist.{Netlist}
use Rattle.cell_table.specs.Cells.{Cells}
use Rattle.chain_trace.specs.declared.path.Path.{Path}
use Rattle.chain_trace.specs.declared.path.Step.{Step}
use Rattle.chain_trace.specs.Paths.{AreOfOnePath, StandOnce}
use Rattle.chain_rules.specs.declared.spec.PathSpec.{PathSpec}
use Rattle.chain_rules.specs.declared.spec.StepSpec.{StepSpec}
use Rattle.chain_rules.specs.Stretches.{path_at, step_at, no_path as no_spec, no_step as no_step_spec, IsOf, IsPlace, StepsOnce}
use Rattle.def_reader.specs.declared.design.Design.{Design}
use Rattle.traced_paths.specs.Traced.{steps_of}
use Rattle.traced_paths.specs.Bits.{step_bits, path_bits, all_bits}
use Rattle.path_numbers.specs.Numbers.{step_spec, path_spec, path_specs}

-- a path without steps, and a step, read where a number is none's
abbrev pub no_path : Path
no_path = record { input = record { 0 = 0 }; output = record { 0 = 0 }; steps = [] }

abbrev pub no_step : Step
no_step = record { instance = 0; path = 0; out = 0 }

-- the pieces up to a later one hold the whole of an earlier one
pieces_below : {X A : Type 0} (f : X → List A) (xs : List X) (d : X) (i j : ℕ) → i < j → j < length xs
    → length (flat_map f (take i xs)) + length (f (get_or xs i d)) ≤ length (flat_map f (take j xs))
pieces_below f [] d i j lt within = absurd (omega arith)
pieces_below f (x ∷ xs) d i zero lt within = absurd (omega arith)
pieces_below f (x ∷ xs) d zero (suc j) lt within = omega (arith, length-append (f x) (flat_map f (take j xs)))
pieces_below f (x ∷ xs) d (suc i) (suc j) lt within =
    let more = pieces_below f xs d i j (omega arith) (omega arith) in
    omega (arith, length-append (f x) (flat_map f (take i xs)), length-append (f x) (flat_map f (take j xs)))

-- a sum over what a function makes
sum_made : {X Y : Type 0} (f : Y → ℕ) (g : X → Y) (xs : List X) → sum_by f (map g xs) ≡ sum_by (λ x. f (g x)) xs
sum_made f g [] = refl
sum_made f g (x ∷ xs) = sum_by-cons f (g x) (map g xs) ∙ ap (λ (n : ℕ). f (g x) + n) (sum_made f g xs) ∙ sym (sum_by-cons (λ (y : _). f (g y)) x xs)

sum_alike : {X : Type 0} (f g : X → ℕ) (xs : List X) → ((x : X) → f x ≡ g x) → sum_by f xs ≡ sum_by g xs
sum_alike f g [] same = refl
sum_alike f g (x ∷ xs) same =
    let first = same x in
    let rest = sum_alike f g xs same in
    omega (arith, sum_by-cons f x xs, sum_by-cons g x xs)

module _ (n : Netlist) (cells : Cells) (d : Option Design) (paths : List Path) where
  abbrev specs : List PathSpec
  specs = path_specs n cells d paths

  -- the path of a number, and its steps
  abbrev path_of : ℕ → Path
  path_of i = get_or paths i no_path

  abbrev step_of : ℕ → ℕ → Step
  step_of i k = get_or (path_of i).steps k no_step

  spec_is : (i : ℕ) → i < length paths → path_at specs i ≡ path_spec n cells d (path_of i)
  spec_is i lt = get_or-map (path_spec n cells d) paths i no_path no_spec lt

  pub step_is : (i k : ℕ) → i < length paths → k < length (path_of i).steps → step_at (path_at specs i) k ≡ step_spec n cells (step_of i k)
  step_is i k lt on =
      ap (λ (p : PathSpec). step_at p k) (spec_is i lt) ∙ get_or-map (step_spec n cells) (path_of i).steps k no_step no_step_spec on

  -- a place of the specs is one of the paths
  pub record IsHere (i k : ℕ) : Type 0 where
    pub path : i < length paths
    pub step : k < length (path_of i).steps

  pub here : (i k : ℕ) → IsPlace specs i k → IsHere i k
  here i k at =
      let lt : i < length paths = subst (λ (m : ℕ). i < m) (length-map paths (path_spec n cells d)) at.path in
      record {
        path = lt;
        step = subst (λ (m : ℕ). k < m) (ap (λ (p : PathSpec). length p.steps) (spec_is i lt) ∙ length-map (path_of i).steps (step_spec n cells)) at.step;
      }

  -- the place of a step among the steps of all paths
  abbrev flat : ℕ → ℕ → ℕ
  flat i k = length (steps_of (take i paths)) + k

  at_flat : (i k : ℕ) → IsHere i k → get_or (steps_of paths) (flat i k) no_step ≡ step_of i k
  at_flat i k at = get_or-flat_map (λ (p : Path). p.steps) paths i k no_path no_step at.path at.step

  flat_within : (i k : ℕ) → IsHere i k → flat i k < length (steps_of paths)
  flat_within i k at =
      let all = length-flat_map-take (λ (p : Path). p.steps) paths i no_path at.path in
      let step = at.step in
      omega arith

  flat_apart : (i k j l : ℕ) → IsHere i k → IsHere j l → i < j → flat i k ≡ flat j l → ⊥
  flat_apart i k j l at to lt same =
      let below = pieces_below (λ (p : Path). p.steps) paths no_path i j lt to.path in
      let step = at.step in
      omega arith

  flat_once : (i k j l : ℕ) → IsHere i k → IsHere j l → flat i k ≡ flat j l → (i ≡ j) × (k ≡ l)
  flat_once i k j l at to same =
      ⊎_elim
      (λ (e : i ≡ j). (e, omega (arith, ap (λ (m : ℕ). length (steps_of (take m paths))) e)))
      (λ (far : (i < j) ⊎ (j < i)). ⊎_elim (λ (lt : i < j). absurd (flat_apart i k j l at to lt same)) (λ (gt : j < i). absurd (flat_apart j l i k to at gt (sym same))) far)
      (cases_order i j)

  -- a scan path stands once over all paths
  pub steps_once : StandOnce (steps_of paths) → StepsOnce specs
  steps_once once i k j l at to same =
      let a = here i k at in
      let b = here j l to in
      let one = step_is i k a.path a.step in
      let other = step_is j l b.path b.step in
      let alike : AreOfOnePath (get_or (steps_of paths) (flat i k) no_step) (get_or (steps_of paths) (flat j l) no_step) =
      record {
        instance = ap (λ (s : Step). s.instance) (at_flat i k a) ∙ ap (λ (s : StepSpec). s.instance) (sym one) ∙ same.instance ∙ ap (λ (s : StepSpec). s.instance) other ∙ ap (λ (s : Step). s.instance) (sym (at_flat j l b));
        path = ap (λ (s : Step). s.path) (at_flat i k a) ∙ ap (λ (s : StepSpec). s.path) (sym one) ∙ same.path ∙ ap (λ (s : StepSpec). s.path) other ∙ ap (λ (s : Step). s.path) (sym (at_flat j l b));
      } in
      flat_once i k j l a b (once (flat i k) (flat j l) no_step (flat_within i k a) (flat_within j l b) alike)

  -- the bits of the paths as numbers
  pub bits_are : sum_by (λ path. sum_by (λ s. s.bits) path.steps) specs ≡ all_bits n cells paths
  bits_are =
      sum_made (λ (p : PathSpec). sum_by (λ s. s.bits) p.steps) (path_spec n cells d) paths
      ∙ sum_alike (λ (p : Path). sum_by (λ s. s.bits) (map (step_spec n cells) p.steps)) (path_bits n cells) paths (λ p. sum_made (λ (s : StepSpec). s.bits) (step_spec n cells) p.steps)
