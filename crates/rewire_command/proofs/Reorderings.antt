-- The path in the order of the words is the read one, its steps put into another order.
use Rattle.std.proofs.Common.{◌≡◌, ℕ, zero, suc, ◌<◌, Bool, cond, List, [], ◌∷◌, length, map, get_or, slice_get, Option, Some, find, filter_map, Contains, refl, sym, ap, ◌∙◌, subst, inl, inr, arith}
use Rattle.std.specs.List.{cons_option}
use Rattle.std.specs.Str.{bytes_eq}
use Rattle.std.specs.List.{AllByRecursion as Each}
use Rattle.base_types.proofs.TruthValues.{bytes_same}
use Rattle.netlist_core.specs.declared.netlist.Netlist.{Netlist}
use Rattle.netlist_core.specs.Netlists.{IsNetlist}
use Rattle.chain_trace.specs.declared.path.Step.{Step}
use Rattle.chain_trace.specs.declared.path.Path.{Path}
use Rattle.chain_trace.specs.declared.path.Source.{Source}
use Rattle.chain_trace.specs.declared.path.Source.TheVariants as sources
use Rattle.chain_trace.specs.declared.path.Sink.TheVariants as sinks
use Rattle.chain_trace.specs.Paths.{StandOnce}
use Rattle.path_links.specs.Direct.{last_source}
use Rattle.rewire_command.specs.declared.rewire.Rewire.{Rewire}
use Rattle.rewire_command.specs.Rewiring.{name_of, instance_name, instance_names, step_named, ordered, IsTraced}
use Rattle.rewire_command.specs.Faults.{last_from, last_name, AreInstances}
use Rattle.rewire_command.proofs.Members.{IsIn, Same, Other, names, has_in, in_has, in_map, AreApart, IsDistinct_apart}
use Rattle.rewire_command.proofs.Units.{IsUnit, lead_units, same_unit}

-- members by their places
in_at : {X : Type 0} (xs : List X) (k : ℕ) (d : X) → k < length xs → IsIn (get_or xs k d) xs
in_at [] k d lt = absurd (omega (arith, lt))
in_at (x ∷ xs) zero d lt = inl refl
in_at (x ∷ xs) (suc k) d lt = inr (in_at xs k d (omega (arith, lt)))

pub contains_in : {X : Type 0} (xs : List X) (x : X) → Contains xs x → IsIn x xs
contains_in xs x c = subst (λ (y : _). IsIn y xs) c.2 (in_at xs c.0 x c.1)

pub in_contains : {X : Type 0} (xs : List X) (x : X) → IsIn x xs → Contains xs x
in_contains [] x i = absurd i
in_contains (y ∷ xs) x (inl e) = (0, omega arith, sym e)
in_contains (y ∷ xs) x (inr i) = let c = in_contains xs x i in (suc c.0, omega (arith, c.1), c.2)

each_in : {X : Type 0} (P : X → Type 0) (xs : List X) (x : X) → Each P xs → IsIn x xs → P x
each_in P [] x e i = absurd i
each_in P (y ∷ xs) x e (inl is) = subst P (sym is) e.0
each_in P (y ∷ xs) x e (inr i) = each_in P xs x e.1 i

in_each : {X : Type 0} (P : X → Type 0) (xs : List X) → ((x : X) → IsIn x xs → P x) → Each P xs
in_each P [] f = tt
in_each P (x ∷ xs) f = (f x (inl refl), in_each P xs (λ y i. f y (inr i)))

record From {X Y : Type 0} (f : X → Y) (xs : List X) (y : Y) : Type 0 where
  member : X
  there : IsIn member xs
  gives : f member ≡ y

map_in : {X Y : Type 0} (f : X → Y) (xs : List X) (y : Y) → IsIn y (map f xs) → From f xs y
map_in f [] y i = absurd i
map_in f (x ∷ xs) y (inl e) = record { member = x; there = inl refl; gives = sym e }
map_in f (x ∷ xs) y (inr i) = let r = map_in f xs y i in record { member = r.member; there = inr r.there; gives = r.gives }

-- members whose names stand once
not_among : {X : Type 0} (f : X → List ℕ) (xs : List X) (k : ℕ) (d : X) (name : List ℕ) → (IsIn name (map f xs) → ⊥) → k < length xs → name ≡ f (get_or xs k d) → ⊥
not_among f xs k d name none lt e = none (subst (λ (y : List ℕ). IsIn y (map f xs)) (sym e) (in_map f xs (get_or xs k d) (in_at xs k d lt)))

once_by : {X : Type 0} (f : X → List ℕ) (xs : List X) (i j : ℕ) (d : X) → AreApart (map f xs) → i < length xs → j < length xs → f (get_or xs i d) ≡ f (get_or xs j d) → i ≡ j
once_by f [] i j d a lt ut e = absurd (omega (arith, lt))
once_by f (x ∷ xs) zero zero d a lt ut e = refl
once_by f (x ∷ xs) zero (suc j) d a lt ut e = absurd (not_among f xs j d (f x) a.0 (omega (arith, ut)) e)
once_by f (x ∷ xs) (suc i) zero d a lt ut e = absurd (not_among f xs i d (f x) a.0 (omega (arith, lt)) (sym e))
once_by f (x ∷ xs) (suc i) (suc j) d a lt ut e = ap suc (once_by f xs i j d a.1 (omega (arith, lt)) (omega (arith, ut)) e)

-- the step that is found by a name
record IsFound (n : Netlist) (steps : List Step) (name : List ℕ) : Type 0 where
  step : Step
  is : find (λ step. bytes_eq (instance_name n step) name) steps ≡ Some step
  there : IsIn step steps
  called : instance_name n step ≡ name

found : (n : Netlist) (steps : List Step) (name : List ℕ) → IsIn name (map (instance_name n) steps) → IsFound n steps name
found n [] name i = absurd i
found n (s ∷ ss) name i =
    elim (names (instance_name n s) name) [
      | Same same ↦ record {
        step = s;
        is = ap (λ (t : Bool). cond t (Some s) (find (λ step. bytes_eq (instance_name n step) name) ss)) (bytes_same (instance_name n s) name same);
        there = inl refl;
        called = same;
      }
      | Other other no_is ↦
          (let r = found n ss name (elim i [ inl e ↦ absurd (no_is (sym e)) | inr j ↦ j ]) in
          record {
            step = r.step;
            is = ap (λ (t : Bool). cond t (Some s) (find (λ step. bytes_eq (instance_name n step) name) ss)) other ∙ r.is;
            there = inr r.there;
            called = r.called;
          })
    ]

-- the steps of the words have their names
pub named_so : (n : Netlist) (path : Path) (words : List (List ℕ)) → ((name : List ℕ) → IsIn name words → IsIn name (instance_names n path)) → map (instance_name n) (filter_map (step_named n path) words) ≡ words
named_so n path [] known = refl
named_so n path (word ∷ words) known =
    let here = found n path.steps word (known word (inl refl)) in
    ap (λ (o : Option Step). map (instance_name n) (cons_option o (filter_map (step_named n path) words))) here.is
    ∙ ap (λ (name : List ℕ). name ∷ map (instance_name n) (filter_map (step_named n path) words)) here.called
    ∙ ap (λ (names : List (List ℕ)). word ∷ names) (named_so n path words (λ name i. known name (inr i)))

-- and stand on the path
words_in : (n : Netlist) (path : Path) (words : List (List ℕ)) (step : Step) → ((name : List ℕ) → IsIn name words → IsIn name (instance_names n path)) → IsIn step (filter_map (step_named n path) words)
    → IsIn step path.steps
words_in n path [] step known i = absurd i
words_in n path (word ∷ words) step known i =
    let here = found n path.steps word (known word (inl refl)) in
    let j : IsIn step (here.step ∷ filter_map (step_named n path) words)
    = subst (λ (o : Option Step). IsIn step (cons_option o (filter_map (step_named n path) words))) here.is i
    in
    elim j [ inl e ↦ subst (λ (s : Step). IsIn s path.steps) (sym e) here.there | inr k ↦ words_in n path words step (λ name i. known name (inr i)) k ]

-- the last of some steps
abbrev final : Step → List Step → Step
final step [] = step
final step (other ∷ others) = final other others

final_source : (source : Source) (step : Step) (steps : List Step) → last_source source (step ∷ steps) ≡ sources.Out (final step steps)
final_source source step [] = refl
final_source source step (other ∷ others) = final_source (sources.Out step) other others

final_name : (n : Netlist) (before : List ℕ) (step : Step) (steps : List Step) → last_from before (map (instance_name n) (step ∷ steps)) ≡ instance_name n (final step steps)
final_name n before step [] = refl
final_name n before step (other ∷ others) = final_name n (instance_name n step) other others

final_each : (P : Step → Type 0) (step : Step) (steps : List Step) → Each P (step ∷ steps) → P (final step steps)
final_each P step [] e = e.0
final_each P step (other ∷ others) e = final_each P other others e.1

pub last_same : (n : Netlist) (source : Source) (xs ys : List Step) → IsNetlist n → Each (IsUnit n) xs → Each (IsUnit n) ys → ((s : Step) → IsIn s xs → IsIn s ys) → ((s : Step) → IsIn s ys → IsIn s xs)
    → last_name (map (instance_name n) xs) ≡ last_name (map (instance_name n) ys) → last_source source xs ≡ last_source source ys
last_same n source [] [] sound u v to back e = refl
last_same n source [] (y ∷ ys) sound u v to back e = absurd (back y (inl refl))
last_same n source (x ∷ xs) [] sound u v to back e = absurd (to x (inl refl))
last_same n source (x ∷ xs) (y ∷ ys) sound u v to back e =
    let same = same_unit n (final x xs) (final y ys) sound (final_each (IsUnit n) x xs u) (final_each (IsUnit n) y ys v) (sym (final_name n [] x xs) ∙ e ∙ final_name n [] y ys) in
    final_source source x xs ∙ ap sources.Out same ∙ sym (final_source source y ys)

module _ (text : List ℕ) (w : Rewire) (n : Netlist) (path : Path) (traced : IsTraced text w n path) (are : AreInstances w.units (instance_names n path)) where
  known : (name : List ℕ) → IsIn name w.units → IsIn name (instance_names n path)
  known name i = has_in name (instance_names n path) (sym (are.same name) ∙ in_has name w.units i)

  back_known : (name : List ℕ) → IsIn name (instance_names n path) → IsIn name w.units
  back_known name i = has_in name w.units (are.same name ∙ in_has name (instance_names n path) i)

  abbrev new : List Step
  new = filter_map (step_named n path) w.units

  -- the path in the order of the words has the words' instances
  pub ordered_names : instance_names n (ordered n path w.units) ≡ w.units
  ordered_names = named_so n path w.units known

  pub units : Each (IsUnit n) path.steps
  units = lead_units n w (sources.Port path.input) path.steps (sinks.Port path.output) traced.is.leads

  pub to_old : (step : Step) → IsIn step new → IsIn step path.steps
  to_old step i = words_in n path w.units step known i

  pub new_units : Each (IsUnit n) new
  new_units = in_each (IsUnit n) new (λ step i. each_in (IsUnit n) path.steps step units (to_old step i))

  pub to_new : (step : Step) → IsIn step path.steps → IsIn step new
  to_new step i =
      let named = back_known (instance_name n step) (in_map (instance_name n) path.steps step i) in
      let r = map_in (instance_name n) new (instance_name n step) (subst (λ (l : List (List ℕ)). IsIn (instance_name n step) l) (sym ordered_names) named) in
      let same = same_unit n r.member step traced.reads.sound (each_in (IsUnit n) new r.member new_units r.there) (each_in (IsUnit n) path.steps step units i) r.gives in
      subst (λ (s : Step). IsIn s new) same r.there

  pub once : StandOnce new
  once i j d lt ut one =
      once_by (instance_name n) new i j d (subst AreApart (sym ordered_names) (IsDistinct_apart w.units are.once)) lt ut
      (ap (λ (k : ℕ). name_of (slice_get n.instances k)) one.instance)
