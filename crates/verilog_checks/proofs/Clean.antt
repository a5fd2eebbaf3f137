-- Scalar nets none of which is a bit of a declared vector, as declarations are added.
use Rattle.std.proofs.Common.{◌≡◌, ℕ, Bool, true, false, cond, eqb, not, ◌&&◌, ◌||◌, List, [], ◌∷◌, ◌++◌, map, Option, Some, None, is_some, inl, inr, refl, sym, ap, ◌∙◌, subst, append_assoc}
use Rattle.std.specs.Prelude.{find}
use Rattle.std.specs.Option.{option_or}
use Rattle.std.specs.List.{list_any}
use Rattle.std.proofs.lemmas.Bool.{cases_Bool, not-false, and_parts}
use Rattle.std.proofs.lemmas.List.{append-nil}
use Rattle.std.proofs.lemmas.List.Folds.{list_any-append, find-append}
use Rattle.std.proofs.lemmas.Slice.Eq.{bytes_eq-Decides}
use Rattle.base_types.proofs.TruthValues.{or_false, or_first, or_second}
use Rattle.verilog_syntax.specs.declared.statement.Declared.{Declared}
use Rattle.verilog_names.specs.declared.bounds.Bounds.{Bounds}
use Rattle.verilog_names.specs.Declarations.{Declaration, declaration_of, is_named, first_of, bounds_or_none, bounds_in, is_port_kind, is_wire}
use Rattle.verilog_checks.specs.Checks.{stands_again, any_again, has_bit_in}
use Rattle.verilog_checks.specs.Faults.{same_bounds, may_stand_again}
use Rattle.verilog_checks.specs.Seen.{is_bit, IsClean}
use Rattle.verilog_checks.proofs.AnyLemmas.{any_or, any_same}
use Rattle.verilog_checks.proofs.BitLookups.{eq_true}

-- the test at the member that is found
record Found {X : Type 0} (p g : X → Bool) (f : X) : Type 0 where
  pub passes : p f ≡ true
  pub other : g f ≡ false

found : {X : Type 0} (p g : X → Bool) (f : X) (xs : List X) → find p xs ≡ Some f → list_any g xs ≡ false → Found p g f
found p g f [] is none = absurd cc
found p g f (x ∷ xs) is none =
    let cases : (t : Bool) → p x ≡ t → cond t (Some x) (find p xs) ≡ Some f → Found p g f
    = λ t. elim t as (λ t. p x ≡ t → cond t (Some x) (find p xs) ≡ Some f → Found p g f) [
      | true ↦ λ e h. let same : x ≡ f = cc in record { passes = sym (ap p same) ∙ e; other = sym (ap g same) ∙ or_first (g x) (list_any g xs) none }
      | false ↦ λ e h. found p g f xs h (or_second (g x) (list_any g xs) none)
    ]
    in cases (p x) refl is

-- what stands first stays so
or_some : {X : Type 0} (o p : Option X) → is_some o ≡ true → option_or o p ≡ o
or_some None p h = cc
or_some (Some x) p h = refl

first_stays : (so more : List Declaration) (q : List ℕ) → is_some (first_of q so) ≡ true → first_of q (so ++ more) ≡ first_of q so
first_stays so more q there = find-append (is_named q) so more ∙ or_some (first_of q so) (first_of q more) there

some_or : {X : Type 0} (o p : Option X) → is_some p ≡ true → is_some (option_or o p) ≡ true
some_or None p h = h
some_or (Some x) p h = refl

own_first : (front : List Declaration) (e : Declaration) (es : List Declaration) → is_some (first_of e.name (front ++ e ∷ es)) ≡ true
own_first front e es =
    ap (λ o. is_some o) (find-append (is_named e.name) front (e ∷ es))
    ∙ some_or (first_of e.name front) (first_of e.name (e ∷ es)) (ap (λ t. is_some (cond t (Some e) (first_of e.name es))) ((bytes_eq-Decides e.name e.name).1 refl))

-- a declaration more changes nothing at those before
stays_from : (n : List ℕ) (d : Declaration) (front es : List Declaration)
    → list_any (λ e. has_bit_in e.name (bounds_in ((front ++ es) ++ d ∷ []) e.name) n) es ≡ list_any (λ e. has_bit_in e.name (bounds_in (front ++ es) e.name) n) es
stays_from n d front [] = refl
stays_from n d front (e ∷ es) =
    let same : (front ++ e ∷ []) ++ es ≡ front ++ e ∷ es = append_assoc front (e ∷ []) es in
    let rest = stays_from n d (front ++ e ∷ []) es in
    let tail : list_any (λ x. has_bit_in x.name (bounds_in ((front ++ e ∷ es) ++ d ∷ []) x.name) n) es ≡ list_any (λ x. has_bit_in x.name (bounds_in (front ++ e ∷ es) x.name) n) es
    = subst (λ l. list_any (λ x. has_bit_in x.name (bounds_in (l ++ d ∷ []) x.name) n) es ≡ list_any (λ x. has_bit_in x.name (bounds_in l x.name) n) es) same rest in
    ap (λ o. has_bit_in e.name (bounds_or_none o) n || list_any (λ x. has_bit_in x.name (bounds_in ((front ++ e ∷ es) ++ d ∷ []) x.name) n) es) (first_stays (front ++ e ∷ es) (d ∷ []) e.name (own_first front e es))
    ∙ ap (λ t. has_bit_in e.name (bounds_in (front ++ e ∷ es) e.name) n || t) tail

is_bit_more : (so : List Declaration) (d : Declaration) (n : List ℕ) → is_bit (so ++ d ∷ []) n ≡ (is_bit so n || has_bit_in d.name (bounds_in (so ++ d ∷ []) d.name) n)
is_bit_more so d n =
    list_any-append (λ e. has_bit_in e.name (bounds_in (so ++ d ∷ []) e.name) n) so (d ∷ [])
    ∙ ap (λ t. t || (has_bit_in d.name (bounds_in (so ++ d ∷ []) d.name) n || false)) (stays_from n d [] so)
    ∙ ap (λ t. is_bit so n || t) (or_false (has_bit_in d.name (bounds_in (so ++ d ∷ []) d.name) n))

-- a name that is new
bounds_new : (so : List Declaration) (d : Declaration) → first_of d.name so ≡ None → bounds_in (so ++ d ∷ []) d.name ≡ d.bounds
bounds_new so d new =
    ap bounds_or_none (find-append (is_named d.name) so (d ∷ []) ∙ ap (λ o. option_or o (first_of d.name (d ∷ []))) new)
    ∙ ap (λ t. bounds_or_none (cond t (Some d) None)) ((bytes_eq-Decides d.name d.name).1 refl)

is_bit_new : (so : List Declaration) (d : Declaration) → first_of d.name so ≡ None → (n : List ℕ) → is_bit (so ++ d ∷ []) n ≡ (is_bit so n || has_bit_in d.name d.bounds n)
is_bit_new so d new n = is_bit_more so d n ∙ ap (λ o. is_bit so n || has_bit_in d.name o n) (bounds_new so d new)

-- a name that is known
bounds_known : (so : List Declaration) (d f : Declaration) → first_of d.name so ≡ Some f → bounds_in (so ++ d ∷ []) d.name ≡ f.bounds
bounds_known so d f known = ap bounds_or_none (first_stays so (d ∷ []) d.name (ap (λ o. is_some o) known) ∙ known)

bit_of_known : (so : List Declaration) (q : List ℕ) (f : Declaration) (n : List ℕ) → first_of q so ≡ Some f → is_bit so n ≡ false → has_bit_in q f.bounds n ≡ false
bit_of_known so q f n known none =
    let k = found (is_named q) (λ e. has_bit_in e.name (bounds_in so e.name) n) f so known none in
    let name : f.name ≡ q = (bytes_eq-Decides f.name q).0 k.passes in
    sym (ap (λ v. has_bit_in v (bounds_in so v) n) name ∙ ap (λ o. has_bit_in q (bounds_or_none o) n) known) ∙ k.other

is_bit_known : (so : List Declaration) (d f : Declaration) → first_of d.name so ≡ Some f → (n : List ℕ) → is_bit (so ++ d ∷ []) n ≡ is_bit so n
is_bit_known so d f known n =
    is_bit_more so d n ∙ ap (λ o. is_bit so n || has_bit_in d.name o n) (bounds_known so d f known)
    ∙ elim (cases_Bool (is_bit so n)) [
      | inl there ↦ ap (λ t. t || has_bit_in d.name f.bounds n) there ∙ sym there
      | inr none ↦ ap (λ t. is_bit so n || t) (bit_of_known so d.name f n known none) ∙ or_false (is_bit so n)
    ]

eq_bounds : (a b : Option Bounds) → same_bounds a b ≡ true → a ≡ b
eq_bounds None None h = refl
eq_bounds None (Some b) h = absurd cc
eq_bounds (Some a) None h = absurd cc
eq_bounds (Some a) (Some b) h =
    let parts = and_parts (eqb a.left b.left) (eqb a.right b.right) h in
    ap (λ l. Some (record { left = l; right = a.right })) (eq_true a.left b.left parts.0) ∙ ap (λ r. Some (record { left = b.left; right = r })) (eq_true a.right b.right parts.1)

again_bounds : (f d : Declaration) → not (may_stand_again f d) ≡ false → f.bounds ≡ d.bounds
again_bounds f d h =
    let may = not-false (may_stand_again f d) h in
    eq_bounds f.bounds d.bounds (and_parts (is_port_kind f.kind && is_wire d.kind) (same_bounds f.bounds d.bounds) may).1

none_of : (so : List Declaration) (q : List ℕ) (f : Declaration) (names : List (List ℕ)) → first_of q so ≡ Some f → IsClean so names → list_any (has_bit_in q f.bounds) names ≡ false
none_of so q f [] known clean = refl
none_of so q f (n ∷ names) known clean =
    ap (λ t. t || list_any (has_bit_in q f.bounds) names) (bit_of_known so q f n known (or_first (is_bit so n) (list_any (is_bit so) names) clean))
    ∙ none_of so q f names known (or_second (is_bit so n) (list_any (is_bit so) names) clean)

-- a known name may stand again, and has no bit then
pub known_step : (so : List Declaration) (d f : Declaration) (names : List (List ℕ)) → first_of d.name so ≡ Some f → IsClean so names
    → (stands_again (first_of d.name so) d || list_any (has_bit_in d.name d.bounds) names) ≡ stands_again (first_of d.name so) d
known_step so d f names known clean =
    elim (cases_Bool (not (may_stand_again f d))) [
      | inl again ↦ ap (λ o. stands_again o d || list_any (has_bit_in d.name d.bounds) names) known ∙ ap (λ t. t || list_any (has_bit_in d.name d.bounds) names) again ∙ sym (ap (λ o. stands_again o d) known ∙ again)
      | inr may ↦
          ap (λ o. stands_again (first_of d.name so) d || list_any (has_bit_in d.name o) names) (sym (again_bounds f d may))
          ∙ ap (λ t. stands_again (first_of d.name so) d || t) (none_of so d.name f names known clean) ∙ or_false (stands_again (first_of d.name so) d)
    ]

pub known_clean : (so : List Declaration) (d f : Declaration) (names : List (List ℕ)) → first_of d.name so ≡ Some f → IsClean so names → IsClean (so ++ d ∷ []) names
known_clean so d f names known clean = any_same (is_bit (so ++ d ∷ [])) (is_bit so) names (is_bit_known so d f known) ∙ clean

pub new_clean : (so : List Declaration) (d : Declaration) (names : List (List ℕ)) → first_of d.name so ≡ None → IsClean so names → list_any (has_bit_in d.name d.bounds) names ≡ false → IsClean (so ++ d ∷ []) names
new_clean so d names new clean none =
    any_same (is_bit (so ++ d ∷ [])) (λ n. is_bit so n || has_bit_in d.name d.bounds n) names (is_bit_new so d new) ∙ any_or (is_bit so) (has_bit_in d.name d.bounds) names
    ∙ ap (λ t. t || list_any (has_bit_in d.name d.bounds) names) clean ∙ none

-- scalars that are declared make no bits
scalar_step : (so : List Declaration) (d : Declaration) → d.bounds ≡ None → stands_again (first_of d.name so) d ≡ false → (n : List ℕ) → is_bit (so ++ d ∷ []) n ≡ is_bit so n
scalar_step so d scalar good n = cases (first_of d.name so) refl
  where
    cases : (o : Option Declaration) → first_of d.name so ≡ o → is_bit (so ++ d ∷ []) n ≡ is_bit so n
    cases None e = is_bit_new so d e n ∙ ap (λ o. is_bit so n || has_bit_in d.name o n) scalar ∙ or_false (is_bit so n)
    cases (Some f) e = is_bit_known so d f e n

pub scalars_stay : (kind : Declared) (names : List (List ℕ)) (so : List Declaration) → any_again so (map (declaration_of kind None) names) ≡ false → (n : List ℕ) → is_bit (so ++ map (declaration_of kind None) names) n ≡ is_bit so n
unfolding any_again
scalars_stay kind [] so good n = ap (λ l. is_bit l n) (append-nil so)
scalars_stay kind (name ∷ names) so good n =
    let d = declaration_of kind None name in
    let ds = map (declaration_of kind None) names in
    ap (λ l. is_bit l n) (sym (append_assoc so (d ∷ []) ds))
    ∙ scalars_stay kind names (so ++ d ∷ []) (or_second (stands_again (first_of d.name so) d) (any_again (so ++ d ∷ []) ds) good) n
    ∙ scalar_step so d refl (or_first (stands_again (first_of d.name so) d) (any_again (so ++ d ∷ []) ds) good) n
