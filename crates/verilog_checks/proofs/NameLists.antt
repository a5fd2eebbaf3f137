-- Lists of names, name by name.
use Rattle.std.proofs.Common.{◌≡◌, ℕ, ◌+◌, ◌<◌, ◌≤◌, Bool, true, false, cond, ◌||◌, List, [], ◌∷◌, ◌++◌, length, map, get_or, take, drop, Bor, refl, sym, ap, ◌∙◌}
use Rattle.std.specs.List.{list_any}
use Rattle.std.specs.Str.{bytes_eq}
use Rattle.std.proofs.lemmas.List.{drop_more, drop_all, take_more, map-append}
use Rattle.std.proofs.lemmas.List.Folds.{list_any-append}
use Rattle.base_types.proofs.TruthValues.{bytes_turned, or_false}
use Rattle.verilog_names.specs.Declarations.{has}
use Rattle.verilog_checks.proofs.AnyLemmas.{any_or, any_same}
use Rattle.verilog_checks.specs.Checks.{has_twice}

abbrev pub now_of : List (Bor (List ℕ)) → List (List ℕ)
now_of names = map (λ name. name.now) names

pub or_cond : (a b : Bool) → (a || b) ≡ cond b true a
or_cond true true = refl
or_cond true false = refl
or_cond false true = refl
or_cond false false = refl

pub has_last : (names : List (List ℕ)) (name q : List ℕ) → has (names ++ name ∷ []) q ≡ (has names q || bytes_eq name q)
has_last names name q = list_any-append (λ other. bytes_eq other q) names (name ∷ []) ∙ ap (λ b. has names q || b) (or_false (bytes_eq name q))

-- a name stands behind those before it, one of which it is
abbrev pub stands_behind : List (List ℕ) → List (List ℕ) → Bool
stands_behind before [] = false
stands_behind before (name ∷ names) = has before name || stands_behind (before ++ name ∷ []) names

regroup : (a b c d : Bool) → (a || ((b || c) || d)) ≡ ((a || b) || (c || d))
regroup true b c d = refl
regroup false true c d = refl
regroup false false c d = refl

-- the same by the definition, which looks the other way
behind : (before names : List (List ℕ)) → stands_behind before names ≡ (list_any (has before) names || has_twice names)
behind before [] = refl
behind before (name ∷ names) =
    ap (λ b. has before name || b)
    (behind (before ++ name ∷ []) names
    ∙ ap (λ b. b || has_twice names) (any_same (has (before ++ name ∷ [])) (λ q. has before q || bytes_eq q name) names (λ q. has_last before name q ∙ ap (λ b. has before q || b) (bytes_turned name q))
    ∙ any_or (has before) (λ q. bytes_eq q name) names))
    ∙ regroup (has before name) (list_any (has before) names) (has names name) (has_twice names)

no_first : (names : List (List ℕ)) → list_any (has []) names ≡ false
no_first [] = refl
no_first (name ∷ names) = no_first names

pub first_behind : (names : List (List ℕ)) → stands_behind [] names ≡ has_twice names
first_behind names = behind [] names ∙ ap (λ b. b || has_twice names) (no_first names)

pub now_last : (xs : List (Bor (List ℕ))) (i : ℕ) (d : Bor (List ℕ)) → i < length xs → now_of (take (i + 1) xs) ≡ now_of (take i xs) ++ (get_or xs i d).now ∷ []
now_last xs i d lt = ap now_of (take_more xs i d lt) ∙ map-append (λ (q : Bor (List ℕ)). q.now) (take i xs) (get_or xs i d ∷ [])

pub now_first : (xs : List (Bor (List ℕ))) (i : ℕ) (d : Bor (List ℕ)) → i < length xs → now_of (drop i xs) ≡ (get_or xs i d).now ∷ now_of (drop (i + 1) xs)
now_first xs i d lt = ap now_of (drop_more xs i d lt)

-- a set to which a name was added
pub added : (names : List (List ℕ)) (name q : List ℕ) (new old : Bool) → new ≡ cond (bytes_eq name q) true old → old ≡ has names q → new ≡ has (names ++ name ∷ []) q
added names name q new old is was = is ∙ ap (λ b. cond (bytes_eq name q) true b) was ∙ sym (has_last names name q ∙ or_cond (has names q) (bytes_eq name q))

module _ (xs : List (Bor (List ℕ))) (i : ℕ) (d : Bor (List ℕ)) (total : Bool) (lt : i < length xs) where
  turn : stands_behind (now_of (take i xs)) (now_of (drop i xs)) ≡ (has (now_of (take i xs)) (get_or xs i d).now || stands_behind (now_of (take (i + 1) xs)) (now_of (drop (i + 1) xs)))
  turn =
      ap (stands_behind (now_of (take i xs))) (now_first xs i d lt)
      ∙ ap (λ l. has (now_of (take i xs)) (get_or xs i d).now || stands_behind l (now_of (drop (i + 1) xs))) (sym (now_last xs i d lt))

  pub new_passes : has (now_of (take i xs)) (get_or xs i d).now ≡ false → stands_behind (now_of (take i xs)) (now_of (drop i xs)) ≡ total
      → stands_behind (now_of (take (i + 1) xs)) (now_of (drop (i + 1) xs)) ≡ total
  new_passes other so_far = sym (turn ∙ ap (λ b. b || stands_behind (now_of (take (i + 1) xs)) (now_of (drop (i + 1) xs))) other) ∙ so_far

  pub new_fails : has (now_of (take i xs)) (get_or xs i d).now ≡ true → stands_behind (now_of (take i xs)) (now_of (drop i xs)) ≡ total → true ≡ total
  new_fails there so_far = sym (turn ∙ ap (λ b. b || stands_behind (now_of (take (i + 1) xs)) (now_of (drop (i + 1) xs))) there) ∙ so_far

pub new_passed : (xs : List (Bor (List ℕ))) (i : ℕ) (total : Bool) → length xs ≤ i → stands_behind (now_of (take i xs)) (now_of (drop i xs)) ≡ total → false ≡ total
new_passed xs i total le so_far = sym (ap (λ l. stands_behind (now_of (take i xs)) (now_of l)) (drop_all i xs le)) ∙ so_far
