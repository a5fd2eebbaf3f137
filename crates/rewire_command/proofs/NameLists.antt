-- Lists of names, member by member, as loops go over them.
use Rattle.std.proofs.Common.{◌≡◌, ℕ, ◌+◌, ◌<◌, ◌≤◌, Bool, true, false, cond, not, ◌&&◌, ◌||◌, List, [], ◌∷◌, ◌++◌, length, get_or, take, drop, Bor, refl, sym, ap, ◌∙◌}
use Rattle.std.specs.Str.{bytes_eq}
use Rattle.std.proofs.lemmas.List.{drop_more, drop_all, take_more, map-append}
use Rattle.base_types.proofs.TruthValues.{or_false}
use Rattle.rewire_command.specs.Faults.{has}
use Rattle.rewire_command.specs.Names.{now_of, have_all, are_new}

pub pushed : (xs : List (Bor (List ℕ))) (x : Bor (List ℕ)) → now_of (xs ++ x ∷ []) ≡ now_of xs ++ x.now ∷ []
pushed xs x = map-append (λ (q : Bor (List ℕ)). q.now) xs (x ∷ [])

or_cond : (a b : Bool) → (a || b) ≡ cond b true a
or_cond true true = refl
or_cond true false = refl
or_cond false true = refl
or_cond false false = refl

or_last : (t a : Bool) → (t || (a || false)) ≡ (t || a)
or_last true a = refl
or_last false true = refl
or_last false false = refl

or_assoc : (a b c : Bool) → (a || (b || c)) ≡ ((a || b) || c)
or_assoc true b c = refl
or_assoc false b c = refl

pub has_append : (name : List ℕ) (xs ys : List (List ℕ)) → has (xs ++ ys) name ≡ (has xs name || has ys name)
has_append name [] ys = refl
has_append name (x ∷ xs) ys = ap (λ (b : Bool). bytes_eq x name || b) (has_append name xs ys) ∙ or_assoc (bytes_eq x name) (has xs name) (has ys name)

-- one name more
pub has_more : (xs : List (Bor (List ℕ))) (i : ℕ) (d : Bor (List ℕ)) (name : List ℕ) → i < length xs → has (now_of (take (i + 1) xs)) name ≡ cond (bytes_eq (get_or xs i d).now name) true (has (now_of (take i xs)) name)
has_more xs i d name lt =
    ap (λ (l : List (Bor (List ℕ))). has (now_of l) name) (take_more xs i d lt)
    ∙ ap (λ (l : List (List ℕ)). has l name) (pushed (take i xs) (get_or xs i d))
    ∙ has_append name (now_of (take i xs)) ((get_or xs i d).now ∷ [])
    ∙ ap (λ (b : Bool). has (now_of (take i xs)) name || b) (or_false (bytes_eq (get_or xs i d).now name))
    ∙ or_cond (has (now_of (take i xs)) name) (bytes_eq (get_or xs i d).now name)

abbrev Front : List (Bor (List ℕ)) → ℕ → Bool
Front xs i = are_new (now_of (take i xs)) (now_of (drop i xs))

new_more : (xs : List (Bor (List ℕ))) (i : ℕ) (d : Bor (List ℕ)) → i < length xs → Front xs i ≡ (not (has (now_of (take i xs)) (get_or xs i d).now) && Front xs (i + 1))
new_more xs i d lt =
    let cut = drop_more xs i d lt in
    let front : now_of (take i xs) ++ (get_or xs i d).now ∷ [] ≡ now_of (take (i + 1) xs) = sym (pushed (take i xs) (get_or xs i d)) ∙ ap now_of (sym (take_more xs i d lt)) in
    ap (λ (l : List (Bor (List ℕ))). are_new (now_of (take i xs)) (now_of l)) cut
    ∙ ap (λ (l : List (List ℕ)). not (has (now_of (take i xs)) (get_or xs i d).now) && are_new l (now_of (drop (i + 1) xs))) front

pub new_passes : (xs : List (Bor (List ℕ))) (i : ℕ) (d : Bor (List ℕ)) (total : Bool) → i < length xs → has (now_of (take i xs)) (get_or xs i d).now ≡ false → Front xs i ≡ total → Front xs (i + 1) ≡ total
new_passes xs i d total lt other so_far = sym (new_more xs i d lt ∙ ap (λ (b : Bool). not b && Front xs (i + 1)) other) ∙ so_far

pub new_fails : (xs : List (Bor (List ℕ))) (i : ℕ) (d : Bor (List ℕ)) (total : Bool) → i < length xs → has (now_of (take i xs)) (get_or xs i d).now ≡ true → Front xs i ≡ total → false ≡ total
new_fails xs i d total lt there so_far = sym (new_more xs i d lt ∙ ap (λ (b : Bool). not b && Front xs (i + 1)) there) ∙ so_far

pub new_passed : (xs : List (Bor (List ℕ))) (i : ℕ) (total : Bool) → length xs ≤ i → Front xs i ≡ total → true ≡ total
new_passed xs i total le so_far = sym (ap (λ (l : List (Bor (List ℕ))). are_new (now_of (take i xs)) (now_of l)) (drop_all i xs le)) ∙ so_far

-- names that are all among others
abbrev Behind : List (List ℕ) → List (Bor (List ℕ)) → ℕ → Bool
Behind names xs i = have_all names (now_of (drop i xs))

all_more : (names : List (List ℕ)) (xs : List (Bor (List ℕ))) (i : ℕ) (d : Bor (List ℕ)) → i < length xs → Behind names xs i ≡ (has names (get_or xs i d).now && Behind names xs (i + 1))
all_more names xs i d lt = ap (λ (l : List (Bor (List ℕ))). have_all names (now_of l)) (drop_more xs i d lt)

pub all_passes : (names : List (List ℕ)) (xs : List (Bor (List ℕ))) (i : ℕ) (d : Bor (List ℕ)) (total : Bool) → i < length xs → has names (get_or xs i d).now ≡ true → Behind names xs i ≡ total → Behind names xs (i + 1) ≡ total
all_passes names xs i d total lt there so_far = sym (all_more names xs i d lt ∙ ap (λ (b : Bool). b && Behind names xs (i + 1)) there) ∙ so_far

pub all_fails : (names : List (List ℕ)) (xs : List (Bor (List ℕ))) (i : ℕ) (d : Bor (List ℕ)) (total : Bool) → i < length xs → has names (get_or xs i d).now ≡ false → Behind names xs i ≡ total → false ≡ total
all_fails names xs i d total lt other so_far = sym (all_more names xs i d lt ∙ ap (λ (b : Bool). b && Behind names xs (i + 1)) other) ∙ so_far

pub all_passed : (names : List (List ℕ)) (xs : List (Bor (List ℕ))) (i : ℕ) (total : Bool) → length xs ≤ i → Behind names xs i ≡ total → true ≡ total
all_passed names xs i total le so_far = sym (ap (λ (l : List (Bor (List ℕ))). have_all names (now_of l)) (drop_all i xs le)) ∙ so_far

-- a set to which a name was added
pub added_name : (xs : List (Bor (List ℕ))) (i : ℕ) (d : Bor (List ℕ)) (name : List ℕ) (new old : Bool) → i < length xs → new ≡ cond (bytes_eq (get_or xs i d).now name) true old → old ≡ has (now_of (take i xs)) name
    → new ≡ has (now_of (take (i + 1) xs)) name
added_name xs i d name new old lt is was = is ∙ ap (λ (b : Bool). cond (bytes_eq (get_or xs i d).now name) true b) was ∙ sym (has_more xs i d name lt)
