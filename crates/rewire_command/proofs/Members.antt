-- Members of lists.
use Rattle.std.proofs.Common.{◌≡◌, ℕ, Bool, true, false, not, ◌&&◌, ◌||◌, List, [], ◌∷◌, ◌++◌, map, refl, sym, ap, ◌∙◌, subst, inl, inr, ◌⊎◌}
use Rattle.std.specs.List.{list_all, IsDistinct, AllByRecursion}
use Rattle.std.specs.Str.{bytes_eq}
use Rattle.std.proofs.lemmas.Bool.{cases_Bool, and_parts, and_from}
use Rattle.base_types.proofs.TruthValues.{bytes_are, bytes_same, or_true}
use Rattle.rewire_command.specs.Faults.{has}
use Rattle.rewire_command.specs.Names.{are_new, are_distinct}

-- a member of a list
abbrev pub IsIn : {X : Type 0} → X → List X → Type 0
IsIn x [] = ⊥
IsIn x (y ∷ ys) = (x ≡ y) ⊎ IsIn x ys

-- two names are one or they differ
pub data Names (a b : List ℕ) : Type 0 where
  Same : a ≡ b → Names a b
  Other : bytes_eq a b ≡ false → (a ≡ b → ⊥) → Names a b

pub names : (a b : List ℕ) → Names a b
names a b =
    elim (cases_Bool (bytes_eq a b)) [
      | inl is ↦ Same (bytes_are a b is)
      | inr other ↦ Other other (λ e. let c = bytes_same a b e in cc)
    ]

pub in_left : {X : Type 0} (x : X) (xs ys : List X) → IsIn x xs → IsIn x (xs ++ ys)
in_left x [] ys i = absurd i
in_left x (y ∷ xs) ys (inl e) = inl e
in_left x (y ∷ xs) ys (inr i) = inr (in_left x xs ys i)

pub in_right : {X : Type 0} (x : X) (xs ys : List X) → IsIn x ys → IsIn x (xs ++ ys)
in_right x [] ys i = i
in_right x (y ∷ xs) ys i = inr (in_right x xs ys i)

pub in_split : {X : Type 0} (x : X) (xs ys : List X) → IsIn x (xs ++ ys) → IsIn x xs ⊎ IsIn x ys
in_split x [] ys i = inr i
in_split x (y ∷ xs) ys (inl e) = inl (inl e)
in_split x (y ∷ xs) ys (inr i) = elim (in_split x xs ys i) [ inl a ↦ inl (inr a) | inr b ↦ inr b ]

-- names
pub has_in : (name : List ℕ) (xs : List (List ℕ)) → has xs name ≡ true → IsIn name xs
has_in name [] e = absurd cc
has_in name (x ∷ xs) e =
    elim (names x name) [
      | Same is ↦ inl (sym is)
      | Other other no_is ↦ inr (has_in name xs (subst (λ (t : Bool). (t || has xs name) ≡ true) other e))
    ]

pub in_has : (name : List ℕ) (xs : List (List ℕ)) → IsIn name xs → has xs name ≡ true
in_has name [] i = absurd i
in_has name (x ∷ xs) (inl e) = ap (λ (t : Bool). t || has xs name) (bytes_same x name (sym e))
in_has name (x ∷ xs) (inr i) = ap (λ (t : Bool). bytes_eq x name || t) (in_has name xs i) ∙ or_true (bytes_eq x name)

pub in_map : {X Y : Type 0} (f : X → Y) (xs : List X) (x : X) → IsIn x xs → IsIn (f x) (map f xs)
in_map f [] x i = absurd i
in_map f (y ∷ xs) x (inl e) = inl (ap f e)
in_map f (y ∷ xs) x (inr i) = inr (in_map f xs x i)

-- a test that all members pass
pub all_in : {X : Type 0} (p : X → Bool) (xs : List X) (x : X) → list_all p xs ≡ true → IsIn x xs → p x ≡ true
all_in p [] x e i = absurd i
all_in p (y ∷ xs) x e (inl is) = ap p is ∙ and_left (p y) (list_all p xs) e
  where
    and_left : (a b : Bool) → (a && b) ≡ true → a ≡ true
    and_left true b e = refl
    and_left false b e = absurd cc
all_in p (y ∷ xs) x e (inr i) = all_in p xs x (and_right (p y) (list_all p xs) e) i
  where
    and_right : (a b : Bool) → (a && b) ≡ true → b ≡ true
    and_right true b e = e
    and_right false b e = absurd cc

-- names of which none stands twice
abbrev pub Apart : List ℕ → List (List ℕ) → Type 0
Apart x ys = IsIn x ys → ⊥

abbrev pub AreApart : List (List ℕ) → Type 0
AreApart [] = Unit {0}
AreApart (x ∷ xs) = Apart x xs × AreApart xs

not_has : (b : Bool) → not b ≡ true → b ≡ true → ⊥
not_has true e f = cc
not_has false e f = cc

record NewApart (before xs : List (List ℕ)) : Type 0 where
  pub each : (x : List ℕ) → IsIn x xs → IsIn x before → ⊥
  pub apart : AreApart xs

new_apart : (before xs : List (List ℕ)) → are_new before xs ≡ true → NewApart before xs
new_apart before [] e = record { each = λ x i j. i; apart = tt }
new_apart before (x ∷ xs) e =
    let p = and_parts (not (has before x)) (are_new (before ++ x ∷ []) xs) e in
    let more = new_apart (before ++ x ∷ []) xs p.1 in
    record {
      each = λ y i j. elim i [
        | inl is ↦ not_has (has before x) p.0 (in_has x before (subst (λ (u : List ℕ). IsIn u before) is j))
        | inr k ↦ more.each y k (in_left y before (x ∷ []) j)
      ];
      apart = ((λ i. more.each x i (in_right x before (x ∷ []) (inl refl))), more.apart);
    }

pub distinct_apart : (xs : List (List ℕ)) → are_distinct xs ≡ true → AreApart xs
distinct_apart xs e = (new_apart [] xs e).apart

not_true : (b : Bool) → (b ≡ true → ⊥) → not b ≡ true
not_true true f = absurd (f refl)
not_true false f = refl

apart_new : (before xs : List (List ℕ)) → ((x : List ℕ) → IsIn x xs → IsIn x before → ⊥) → AreApart xs → are_new before xs ≡ true
apart_new before [] each apart = refl
apart_new before (x ∷ xs) each apart =
    and_from (not (has before x)) (are_new (before ++ x ∷ []) xs) (not_true (has before x) (λ e. each x (inl refl) (has_in x before e)))
    (apart_new (before ++ x ∷ []) xs
    (λ y i j. elim (in_split y before (x ∷ []) j) [
      | inl a ↦ each y (inr i) a
      | inr b ↦ elim b [ inl is ↦ apart.0 (subst (λ (u : List ℕ). IsIn u xs) is i) | inr none ↦ absurd none ]
    ]) apart.1)

pub apart_distinct : (xs : List (List ℕ)) → AreApart xs → are_distinct xs ≡ true
apart_distinct xs apart = apart_new [] xs (λ x i j. j) apart

-- the same by std's word
all_other : (x : List ℕ) (ys : List (List ℕ)) → Apart x ys → AllByRecursion (λ (y : List ℕ). bytes_eq x y ≡ false) ys
all_other x [] apart = tt
all_other x (y ∷ ys) apart =
    let here : bytes_eq x y ≡ false = elim (names x y) [ Same is ↦ absurd (apart (inl is)) | Other other no_is ↦ other ] in
    (here, all_other x ys (λ i. apart (inr i)))

pub apart_IsDistinct : (xs : List (List ℕ)) → AreApart xs → IsDistinct bytes_eq xs
unfolding IsDistinct
apart_IsDistinct [] apart = tt
apart_IsDistinct (x ∷ xs) apart = (all_other x xs apart.0, apart_IsDistinct xs apart.1)

other_all : (x : List ℕ) (ys : List (List ℕ)) → AllByRecursion (λ (y : List ℕ). bytes_eq x y ≡ false) ys → Apart x ys
other_all x [] all = λ i. i
other_all x (y ∷ ys) all = λ i. elim i [ inl is ↦ (let c = bytes_same x y is in let d = all.0 in cc) | inr j ↦ other_all x ys all.1 j ]

pub IsDistinct_apart : (xs : List (List ℕ)) → IsDistinct bytes_eq xs → AreApart xs
unfolding IsDistinct
IsDistinct_apart [] d = tt
IsDistinct_apart (x ∷ xs) d = (other_all x xs d.0, IsDistinct_apart xs d.1)
