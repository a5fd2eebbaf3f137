-- Lists in which nothing stands twice.
use Rattle.std.proofs.Common.{◌≡◌, ℕ, zero, suc, ◌<◌, false, List, [], ◌∷◌, ◌++◌, length, map, get_or, refl, sym, ap, subst, ◌∙◌, arith}
use Rattle.std.specs.List.{flat_map, All}
use Rattle.std.specs.Str.{bytes_eq}
use Rattle.std.proofs.lemmas.Bool.{false≢true, or_parts}
use Rattle.std.proofs.lemmas.List.{append-nil, append_assoc}
use Rattle.std.proofs.lemmas.List.Folds.{list_any-append}
use Rattle.std.specs.List.{AllByRecursion as Each}
use Rattle.base_types.proofs.TruthValues.{bytes_same}
use Rattle.netlist_core.specs.Netlists.{AreDistinct}
use Rattle.verilog_names.specs.Declarations.{has}
use Rattle.verilog_checks.specs.Checks.{has_twice}

abbrev pub IsApartFrom : {X : Type 0} → X → List X → Type 0
IsApartFrom x ys = Each (λ y. x ≡ y → ⊥) ys

abbrev pub Distinct : {X : Type 0} → List X → Type 0
Distinct [] = Unit {0}
Distinct (x ∷ xs) = IsApartFrom x xs × Distinct xs

each_at : {X : Type 0} (P : X → Type 0) (xs : List X) (i : ℕ) (d : X) → Each P xs → i < length xs → P (get_or xs i d)
each_at P [] i d each lt = absurd (omega arith)
each_at P (x ∷ xs) zero d each lt = each.0
each_at P (x ∷ xs) (suc i) d each lt = each_at P xs i d each.1 (omega arith)

-- so two places with one member are one place
pub distinct : {X : Type 0} (xs : List X) → Distinct xs → AreDistinct xs
distinct [] is i j d li lj same = absurd (omega arith)
distinct (x ∷ xs) is zero zero d li lj same = refl
distinct {X} (x ∷ xs) is zero (suc j) d li lj same = absurd (each_at (λ (y : X). x ≡ y → ⊥) xs j d is.0 (omega arith) same)
distinct {X} (x ∷ xs) is (suc i) zero d li lj same = absurd (each_at (λ (y : X). x ≡ y → ⊥) xs i d is.0 (omega arith) (sym same))
distinct (x ∷ xs) is (suc i) (suc j) d li lj same = ap suc (distinct xs is.1 i j d (omega arith) (omega arith) same)

pub all_of : {X : Type 0} (P : X → Type 0) (xs : List X) → Each P xs → All P xs
all_of P xs each k d lt = each_at P xs k d each lt

-- facts of each member
pub each_map : {X Y : Type 0} (P : Y → Type 0) (f : X → Y) (xs : List X) → Each (λ x. P (f x)) xs → Each P (map f xs)
each_map P f [] each = tt
each_map P f (x ∷ xs) each = (each.0, each_map P f xs each.1)

pub each_weaker : {X : Type 0} (P Q : X → Type 0) (xs : List X) → ((x : X) → P x → Q x) → Each P xs → Each Q xs
each_weaker P Q [] h each = tt
each_weaker P Q (x ∷ xs) h each = (h x each.0, each_weaker P Q xs h each.1)

pub each_both : {X : Type 0} (P Q R : X → Type 0) (xs : List X) → ((x : X) → P x → Q x → R x) → Each P xs → Each Q xs → Each R xs
each_both P Q R [] h a b = tt
each_both P Q R (x ∷ xs) h a b = (h x a.0 b.0, each_both P Q R xs h a.1 b.1)

pub each_any : {X : Type 0} (P : X → Type 0) (xs : List X) → ((x : X) → P x) → Each P xs
each_any P [] h = tt
each_any P (x ∷ xs) h = (h x, each_any P xs h)

pub each_append : {X : Type 0} (P : X → Type 0) (xs ys : List X) → Each P xs → Each P ys → Each P (xs ++ ys)
each_append P [] ys a b = b
each_append P (x ∷ xs) ys a b = (a.0, each_append P xs ys a.1 b)

pub each_flat : {X Y : Type 0} (P : Y → Type 0) (f : X → List Y) (xs : List X) → Each (λ x. Each P (f x)) xs → Each P (flat_map f xs)
each_flat P f [] each = tt
each_flat P f (x ∷ xs) each = each_append P (f x) (flat_map f xs) each.0 (each_flat P f xs each.1)

-- two lists with nothing in common
pub distinct_append : {X : Type 0} (xs ys : List X) → Distinct xs → Distinct ys → Each (λ x. IsApartFrom x ys) xs → Distinct (xs ++ ys)
distinct_append [] ys a b apart = b
distinct_append {X} (x ∷ xs) ys a b apart = (each_append (λ (y : X). x ≡ y → ⊥) xs ys a.0 apart.0, distinct_append xs ys a.1 b apart.1)

pub distinct_push : {X : Type 0} (xs : List X) (y : X) → Distinct xs → Each (λ x. x ≡ y → ⊥) xs → Distinct (xs ++ y ∷ [])
distinct_push {X} xs y a apart = distinct_append xs (y ∷ []) a (tt, tt) (each_weaker (λ (x : X). x ≡ y → ⊥) (λ (x : X). IsApartFrom x (y ∷ [])) xs (λ x h. (h, tt)) apart)

-- names
no_same : (a b : List ℕ) → bytes_eq a b ≡ false → a ≡ b → ⊥
no_same a b is same = false≢true (sym is ∙ bytes_same a b same)

pub apart_from : (name : List ℕ) (names : List (List ℕ)) → has names name ≡ false → IsApartFrom name names
apart_from name [] is = tt
apart_from name (x ∷ names) is =
    let both = or_parts (bytes_eq x name) (has names name) is in
    ((λ same. no_same x name both.0 (sym same)), apart_from name names both.1)

pub distinct_names : (names : List (List ℕ)) → has_twice names ≡ false → Distinct names
distinct_names [] is = tt
distinct_names (name ∷ names) is = let both = or_parts (has names name) (has_twice names) is in (apart_from name names both.0, distinct_names names both.1)

-- each name is new beside those before it
abbrev pub AreNew : List (List ℕ) → List (List ℕ) → Type 0
AreNew before [] = Unit {0}
AreNew before (name ∷ names) = (has before name ≡ false) × AreNew (before ++ name ∷ []) names

pub record IsNewList (before names : List (List ℕ)) : Type 0 where
  pub new : Each (λ name. has before name ≡ false) names
  pub apart : Distinct names

pub new_list : (before names : List (List ℕ)) → AreNew before names → IsNewList before names
new_list before [] are = record { new = tt; apart = tt }
new_list before (name ∷ names) are =
    let rest = new_list (before ++ name ∷ []) names are.1 in
    let both = λ (x : List ℕ) (h : has (before ++ name ∷ []) x ≡ false). or_parts (has before x) (has (name ∷ []) x) (sym (list_any-append (λ (other : List ℕ). bytes_eq other x) before (name ∷ [])) ∙ h) in
    record {
      new = (are.0, each_weaker (λ (x : List ℕ). has (before ++ name ∷ []) x ≡ false) (λ (x : List ℕ). has before x ≡ false) names (λ x h. (both x h).0) rest.new);
      apart = (
        each_weaker (λ (x : List ℕ). has (before ++ name ∷ []) x ≡ false) (λ (x : List ℕ). name ≡ x → ⊥) names (λ x h. no_same name x (or_parts (bytes_eq name x) false (both x h).1).0) rest.new,
        rest.apart,
      );
    }

pub new_append : (before xs ys : List (List ℕ)) → AreNew before xs → AreNew (before ++ xs) ys → AreNew before (xs ++ ys)
new_append before [] ys a b = subst (λ (ns : List (List ℕ)). AreNew ns ys) (append-nil before) b
new_append before (x ∷ xs) ys a b =
    (a.0, new_append (before ++ x ∷ []) xs ys a.1 (subst (λ (ns : List (List ℕ)). AreNew ns ys) (sym (append_assoc before (x ∷ []) xs)) b))
