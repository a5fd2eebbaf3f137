-- Members of lists, and places of which each stands behind the ones before.
use Rattle.std.proofs.Common.{◌≡◌, ℕ, ◌+◌, ◌<◌, ◌≤◌, ◌⊎◌, inl, inr, ⊎_elim, List, [], ◌∷◌, ◌++◌, map, refl, sym, ap, subst, arith}
use Rattle.std.specs.Prelude.{IsPermutation}
use Rattle.std.specs.List.{flat_map}
use Rattle.std.proofs.lemmas.List.Sorted.{IsPermutation-sym, All-permutation}
use Rattle.std.specs.List.{AllByRecursion as Each}
use Rattle.base_types.specs.declared.span.Span.{Span}
use Rattle.verilog_reader.proofs.Checked.{each_from}
use Rattle.verilog_reader.proofs.Distinct.{all_of, each_weaker}

abbrev pub Has : {X : Type 0} → X → List X → Type 0
Has x [] = ⊥
Has x (y ∷ ys) = (x ≡ y) ⊎ Has x ys

pub has_left : {X : Type 0} (x : X) (xs ys : List X) → Has x xs → Has x (xs ++ ys)
has_left x [] ys h = absurd h
has_left x (z ∷ xs) ys h = ⊎_elim (λ (e : x ≡ z). inl e) (λ (l : Has x xs). inr (has_left x xs ys l)) h

pub has_right : {X : Type 0} (x : X) (xs ys : List X) → Has x ys → Has x (xs ++ ys)
has_right x [] ys h = h
has_right x (z ∷ xs) ys h = inr (has_right x xs ys h)

pub has_either : {X : Type 0} (x : X) (xs ys : List X) → Has x (xs ++ ys) → Has x xs ⊎ Has x ys
has_either x [] ys h = inr h
has_either x (z ∷ xs) ys h =
    ⊎_elim (λ (e : x ≡ z). inl (inl e))
    (λ (l : Has x (xs ++ ys)). ⊎_elim (λ (a : Has x xs). inl (inr a)) (λ (b : Has x ys). inr b) (has_either x xs ys l)) h

pub has_map : {X Y : Type 0} (f : X → Y) (x : X) (xs : List X) → Has x xs → Has (f x) (map f xs)
has_map f x [] h = absurd h
has_map f x (z ∷ xs) h = ⊎_elim (λ (e : x ≡ z). inl (ap f e)) (λ (l : Has x xs). inr (has_map f x xs l)) h

pub has_flat : {X Y : Type 0} (f : X → List Y) (x : X) (y : Y) (xs : List X) → Has x xs → Has y (f x) → Has y (flat_map f xs)
has_flat f x y [] h there = absurd h
has_flat f x y (z ∷ xs) h there =
    ⊎_elim (λ (e : x ≡ z). has_left y (f z) (flat_map f xs) (subst (λ (w : _). Has y (f w)) e there)) (λ (l : Has x xs). has_right y (f z) (flat_map f xs) (has_flat f x y xs l there)) h

pub each_has : {X : Type 0} (P : X → Type 0) (x : X) (xs : List X) → Each P xs → Has x xs → P x
each_has P x [] each h = absurd h
each_has P x (z ∷ xs) each h = ⊎_elim (λ (e : x ≡ z). subst P (sym e) each.0) (λ (l : Has x xs). each_has P x xs each.1 l) h

pub each_self : {X : Type 0} (xs : List X) → Each (λ x. Has x xs) xs
each_self [] = tt
each_self {X} (x ∷ xs) = (inl refl, each_weaker (λ (y : X). Has y xs) (λ (y : X). Has y (x ∷ xs)) xs (λ y h. inr h) (each_self xs))

pub each_permuted : {X : Type 0} (P : X → Type 0) (xs ys : List X) → IsPermutation xs ys → Each P xs → Each P ys
each_permuted P xs ys same each = each_from P ys (All-permutation P xs ys same (all_of P xs each))

pub has_permuted : {X : Type 0} (x : X) (xs ys : List X) → IsPermutation xs ys → Has x xs → Has x ys
has_permuted {X} x xs ys same h = each_has (λ (y : X). Has y ys) x xs (each_permuted (λ (y : X). Has y ys) ys xs (IsPermutation-sym xs ys same) (each_self ys)) h

-- places one behind the other
abbrev pub Spaced : ℕ → ℕ → List Span → Type 0
Spaced at end [] = Unit {0}
Spaced at end (s ∷ ss) = (at ≤ s.start) × (s.start ≤ s.end) × (s.end ≤ end) × Spaced (s.end + 1) end ss

pub record IsInside (at end : ℕ) (s : Span) : Type 0 where
  pub low : at ≤ s.start
  pub ordered : s.start ≤ s.end
  pub high : s.end ≤ end

pub spaced_lower : (ss : List Span) (at from end : ℕ) → from ≤ at → Spaced at end ss → Spaced from end ss
spaced_lower [] at from end le spaced = tt
spaced_lower (s ∷ ss) at from end le spaced = let a = spaced.0 in (omega arith, spaced.1, spaced.2, spaced.3)

pub spaced_left : (xs ys : List Span) (at end : ℕ) → Spaced at end (xs ++ ys) → Spaced at end xs
spaced_left [] ys at end spaced = tt
spaced_left (x ∷ xs) ys at end spaced = (spaced.0, spaced.1, spaced.2, spaced_left xs ys (x.end + 1) end spaced.3)

pub spaced_right : (xs ys : List Span) (at end : ℕ) → Spaced at end (xs ++ ys) → Spaced at end ys
spaced_right [] ys at end spaced = spaced
spaced_right (x ∷ xs) ys at end spaced =
    let a = spaced.0 in
    let b = spaced.1 in
    spaced_lower ys (x.end + 1) at end (omega arith) (spaced_right xs ys (x.end + 1) end spaced.3)

pub inside : (ss : List Span) (at end : ℕ) (s : Span) → Spaced at end ss → Has s ss → IsInside at end s
inside [] at end s spaced h = absurd h
inside (x ∷ xs) at end s spaced h =
    let a = spaced.0 in
    let b = spaced.1 in
    ⊎_elim (λ (e : s ≡ x). subst (λ (z : Span). IsInside at end z) (sym e) (record { low = a; ordered = b; high = spaced.2 }))
    (λ (l : Has s xs). let i = inside xs (x.end + 1) end s spaced.3 l in let c = i.low in record { low = omega arith; ordered = i.ordered; high = i.high }) h

-- of two places the one that begins before the other ends before it
pub in_order : (ss : List Span) (at end : ℕ) (s t : Span) → Spaced at end ss → Has s ss → Has t ss → s.start < t.start → s.end + 1 ≤ t.start
in_order [] at end s t spaced hs ht lt = absurd hs
in_order (x ∷ xs) at end s t spaced hs ht lt =
    ⊎_elim
    (λ (e : s ≡ x). ⊎_elim
    (λ (f : t ≡ x). let a = ap (λ (z : Span). z.start) e in let b = ap (λ (z : Span). z.start) f in absurd (omega arith))
    (λ (l : Has t xs). let c = (inside xs (x.end + 1) end t spaced.3 l).low in let a = ap (λ (z : Span). z.end) e in omega arith) ht)
    (λ (k : Has s xs). ⊎_elim
    (λ (f : t ≡ x). let c = (inside xs (x.end + 1) end s spaced.3 k).low in let b = ap (λ (z : Span). z.start) f in let d = spaced.1 in absurd (omega arith))
    (λ (l : Has t xs). in_order xs (x.end + 1) end s t spaced.3 k l lt) ht) hs

-- places that begin together are one
pub one_place : (ss : List Span) (at end : ℕ) (s t : Span) → Spaced at end ss → Has s ss → Has t ss → s.start ≡ t.start → s ≡ t
one_place [] at end s t spaced hs ht e = absurd hs
one_place (x ∷ xs) at end s t spaced hs ht e =
    ⊎_elim
    (λ (a : s ≡ x). ⊎_elim
    (λ (b : t ≡ x). subst (λ (z : Span). s ≡ z) (sym b) a)
    (λ (l : Has t xs). let c = (inside xs (x.end + 1) end t spaced.3 l).low in let d = spaced.1 in let f = ap (λ (z : Span). z.start) a in absurd (omega arith)) ht)
    (λ (k : Has s xs). ⊎_elim
    (λ (b : t ≡ x). let c = (inside xs (x.end + 1) end s spaced.3 k).low in let d = spaced.1 in let f = ap (λ (z : Span). z.start) b in absurd (omega arith))
    (λ (l : Has t xs). one_place xs (x.end + 1) end s t spaced.3 k l e) ht) hs

-- the places of the first list stand before those of the second
pub no_common : (xs ys : List Span) (at end : ℕ) (s : Span) → Spaced at end (xs ++ ys) → Has s xs → Has s ys → ⊥
no_common [] ys at end s spaced hx hy = hx
no_common (x ∷ xs) ys at end s spaced hx hy =
    ⊎_elim
    (λ (a : s ≡ x). let c = (inside (xs ++ ys) (x.end + 1) end s spaced.3 (has_right s xs ys hy)).low in let d = spaced.1 in let f = ap (λ (z : Span). z.start) a in omega arith)
    (λ (k : Has s xs). no_common xs ys (x.end + 1) end s spaced.3 k hy) hx

-- what stands behind may be less
pub spaced_behind : (xs ys zs : List Span) (at end : ℕ) → ((from : ℕ) → Spaced from end ys → Spaced from end zs) → Spaced at end (xs ++ ys) → Spaced at end (xs ++ zs)
spaced_behind [] ys zs at end less spaced = less at spaced
spaced_behind (x ∷ xs) ys zs at end less spaced = (spaced.0, spaced.1, spaced.2, spaced_behind xs ys zs (x.end + 1) end less spaced.3)
