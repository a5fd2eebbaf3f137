-- Numbers that stand in lists: two that differ, and one of both.
use Rattle.std.proofs.Common.{◌≡◌, ℕ, zero, ◌<◌, inl, inr, Bool, true, not, eqb, List, [], ◌∷◌, length, Contains, refl, sym, ap, ◌∙◌, subst, arith, eq-eqb}
use Rattle.std.specs.Prelude.{slice_index}
use Rattle.std.specs.List.{list_any}
use Rattle.std.proofs.lemmas.Bool.{cases_Bool, eqb-true}
use Rattle.std.proofs.lemmas.List.Folds.{Any-from_list_any, list_any-from_Any}
use Rattle.def_reader.specs.Classes.{is_split, has_class}

differ : (a b : ℕ) → not (eqb a b) ≡ true → a ≡ b → ⊥
differ a b e same = let t = eq-eqb a b same in let f = ap not t in absurd cc

differs : (a b : ℕ) → (a ≡ b → ⊥) → not (eqb a b) ≡ true
differs a b ne =
    elim (cases_Bool (eqb a b)) [
      | inl is ↦ absurd (ne (eqb-true a b is))
      | inr other ↦ ap not other
    ]

-- two numbers of a list that differ
pub record Two (cs : List ℕ) : Type 0 where
  pub c : ℕ
  pub d : ℕ
  pub first : Contains cs c
  pub second : Contains cs d
  pub apart : c ≡ d → ⊥

first_in : (cs : List ℕ) (k : ℕ) → k < length cs → Contains cs (slice_index cs 0)
first_in [] k lt = absurd (omega arith)
first_in (c ∷ cs) k lt = (zero, omega arith, refl)

pub split_two : (cs : List ℕ) → is_split cs ≡ true → Two cs
split_two cs e =
    let any = Any-from_list_any (λ d. not (eqb d (slice_index cs 0))) cs e in
    record { c = any.1; d = slice_index cs 0; first = (any.0, any.2, any.3); second = first_in cs any.0 any.2; apart = differ any.1 (slice_index cs 0) any.4 }

any_in : (p : ℕ → Bool) (cs : List ℕ) (c : ℕ) → Contains cs c → p c ≡ true → list_any p cs ≡ true
any_in p cs c there holds = list_any-from_Any p cs (there.0, c, there.1, there.2, holds)

pub two_split : (cs : List ℕ) (c d : ℕ) → Contains cs c → Contains cs d → (c ≡ d → ⊥) → is_split cs ≡ true
two_split cs c d first second apart =
    elim (cases_Bool (eqb c (slice_index cs 0))) [
      | inl is ↦
          let same : c ≡ slice_index cs 0 = eqb-true c (slice_index cs 0) is in
          let other : d ≡ slice_index cs 0 → ⊥ = λ e. apart (same ∙ sym e) in
          any_in (λ x. not (eqb x (slice_index cs 0))) cs d second (differs d (slice_index cs 0) other)
      | inr fails ↦ any_in (λ x. not (eqb x (slice_index cs 0))) cs c first (ap not fails)
    ]

-- a number of both lists
pub record Both (before cs : List ℕ) : Type 0 where
  pub c : ℕ
  pub first : Contains before c
  pub second : Contains cs c

pub both_from : (before cs : List ℕ) → list_any (has_class before) cs ≡ true → Both before cs
both_from before cs e =
    let any = Any-from_list_any (has_class before) cs e in
    let one = Any-from_list_any (λ d. eqb d any.1) before any.4 in
    record { c = any.1; first = subst (λ (x : ℕ). Contains before x) (eqb-true one.1 any.1 one.4) (one.0, one.2, one.3); second = (any.0, any.2, any.3) }

pub both_to : (before cs : List ℕ) (c : ℕ) → Contains before c → Contains cs c → list_any (has_class before) cs ≡ true
both_to before cs c first second = any_in (has_class before) cs c second (any_in (λ d. eqb d c) before c first (eq-eqb c c refl))
