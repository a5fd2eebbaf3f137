-- The least lines of statements that fail a test.
use Rattle.std.proofs.Common.{◌≡◌, ℕ, zero, suc, ◌+◌, ◌<◌, ◌≤◌, ◌⊎◌, inl, inr, Bool, true, List, [], ◌∷◌, ◌++◌, length, get_or, take, Option, None, Contains, refl, sym, ap, ◌∙◌, subst, arith}
use Rattle.std.proofs.lemmas.List.{take_more, take_all}
use Rattle.std.proofs.lemmas.List.Elements.{Contains-append_left, Contains-append_right, Contains-append_cases}
use Rattle.list_laws.specs.Leasts.{IsLeast, lesser, found_if}
use Rattle.list_laws.proofs.LeastLines.{same_least, either, alone}
use Rattle.def_syntax.specs.declared.design.Located.{Located}
use Rattle.def_syntax.specs.declared.design.DesignText.{DesignText}
use Rattle.def_reader.specs.Faults.{FailsAt, are_no_units, has_far_component, has_far_pin, has_many_bits, NumberAt, BadUnits, FarComponent, FarPin, ManyBits}

module _ {X : Type 0} (bad : X → Bool) (rows : List (Located X)) (row : Located X) where
  to_last : (n : ℕ) → FailsAt bad rows n ⊎ ((bad row.statement ≡ true) × (n ≡ row.line)) → FailsAt bad (rows ++ row ∷ []) n
  to_last n (inl h) = record { row = h.row; there = Contains-append_left rows (row ∷ []) h.row h.there; fails = h.fails; is = h.is }
  to_last n (inr h) = record { row = row; there = Contains-append_right rows (row ∷ []) row (0, omega arith, refl); fails = h.0; is = h.1 }

  only_last : (x : Located X) → Contains (row ∷ []) x → row ≡ x
  only_last x (zero, lt, is) = is
  only_last x (suc k, lt, is) = absurd (omega arith)

  from_last : (n : ℕ) → FailsAt bad (rows ++ row ∷ []) n → FailsAt bad rows n ⊎ ((bad row.statement ≡ true) × (n ≡ row.line))
  from_last n h =
      elim (Contains-append_cases rows (row ∷ []) h.row h.there) [
        | inl there ↦ inl (record { row = h.row; there = there; fails = h.fails; is = h.is })
        | inr last ↦
            let same = only_last h.row last in
            inr (subst (λ (x : Located X). bad x.statement ≡ true) (sym same) h.fails, h.is ∙ ap (λ (x : Located X). x.line) (sym same))
      ]

  pub with_last : (r : Option ℕ) → IsLeast (FailsAt bad rows) r → IsLeast (FailsAt bad (rows ++ row ∷ [])) (lesser r (found_if (bad row.statement) row.line))
  with_last r least =
      same_least (λ n. FailsAt bad rows n ⊎ ((bad row.statement ≡ true) × (n ≡ row.line))) (FailsAt bad (rows ++ row ∷ [])) _ to_last from_last
      (either (FailsAt bad rows) (λ n. (bad row.statement ≡ true) × (n ≡ row.line)) r (found_if (bad row.statement) row.line) least (alone (bad row.statement) row.line))

-- one statement more is looked at
pub fails_more : {X : Type 0} (bad : X → Bool) (rows : List (Located X)) (i : ℕ) (row : Located X) (r : Option ℕ) → i < length rows → row ≡ get_or rows i row → IsLeast (FailsAt bad (take i rows)) r
    → IsLeast (FailsAt bad (take (i + 1) rows)) (lesser r (found_if (bad row.statement) row.line))
fails_more {X} bad rows i row r lt is least =
    let more : take (i + 1) rows ≡ take i rows ++ row ∷ [] = take_more rows i row lt ∙ ap (λ (x : Located X). take i rows ++ x ∷ []) (sym is) in
    subst (λ (l : List (Located X)). IsLeast (FailsAt bad l) (lesser r (found_if (bad row.statement) row.line))) (sym more) (with_last bad (take i rows) row r least)

-- none is looked at
pub fails_none : {X : Type 0} (bad : X → Bool) → IsLeast (FailsAt bad []) None
fails_none bad = λ n h. absurd (omega (arith, h.there.1))

abbrev Numbers : DesignText → ℕ → Type 0
Numbers t n = (FailsAt are_no_units (t.units ∷ []) n ⊎ FailsAt has_far_component t.components n) ⊎ (FailsAt has_far_pin t.pins n ⊎ FailsAt has_many_bits t.chains n)

number_there : (t : DesignText) (n : ℕ) → Numbers t n → NumberAt t n
number_there t n (inl (inl h)) = BadUnits h
number_there t n (inl (inr h)) = FarComponent h
number_there t n (inr (inl h)) = FarPin h
number_there t n (inr (inr h)) = ManyBits h

number_back : (t : DesignText) (n : ℕ) → NumberAt t n → Numbers t n
number_back t n (BadUnits h) = inl (inl h)
number_back t n (FarComponent h) = inl (inr h)
number_back t n (FarPin h) = inr (inl h)
number_back t n (ManyBits h) = inr (inr h)

-- the least line of all numbers beyond their limits
pub number_least : (t : DesignText) (u c p h : Option ℕ) → IsLeast (FailsAt are_no_units (t.units ∷ [])) u → IsLeast (FailsAt has_far_component t.components) c → IsLeast (FailsAt has_far_pin t.pins) p
    → IsLeast (FailsAt has_many_bits t.chains) h → IsLeast (NumberAt t) (lesser (lesser u c) (lesser p h))
number_least t u c p h units components pins chains =
    let U = FailsAt are_no_units (t.units ∷ []) in
    let C = FailsAt has_far_component t.components in
    let P = FailsAt has_far_pin t.pins in
    let H = FailsAt has_many_bits t.chains in
    same_least (λ n. (U n ⊎ C n) ⊎ (P n ⊎ H n)) (NumberAt t) _ (number_there t) (number_back t)
    (either (λ n. U n ⊎ C n) (λ n. P n ⊎ H n) (lesser u c) (lesser p h) (either U C u c units components) (either P H p h pins chains))

-- all are looked at
pub fails_all : {X : Type 0} (bad : X → Bool) (rows : List (Located X)) (i : ℕ) (r : Option ℕ) → length rows ≤ i → IsLeast (FailsAt bad (take i rows)) r → IsLeast (FailsAt bad rows) r
fails_all {X} bad rows i r le least = subst (λ (l : List (Located X)). IsLeast (FailsAt bad l) r) (take_all i rows le) least
