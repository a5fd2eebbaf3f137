-- Names that stand again, as one row more is looked at.
use Rattle.std.proofs.Common.{◌≡◌, ℕ, zero, suc, ◌⊎◌, inl, inr, Bool, true, false, cond, not, List, [], ◌∷◌, ◌++◌, Option, None, Contains, refl, sym, ap, ◌∙◌, subst, append_assoc, arith}
use Rattle.std.proofs.lemmas.Bool.{cases_Bool}
use Rattle.std.proofs.lemmas.List.{map-append}
use Rattle.std.proofs.lemmas.List.Elements.{Contains-append_left, Contains-append_right, Contains-append_cases}
use Rattle.def_reader.specs.Faults.{StandsAgain, names_in}
use Rattle.list_laws.specs.Leasts.{IsLeast, lesser, found_if}
use Rattle.list_laws.proofs.LeastLines.{same_least, either, alone}
use Rattle.list_laws.proofs.RowsMore.{nil_not, split_last}
use Rattle.def_reader.specs.Steps.{IsSeen}

module _ {K : Type 0} (rows : List (K × ℕ)) (name : K) (line : ℕ) where
  to_last : (n : ℕ) → StandsAgain rows n ⊎ (Contains (names_in rows) name × (n ≡ line)) → StandsAgain (rows ++ (name, line) ∷ []) n
  to_last n (inl h) = record {
    front = h.front;
    name = h.name;
    behind = h.behind ++ (name, line) ∷ [];
    is = ap (λ (l : List (K × ℕ)). l ++ (name, line) ∷ []) h.is ∙ append_assoc h.front ((h.name, n) ∷ h.behind) ((name, line) ∷ []);
    before = h.before;
  }
  to_last n (inr h) = record { front = rows; name = name; behind = []; is = ap (λ (m : ℕ). rows ++ (name, m) ∷ []) (sym h.1); before = h.0 }

  pub from_last : (n : ℕ) → StandsAgain (rows ++ (name, line) ∷ []) n → StandsAgain rows n ⊎ (Contains (names_in rows) name × (n ≡ line))
  from_last n h =
      elim (split_last rows h.front h.behind (name, line) (h.name, n) h.is) [
        | inl w ↦ inl (record { front = h.front; name = h.name; behind = w.0; is = w.1; before = h.before })
        | inr w ↦
            let before = subst (λ (front : List (K × ℕ)). Contains (names_in front) h.name) (sym w.0) h.before in
            inr (subst (λ (k : K). Contains (names_in rows) k) (ap (λ (r : K × ℕ). r.0) (sym w.1)) before, ap (λ (r : K × ℕ). r.1) (sym w.1))
      ]

-- none stands again where there is none
pub none_again : {K : Type 0} → IsLeast (StandsAgain {K = K} []) None
none_again = λ n h. nil_not h.front h.behind (h.name, n) h.is

cond_same : (t b : Bool) → t ≡ true → cond t true b ≡ true
cond_same true b e = refl
cond_same false b e = absurd cc

cond_other : (t b : Bool) → t ≡ false → cond t true b ≡ true → b ≡ true
cond_other true b e h = absurd cc
cond_other false b e h = h

cond_kept : (t b : Bool) → b ≡ true → cond t true b ≡ true
cond_kept true b e = refl
cond_kept false b e = e

not_not : (added there : Bool) → added ≡ not there → not added ≡ there
not_not true true e = absurd cc
not_not true false e = refl
not_not false true e = refl
not_not false false e = absurd cc

module _ {Q K : Type 0} (name : Q → K) (has now : Q → Bool) (same : Q → Bool) (x : Q) (exact : (q : Q) → same q ≡ true → name x ≡ name q) (back : (q : Q) → name x ≡ name q → same q ≡ true) (added : Bool)
    (least : Option ℕ) (rows : List (K × ℕ)) (line : ℕ) (updates : (q : Q) → now q ≡ cond (same q) true (has q)) (fresh : added ≡ not (has x)) (seen : IsSeen name has least rows) where
  names_more : names_in (rows ++ (name x, line) ∷ []) ≡ names_in rows ++ name x ∷ []
  names_more = map-append (λ (r : K × ℕ). r.0) rows ((name x, line) ∷ [])

  only : (k : K) → Contains (name x ∷ []) k → name x ≡ k
  only k (zero, lt, is) = is
  only k (suc n, lt, is) = absurd (omega arith)

  was_more : (q : Q) → now q ≡ true → Contains (names_in (rows ++ (name x, line) ∷ [])) (name q)
  was_more q h =
      subst (λ (l : List K). Contains l (name q)) (sym names_more)
      (elim (cases_Bool (same q)) [
        | inl is ↦
            subst (λ (k : K). Contains (names_in rows ++ name x ∷ []) k) (exact q is) (Contains-append_right (names_in rows) (name x ∷ []) (name x) (0, omega arith, refl))
        | inr other ↦ Contains-append_left (names_in rows) (name x ∷ []) (name q) (seen.was q (cond_other (same q) (has q) other (sym (updates q) ∙ h)))
      ])

  kept_more : (q : Q) → Contains (names_in (rows ++ (name x, line) ∷ [])) (name q) → now q ≡ true
  kept_more q h =
      updates q
      ∙ (elim (Contains-append_cases (names_in rows) (name x ∷ []) (name q) (subst (λ (l : List K). Contains l (name q)) names_more h)) [
        | inl there ↦ cond_kept (same q) (has q) (seen.kept q there)
        | inr last ↦ cond_same (same q) (has q) (back q (only (name q) last))
      ])

  again : not added ≡ has x
  again = not_not added (has x) fresh

  least_more : IsLeast (StandsAgain (rows ++ (name x, line) ∷ [])) (lesser least (found_if (not added) line))
  least_more =
      same_least (λ n. StandsAgain rows n ⊎ ((not added ≡ true) × (n ≡ line))) (StandsAgain (rows ++ (name x, line) ∷ [])) _
      (λ n h. to_last rows (name x) line n (elim h [ inl k ↦ inl k | inr k ↦ inr (seen.was x (sym again ∙ k.0), k.1) ]))
      (λ n h. elim (from_last rows (name x) line n h) [ inl k ↦ inl k | inr k ↦ inr (again ∙ seen.kept x k.0, k.1) ])
      (either (StandsAgain rows) (λ n. (not added ≡ true) × (n ≡ line)) least (found_if (not added) line) seen.least (alone (not added) line))

  -- one row more
  pub seen_more : IsSeen name now (lesser least (found_if (not added) line)) (rows ++ (name x, line) ∷ [])
  seen_more = record { was = was_more; kept = kept_more; least = least_more }
