-- The least line of several members, as one more is looked at.
use Rattle.std.proofs.Common.{◌≡◌, ℕ, zero, suc, ◌+◌, ◌<◌, ◌≤◌, ◌⊎◌, inl, inr, Bool, true, false, List, [], ◌∷◌, ◌++◌, length, get_or, take, Option, Some, None, Contains, refl, sym, subst, arith}
use Rattle.std.proofs.lemmas.List.{take_more, take_all}
use Rattle.std.proofs.lemmas.List.Elements.{Contains-append_left, Contains-append_right, Contains-append_cases}
use Rattle.list_laws.specs.Leasts.{IsLeast, lesser}
use Rattle.list_laws.proofs.LeastLines.{same_least, either}
use Rattle.design_places.specs.Lines.{ForOne, FailsAt}

-- a line that counts, and none where it doesn't
pub fails_here : (bad : Bool) (line : ℕ) → bad ≡ true → IsLeast (FailsAt bad line) (Some line)
fails_here bad line e = ((e, refl), λ n h. omega (arith, h.1))

pub fails_not : (bad : Bool) (line : ℕ) → bad ≡ false → IsLeast (FailsAt bad line) None
fails_not bad line e = λ n h. let t = h.0 in absurd cc

module _ {X : Type 0} (P : X → ℕ → Type 0) where
  only_last : (x y : X) → Contains (x ∷ []) y → x ≡ y
  only_last x y (zero, lt, is) = is
  only_last x y (suc k, lt, is) = absurd (omega arith)

  to_last : (xs : List X) (x : X) (n : ℕ) → ForOne P xs n ⊎ P x n → ForOne P (xs ++ x ∷ []) n
  to_last xs x n (inl h) = record { one = h.one; there = Contains-append_left xs (x ∷ []) h.one h.there; fails = h.fails }
  to_last xs x n (inr h) = record { one = x; there = Contains-append_right xs (x ∷ []) x (0, omega arith, refl); fails = h }

  from_last : (xs : List X) (x : X) (n : ℕ) → ForOne P (xs ++ x ∷ []) n → ForOne P xs n ⊎ P x n
  from_last xs x n h =
      elim (Contains-append_cases xs (x ∷ []) h.one h.there) [
        | inl there ↦ inl (record { one = h.one; there = there; fails = h.fails })
        | inr last ↦ inr (subst (λ (y : X). P y n) (sym (only_last x h.one last)) h.fails)
      ]

  pub one_none : IsLeast (ForOne P []) None
  one_none = λ n h. absurd (omega (arith, h.there.1))

  -- a member that is copied
  pub one_at : (xs : List X) (i : ℕ) (d : X) (r s : Option ℕ) → i < length xs → IsLeast (ForOne P (take i xs)) r → IsLeast (P (get_or xs i d)) s → IsLeast (ForOne P (take (i + 1) xs)) (lesser r s)
  one_at xs i d r s lt least here =
      let x = get_or xs i d in
      subst (λ (l : List X). IsLeast (ForOne P l) (lesser r s)) (sym (take_more xs i d lt))
      (same_least (λ n. ForOne P (take i xs) n ⊎ P x n) (ForOne P (take i xs ++ x ∷ [])) _ (to_last (take i xs) x) (from_last (take i xs) x) (either (ForOne P (take i xs)) (P x) r s least here))

  -- or one that is lent
  pub one_more : (xs : List X) (i : ℕ) (x : X) (r s : Option ℕ) → i < length xs → x ≡ get_or xs i x → IsLeast (ForOne P (take i xs)) r → IsLeast (P x) s → IsLeast (ForOne P (take (i + 1) xs)) (lesser r s)
  one_more xs i x r s lt is least here = one_at xs i x r s lt least (subst (λ (y : X). IsLeast (P y) s) is here)

  pub one_all : (xs : List X) (i : ℕ) (r : Option ℕ) → length xs ≤ i → IsLeast (ForOne P (take i xs)) r → IsLeast (ForOne P xs) r
  one_all xs i r le least = subst (λ (l : List X). IsLeast (ForOne P l) r) (take_all i xs le) least
