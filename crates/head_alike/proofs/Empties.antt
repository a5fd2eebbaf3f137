-- Lists of places that are empty.
use Rattle.std.proofs.Common.{◌≡◌, ℕ, Bool, true, false, cond, List, [], ◌∷◌, ◌++◌, ◌||◌, map, refl, sym, ap, ◌∙◌, subst}
use Rattle.std.specs.List.{flat_map, list_any, count_by, AllByRecursion as Each}
use Rattle.token_forms.specs.Tokens.{Token}
use Rattle.list_laws.specs.Leasts.{place_if}
use Rattle.head_alike.specs.Steps.{Step, olds, news}

module _ {X : Type 0} where
  pub no_front : (xs ys : List X) → xs ++ ys ≡ [] → xs ≡ []
  no_front [] ys e = refl
  no_front (x ∷ xs) ys e = absurd cc

  pub no_back : (xs ys : List X) → xs ++ ys ≡ [] → ys ≡ []
  no_back [] ys e = e
  no_back (x ∷ xs) ys e = absurd cc

  pub both_none : (xs ys : List X) → xs ≡ [] → ys ≡ [] → xs ++ ys ≡ []
  both_none xs ys e f = ap (λ (l : List X). l ++ ys) e ∙ f

pub if_none : (b : Bool) (p : ℕ) → place_if b p ≡ [] → b ≡ false
if_none true p e = absurd cc
if_none false p e = refl

pub none_if : (b : Bool) (p : ℕ) → b ≡ false → place_if b p ≡ []
none_if b p e = ap (λ (k : Bool). place_if k p) e

-- a place that is none stays none where the test says the same
pub place_both : (b c : Bool) (p q : ℕ) → b ≡ c → place_if b p ≡ [] → place_if c q ≡ []
place_both b c p q same e = none_if c q (sym same ∙ if_none b p e)

pub more_both : (xs ys us vs : List ℕ) → (xs ≡ [] → us ≡ []) → (ys ≡ [] → vs ≡ []) → xs ++ ys ≡ [] → us ++ vs ≡ []
more_both xs ys us vs f g e = both_none us vs (f (no_front xs ys e)) (g (no_back xs ys e))

module _ (P : List Step → Type 0) where
  pub flat_both : (f g : List Token → List ℕ) → ((r : List Step) → P r → f (olds r) ≡ [] → g (news r) ≡ []) → (rows : List (List Step)) → Each P rows → flat_map f (map olds rows) ≡ [] → flat_map g (map news rows) ≡ []
  flat_both f g h [] each e = refl
  flat_both f g h (r ∷ rows) each e = more_both (f (olds r)) (flat_map f (map olds rows)) (g (news r)) (flat_map g (map news rows)) (h r each.0) (flat_both f g h rows each.1) e

  pub any_both : (f : List Token → Bool) → ((r : List Step) → P r → f (olds r) ≡ f (news r)) → (rows : List (List Step)) → Each P rows → list_any f (map olds rows) ≡ list_any f (map news rows)
  any_both f h [] each = refl
  any_both f h (r ∷ rows) each = ap (λ (b : Bool). b || list_any f (map olds rows)) (h r each.0) ∙ ap (λ (b : Bool). f (news r) || b) (any_both f h rows each.1)

  pub map_both : {X : Type 0} (f g : List Token → List X) → ((r : List Step) → P r → f (olds r) ≡ g (news r)) → (rows : List (List Step)) → Each P rows → flat_map f (map olds rows) ≡ flat_map g (map news rows)
  map_both f g h [] each = refl
  map_both f g h (r ∷ rows) each = ap (λ l. l ++ flat_map f (map olds rows)) (h r each.0) ∙ ap (λ l. g (news r) ++ l) (map_both f g h rows each.1)
