-- The least of places, as items are gathered.
use Rattle.std.proofs.Common.{◌≡◌, ℕ, List, [], ◌∷◌, Option, refl, sym, ap, ◌∙◌}
use Rattle.std.specs.List.{flat_map}
use Rattle.list_laws.specs.Leasts.{lesser, least_of}
use Rattle.list_laws.proofs.Leasts.{lesser_none, then_list}
use Rattle.lef_pins.specs.Reading.{gathered}

module _ {S I : Type 0} (put : S → I → S) where
  -- what each item adds to the least place, all items add
  pub all_places : (part : S → Option ℕ) (places : I → List ℕ) → ((s : S) (i : I) → part (put s i) ≡ lesser (part s) (least_of (places i)))
      → (s : S) (is : List I) → part (gathered put s is) ≡ lesser (part s) (least_of (flat_map places is))
  all_places part places step s [] = sym (lesser_none (part s))
  all_places part places step s (i ∷ is) =
      all_places part places step (put s i) is ∙ ap (λ (x : Option ℕ). lesser x (least_of (flat_map places is))) (step s i) ∙ then_list (part s) (places i) (flat_map places is)

  -- what no item changes
  pub unchanged : {X : Type 0} (part : S → X) → ((s : S) (i : I) → part (put s i) ≡ part s) → (s : S) (is : List I) → part (gathered put s is) ≡ part s
  unchanged part step s [] = refl
  unchanged part step s (i ∷ is) = unchanged part step (put s i) is ∙ step s i
