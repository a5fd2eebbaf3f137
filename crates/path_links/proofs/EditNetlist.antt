-- Lists whose members are changed, each by its place.
use Rattle.std.proofs.Common.{◌≡◌, ℕ, suc, ◌+◌, List, [], ◌∷◌, length, map, refl, ap, ap₂, arith}
use Rattle.std.specs.Prelude.{Some, All}
use Rattle.std.specs.List.{slice_get}
use Rattle.std.proofs.lemmas.List.Elements.{All-nil, All-cons}
use Rattle.path_links.specs.Edited.{map_from}

module _ {X Y : Type 0} (f : ℕ → X → Y) where
  pub length-map_from : (k : ℕ) (xs : List X) → length (map_from f k xs) ≡ length xs
  length-map_from k [] = refl
  length-map_from k (x ∷ xs) = ap suc (length-map_from (k + 1) xs)

  pub all_map_from : (P : Y → Type 0) (k : ℕ) (xs : List X) → ((i j : ℕ) (x : X) → slice_get xs i ≡ Some x → j ≡ k + i → P (f j x)) → All P (map_from f k xs)
  all_map_from P k [] h = All-nil P
  all_map_from P k (x ∷ xs) h =
      All-cons P (f k x) (map_from f (k + 1) xs) (h 0 k x refl (omega arith)) (all_map_from P (k + 1) xs (λ i j y is e. h (suc i) j y is (omega (arith, e))))

  -- what each member shows, by its place
  pub map-map_from : {Z : Type 0} (g : Y → Z) (h : X → Z) (k : ℕ) (xs : List X) → ((i j : ℕ) (x : X) → slice_get xs i ≡ Some x → j ≡ k + i → g (f j x) ≡ h x) → map g (map_from f k xs) ≡ map h xs
  map-map_from g h k [] same = refl
  map-map_from g h k (x ∷ xs) same =
      ap₂ (λ (z : _) (zs : List _). z ∷ zs) (same 0 k x refl (omega arith)) (map-map_from g h (k + 1) xs (λ i j y is e. same (suc i) j y is (omega (arith, e))))

pub map_twice : {X Y Z : Type 0} (g : Y → Z) (f : X → Y) (xs : List X) → map g (map f xs) ≡ map (λ x. g (f x)) xs
map_twice g f [] = refl
map_twice g f (x ∷ xs) = ap (λ (zs : List _). g (f x) ∷ zs) (map_twice g f xs)
