-- A list whose members are changed by their places, at a place.
use Rattle.std.proofs.Common.{◌≡◌, ℕ, zero, suc, ◌+◌, List, [], ◌∷◌, Some, option_map, refl, ap, ◌∙◌, arith}
use Rattle.std.specs.List.{slice_get}
use Rattle.path_links.specs.Edited.{map_from}

pub map_from_at : {X Y : Type 0} (f : ℕ → X → Y) (k : ℕ) (xs : List X) (i : ℕ) → slice_get (map_from f k xs) i ≡ option_map (f (k + i)) (slice_get xs i)
map_from_at f k [] i = refl
map_from_at f k (x ∷ xs) zero = let e : k ≡ k + 0 = omega arith in ap (λ (j : ℕ). Some (f j x)) e
map_from_at f k (x ∷ xs) (suc i) =
    let e : k + 1 + i ≡ k + suc i = omega arith in
    map_from_at f (k + 1) xs i ∙ ap (λ (j : ℕ). option_map (f j) (slice_get xs i)) e
