-- Places in a list by names.
use Rattle.std.specs.Prelude.{◌≡◌, ℕ, ◌<◌, List, take, Some, option_and_then, slice_get}
use Rattle.std.specs.Borrow.{Bor}
use Rattle.std.specs.List.{find}
use Rattle.std.specs.HashMap.{HashMap, get}
use Rattle.std.specs.Str.{bytes_eq}

-- each name has the place of the first of so many members that has it, and no other name has one
pub record AreNoted {X S : Type 0} (name : X → List ℕ) (places : HashMap (Bor (List ℕ)) ℕ S) (xs : List X) (n : ℕ) : Type 0 where
  pub is : (q : Bor (List ℕ)) → option_and_then (λ place. slice_get xs place) (get (λ x y. bytes_eq x.now y.now) places q) ≡ find (λ x. bytes_eq (name x) q.now) (take n xs)
  pub within : (q : Bor (List ℕ)) (place : ℕ) → get (λ x y. bytes_eq x.now y.now) places q ≡ Some place → place < n
