-- How classes are found: each net has a parent that isn't greater, and its root is the least net of its class.
use Rattle.std.specs.Prelude.{◌≡◌, ℕ, ◌<◌, ◌≤◌, ◌==◌, ◌↔◌, if◌then◌else◌, List, length, slice_index, min, max}
use Rattle.netlist_core.specs.declared.netlist.Bit.{Bit}
use Rattle.netlist_core.specs.Joining.{AreSidesOf, AreLinked}

-- no parent is greater than its net
abbrev pub Falls : List ℕ → Type 0
Falls parents = (k : ℕ) → k < length parents → slice_index parents k ≤ k

-- a root is no greater than its net, and is its own root
pub record AreLeast (count : ℕ) (root : ℕ → ℕ) : Type 0 where
  pub low : (k : ℕ) → k < count → root k ≤ k
  pub own : (k : ℕ) → k < count → root (root k) ≡ root k

-- a net has the root of its parent, and a net that is its own parent is its own root
pub record AreParents (parents : List ℕ) (root : ℕ → ℕ) : Type 0 where
  pub passes : (k : ℕ) → k < length parents → root (slice_index parents k) ≡ root k
  pub ends : (k : ℕ) → k < length parents → slice_index parents k ≡ k → root k ≡ k

-- two nets have one root exactly where these pairs link them
abbrev pub AreRoots : ℕ → List (Bit × Bit) → (ℕ → ℕ) → Type 0
AreRoots count ps root = (a b : ℕ) → a < count → b < count → (root a ≡ root b ↔ AreLinked (AreSidesOf ps) a b)

-- the parents are those of the classes by these pairs
pub record IsForest (count : ℕ) (ps : List (Bit × Bit)) (parents : List ℕ) : Type 0 where
  pub root : ℕ → ℕ
  pub least : AreLeast count root
  pub kept : AreParents parents root
  pub same : AreRoots count ps root
  pub inside : (a b : ℕ) → AreSidesOf ps a b → b < count

-- the root of a class after the class `from` is merged into the class `to`
abbrev pub merged : ℕ → ℕ → ℕ → ℕ
merged from to class = if class == from then to else class

-- the roots after a and b are joined
abbrev pub joined_roots : (ℕ → ℕ) → ℕ → ℕ → ℕ → ℕ
joined_roots root a b k = merged (max (root a) (root b)) (min (root a) (root b)) (root k)

-- the class numbers by these pairs, each the least net of its class
pub record IsNumbering (count : ℕ) (ps : List (Bit × Bit)) (classes : List ℕ) : Type 0 where
  pub least : AreLeast count (slice_index classes)
  pub same : AreRoots count ps (slice_index classes)
  pub inside : (a b : ℕ) → AreSidesOf ps a b → b < count
