-- Hashes that are told apart, and of what they are.
use Rattle.std.specs.Prelude.{◌≡◌, ℕ, ◌-◌, ◌*◌, ◌/◌, ◌%◌, ◌^◌, ◌<◌, ◌≤◌, max, List, length, codes, slice_index, Contains}
use Rattle.std.specs.Hash.FoldHasher as folding
use Rattle.def_reader.specs.declared.design.NetPin.{NetPin}
use Rattle.def_reader.specs.declared.design.NetPin.TheVariants.{Cell, Port}
use Rattle.def_reader.specs.declared.hashes.Hashes.{Hashes}
use Rattle.def_reader.specs.Faults.{StandsAgain, names_in}

-- the hash of a name
unfoldable pub name_hash : List ℕ → ℕ
name_hash name = folding.finish (folding.write folding.initial name)

-- the hash of two words
unfoldable pub pair_hash : List ℕ → List ℕ → ℕ
pair_hash first second = folding.finish (folding.write (folding.write folding.initial first) second)

-- the hash of a connection
abbrev pub pin_hash : NetPin → ℕ
pin_hash (Cell component pin) = pair_hash component pin
pin_hash (Port pin) = pair_hash (codes "PIN") pin

-- what stands for a hash
abbrev pub tag_of : ℕ → ℕ
tag_of hash = max (hash / 2 ^ 32) 1

-- the first slot that is looked at for a hash
abbrev pub home_of : List ℕ → ℕ → ℕ
home_of slots hash = hash % 2 ^ 32 * (length slots - 128) % 2 ^ 64 / 2 ^ 32

-- a tag stands in a slot from its first on, and no slot between is empty
pub record IsIn (slots : List ℕ) (home tag : ℕ) : Type 0 where
  pub at : ℕ
  pub from : home ≤ at
  pub is : slice_index slots at ≡ tag
  pub full : (k : ℕ) → home ≤ k → k < at → slice_index slots k ≡ 0 → ⊥

-- a hash was added
abbrev pub IsHeld : Hashes → ℕ → Type 0
IsHeld hashes hash = IsIn hashes.slots.items (home_of hashes.slots.items hash) (tag_of hash)

-- a hash is added that wasn't there
pub record Adds (old new : Hashes) (hash : ℕ) : Type 0 where
  pub fresh : IsHeld old hash → ⊥
  pub held : IsHeld new hash
  pub kept : (other : ℕ) → IsHeld old other → IsHeld new other

-- each of the rows is known, and none stands a second time
pub record AreTold {K : Type 0} (IsKnown : K → Type 0) (rows : List (K × ℕ)) : Type 0 where
  pub known : (k : K) → Contains (names_in rows) k → IsKnown k
  pub once : (line : ℕ) → StandsAgain rows line → ⊥

-- the hash of a name was added
abbrev pub IsNameHeld : Hashes → List ℕ → Type 0
IsNameHeld hashes name = IsHeld hashes (name_hash name)

-- the hash of a connection was added
abbrev pub IsPinHeld : Hashes → NetPin → Type 0
IsPinHeld hashes pin = IsHeld hashes (pin_hash pin)
