-- Nets that assigns join (IEEE 1364-2005, 6.1).
use Rattle.std.specs.Prelude.{◌≡◌, ◌⊎◌, ℕ, ◌<◌, ◌≤◌, ◌↔◌, List, [], ◌∷◌, length, slice_index, Contains}
use Rattle.std.specs.List.{flat_map}
use Rattle.netlist_core.specs.declared.netlist.Bit.{Bit}
use Rattle.netlist_core.specs.declared.netlist.Bit.TheVariants.{Net}
use Rattle.netlist_core.specs.declared.netlist.Netlist.{Netlist}
use Rattle.netlist_core.specs.Netlists.{bit_pairs}

-- the bit of a net
abbrev pub net_bit : ℕ → Bit
net_bit net = Net (record { 0 = net })

-- a and b are the two sides of one of these pairs, in either direction; a constant is no net's bit
abbrev pub AreSidesOf : List (Bit × Bit) → ℕ → ℕ → Type 0
AreSidesOf ps a b = Contains ps (net_bit a, net_bit b) ⊎ Contains ps (net_bit b, net_bit a)

-- the pairs of bits of all assigns
abbrev pub assigned : Netlist → List (Bit × Bit)
assigned n = flat_map bit_pairs n.assigns

-- a and b are the two sides of one bit of an assign
abbrev pub AreSides : Netlist → ℕ → ℕ → Type 0
AreSides n = AreSidesOf (assigned n)

-- from a over these nets to b each two neighbours are sides
abbrev pub IsChain : (ℕ → ℕ → Type 0) → ℕ → List ℕ → ℕ → Type 0
IsChain Sides a [] b = a ≡ b
IsChain Sides a (c ∷ cs) b = Sides a c × IsChain Sides c cs b

-- a chain of sides leads from one net to the other
pub record AreLinked (Sides : ℕ → ℕ → Type 0) (a b : ℕ) : Type 0 where
  pub over : List ℕ
  pub chain : IsChain Sides a over b

-- a list of nets leads from a to b, each two neighbours the two sides of one bit of an assign
abbrev pub AreJoined : Netlist → ℕ → ℕ → Type 0
AreJoined n = AreLinked (AreSides n)

-- a number for each net: two nets have one number exactly where they are joined; the number is a net that is joined to
-- the net, and no joined net is less
pub record AreClassesOf (n : Netlist) (classes : List ℕ) : Type 0 where
  pub count : length classes ≡ length n.nets
  pub same : (a b : ℕ) → a < length n.nets → b < length n.nets → (slice_index classes a ≡ slice_index classes b ↔ AreJoined n a b)
  pub own : (a : ℕ) → a < length n.nets → AreJoined n a (slice_index classes a)
  pub least : (a b : ℕ) → a < length n.nets → b < length n.nets → AreJoined n a b → slice_index classes a ≤ b
