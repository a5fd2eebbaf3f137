-- The names of tails: `scan_tail_` and the least numbers that no name in the module takes.
use Rattle.std.specs.Prelude.{◌≡◌, ◌==◌, ℕ, ◌+◌, ◌<◌, ◌≤◌, ◌^◌, ◌||◌, Bool, true, false, List, [], ◌∷◌, ◌++◌, map, codes, decimal}
use Rattle.std.specs.List.{list_any, starts_with}
use Rattle.std.specs.Str.{bytes_eq}
use Rattle.netlist_core.specs.declared.netlist.Netlist.{Netlist}

-- the name of the tail of a number
abbrev pub tail_name : ℕ → List ℕ
tail_name number = codes "scan_tail_" ++ decimal number

-- the text of a net is that of a bit of a vector of this name: it begins with the name and an opening bracket
abbrev pub is_bit_of_vector : List ℕ → List ℕ → Bool
is_bit_of_vector name text = starts_with ◌==◌ text (name ++ codes "[")

-- the plain name is that of a net, a vector or an instance; ports are nets
abbrev pub is_taken : Netlist → List ℕ → Bool
is_taken n name =
    list_any (λ net. bytes_eq net.plain name || is_bit_of_vector name net.text) n.nets || list_any (λ placed. bytes_eq placed.name name) n.instances

-- the number is the least from another on whose name isn't taken
pub record IsLeastFree (n : Netlist) (from number : ℕ) : Type 0 where
  pub from_on : from ≤ number
  pub small : number < 2 ^ 32
  pub free : is_taken n (tail_name number) ≡ false
  pub least : (other : ℕ) → from ≤ other → other < number → is_taken n (tail_name other) ≡ true

-- numbers, each the least behind the one before it, the first from a number on, whose name isn't taken
abbrev pub AreLeastFree : Netlist → ℕ → List ℕ → Type 0
AreLeastFree n from [] = Unit {0}
AreLeastFree n from (number ∷ numbers) = IsLeastFree n from number × AreLeastFree n (number + 1) numbers

-- the names of tails in their order: each has the least number from 0 whose name isn't taken, and isn't that of a tail before it
pub record AreLeastNames (n : Netlist) (names : List (List ℕ)) : Type 0 where
  pub numbers : List ℕ
  pub free : AreLeastFree n 0 numbers
  pub are : names ≡ map tail_name numbers
