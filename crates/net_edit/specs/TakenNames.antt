-- The names in a module that a tail could have, as a set.
use Rattle.std.specs.Prelude.{◌≡◌, ℕ, ◌<◌, ◌^◌, ◌==◌, Bool, false, List}
use Rattle.std.specs.List.{AllByRecursion as Each}
use Rattle.std.specs.HashSet.{HashSet, contains_by}
use Rattle.std.specs.Str.{bytes_eq}
use Rattle.std.specs.Borrow.{Bor}
use Rattle.netlist_core.specs.declared.netlist.Netlist.{Netlist}
use Rattle.net_edit.specs.TailNames.{tail_name, is_taken}

-- no opening bracket stands in the name
abbrev pub HasNoBracket : List ℕ → Type 0
HasNoBracket name = Each (λ b. (b == 91) ≡ false) name

-- the set has the name
abbrev pub has_name : {S : Type 0} → HashSet (Bor (List ℕ)) S → List ℕ → Bool
has_name set name = contains_by (λ k. bytes_eq name k.now) set

-- of each tail's name the set says whether it is taken
abbrev pub HasTaken : {S : Type 0} → Netlist → HashSet (Bor (List ℕ)) S → Type 0
HasTaken n set = (number : ℕ) → number < 2 ^ 32 → has_name set (tail_name number) ≡ is_taken n (tail_name number)
