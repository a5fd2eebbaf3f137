-- What the check of names knows of the statements so far.
use Rattle.std.specs.Prelude.{◌≡◌, ℕ, ◌-◌, Bool, true, false, ◌&&◌, ◌||◌, not, nat_lt, List, [], ◌∷◌, ◌++◌, length, map, drop, Option, Some, None}
use Rattle.std.specs.List.{list_any, list_all, filter}
use Rattle.std.specs.Borrow.{Bor}
use Rattle.std.specs.HashSet.{HashSet}
use Rattle.std.specs.Str.{bytes_eq}
use Rattle.verilog_syntax.specs.declared.statement.Declared.{Declared}
use Rattle.verilog_syntax.specs.declared.reading.Placed.{Placed}
use Rattle.verilog_names.specs.declared.bounds.Bounds.{Bounds}
use Rattle.verilog_names.specs.declared.declared.First.{First}
use Rattle.verilog_checks.specs.declared.twice.Seen.{Seen}
use Rattle.verilog_names.specs.Values.{unescaped}
use Rattle.verilog_names.specs.Declarations.{Declaration, declarations, first_of, bounds_in, is_port_kind, is_wire}
use Rattle.verilog_checks.specs.Checks.{stands_again, any_again, has_bit_in, have_bits, bad_twice}
use Rattle.verilog_checks.specs.Faults.{same_bounds, instance_names, scalars}
use Rattle.verilog_names.specs.NameSets.{HasNames}
use Rattle.verilog_names.specs.NameTables.{firsts_of}

-- the names of the code keep these declarations
abbrev pub Keeps : List (List ℕ × First) → List Declaration → Type 0
Keeps names ds = names ≡ firsts_of ds

-- both bounds are at most 65535
abbrev pub is_small : Option Bounds → Bool
is_small None = true
is_small (Some b) = not (nat_lt 65535 b.left || nat_lt 65535 b.right)

-- no bound exceeds the greatest index
abbrev pub have_small : List Declaration → Bool
have_small ds = list_all (λ d. is_small d.bounds) ds

-- a name that stands again, by what is kept of its first declaration
abbrev pub may_stand_beside : First → Declared → Option Bounds → Bool
may_stand_beside first kind bounds = is_port_kind first.kind && is_wire kind && same_bounds first.bounds bounds

-- the name is that of a bit of a declared vector
abbrev pub is_bit : List Declaration → List ℕ → Bool
is_bit ds name = list_any (λ d. has_bit_in d.name (bounds_in ds d.name) name) ds

-- a name ends with a closing bracket, as those of bits do
abbrev pub is_bracketed : List ℕ → Bool
is_bracketed name = bytes_eq (93 ∷ []) (drop (length name - 1) name)

-- the set has the closed names that are declared
abbrev pub AreClosed : {S : Type 0} → HashSet (Bor (List ℕ)) S → List Declaration → Type 0
AreClosed closed ds = HasNames closed (filter is_bracketed (map (λ d. d.name) ds))

-- none of the names is that of a bit of a declared vector
abbrev pub IsClean : List Declaration → List (List ℕ) → Type 0
IsClean ds names = list_any (is_bit ds) names ≡ false

-- the set has those of the scalar nets that are closed
abbrev pub AreNets : {S : Type 0} → HashSet (Bor (List ℕ)) S → List (List ℕ) → Type 0
AreNets nets all = HasNames nets (filter is_bracketed all)

-- declarations and scalar nets of which none is a bit
pub record AreKnown {S : Type 0} (names : List (List ℕ × First)) (nets : HashSet (Bor (List ℕ)) S) (before : List Declaration) (all : List (List ℕ)) : Type 0 where
  pub keeps : Keeps names before
  pub are_nets : AreNets nets all
  pub clean : IsClean before all

-- what a name is declared as
abbrev pub declared_at : First → List ℕ → Declaration
declared_at first name = record { name = name; kind = first.kind; bounds = first.bounds }

-- what a name is declared as
abbrev pub declared_as : First → List ℕ → Declaration
declared_as first name = declared_at first (unescaped name)

-- a declaration stands behind others: whether it may not, or has a bit with the name of a scalar net; and if not, it is kept too
pub record AddsOne (bad : Bool) (names : List (List ℕ × First)) (before : List Declaration) (d : Declaration) (all : List (List ℕ)) : Type 0 where
  pub is : bad ≡ (stands_again (first_of d.name before) d || list_any (has_bit_in d.name d.bounds) all)
  pub kept : bad ≡ false → Keeps names (before ++ d ∷ [])
  pub clean : bad ≡ false → IsClean (before ++ d ∷ []) all

-- the same of declarations
pub record Adds (bad : Bool) (names : List (List ℕ × First)) (before ds : List Declaration) (all : List (List ℕ)) : Type 0 where
  pub is : bad ≡ (any_again before ds || have_bits ds all)
  pub kept : bad ≡ false → Keeps names (before ++ ds)
  pub clean : bad ≡ false → IsClean (before ++ ds) all

-- what the check has seen of the statements before, where it knows all
pub record IsSeen (all before : List Placed) (seen : Seen) : Type 0 where
  pub instances : HasNames seen.instances (instance_names before)
  pub known : AreKnown seen.declared seen.nets (declarations before) (scalars (declarations all) before)

-- a statement is seen: whether it is bad, and if not, what is seen then
pub record Tells (bad : Bool) (all before : List Placed) (p : Placed) (seen : Seen) : Type 0 where
  pub is : bad ≡ bad_twice all before p
  pub kept : bad ≡ false → IsSeen all (before ++ p ∷ []) seen
