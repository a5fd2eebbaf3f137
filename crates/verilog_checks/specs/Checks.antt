-- The checks as functions, which the contracts of the calls cite. Meaning: Faults, by CheckLaws.
use Rattle.std.specs.Prelude.{◌≡◌, ℕ, Bool, true, false, ◌||◌, not, if◌then◌else◌, List, [], ◌∷◌, ◌++◌, Option, Some, None, Result, Ok, Err}
use Rattle.std.specs.List.{list_any}
use Rattle.std.specs.Str.{bytes_eq}
use Rattle.base_types.specs.declared.fault.Fault.{Fault}
use Rattle.base_types.specs.declared.fault.ReadFault.{ReadFault}
use Rattle.base_types.specs.declared.fault.ReadFault.TheVariants as faults
use Rattle.base_types.specs.declared.kind.Kind.{Kind}
use Rattle.base_types.specs.declared.kind.Kind.TheVariants.{VerilogNumber, VerilogTwice, BadSelect}
use Rattle.verilog_syntax.specs.declared.reading.Placed.{Placed}
use Rattle.verilog_syntax.specs.Reading.{fault_at}
use Rattle.verilog_names.specs.declared.bounds.Bounds.{Bounds}
use Rattle.verilog_names.specs.Values.{bit_name}
use Rattle.verilog_names.specs.Declarations.{indexes, Declaration, declarations_in, declarations, first_of, bounds_in, ports_in, has}
use Rattle.verilog_checks.specs.Faults.{bad_number, bad_select, may_stand_again, instances_named, instance_names, pins_in, scalars_in, scalars}

-- the first statement that fails a test beside those before it
unfoldable pub check_from : (List Placed → Placed → Bool) → Kind → List Placed → List Placed → Result (Unit {0}) Fault
check_from bad kind before [] = Ok tt
check_from bad kind before (p ∷ ps) = if bad before p then Err (fault_at kind p.line) else check_from bad kind (before ++ p ∷ []) ps

-- the first of some statements that fails a test
abbrev pub check : (List Placed → Placed → Bool) → Kind → List Placed → Result (Unit {0}) Fault
check bad kind ps = check_from bad kind [] ps

-- some name stands twice
abbrev pub has_twice : List (List ℕ) → Bool
has_twice [] = false
has_twice (name ∷ names) = has names name || has_twice names

-- the name was declared before, and may not be declared so again
abbrev pub stands_again : Option Declaration → Declaration → Bool
stands_again None d = false
stands_again (Some first) d = not (may_stand_again first d)

-- one of these declarations is of a name that may not stand again
unfoldable pub any_again : List Declaration → List Declaration → Bool
any_again before [] = false
any_again before (d ∷ ds) = stands_again (first_of d.name before) d || any_again (before ++ d ∷ []) ds

-- a vector has a bit of this name
abbrev pub has_bit_in : List ℕ → Option Bounds → List ℕ → Bool
has_bit_in vector None name = false
has_bit_in vector (Some b) name = list_any (λ i. bytes_eq (bit_name vector i) name) (indexes b)

-- one of the names is a bit of a vector that is declared here, with the bounds of its first declaration
abbrev pub are_bits : List Declaration → List (List ℕ) → Bool
are_bits ds names = list_any (λ d. list_any (has_bit_in d.name (bounds_in ds d.name)) names) ds

-- one of the vectors that these declare has a bit of one of the names
abbrev pub have_bits : List Declaration → List (List ℕ) → Bool
have_bits ds names = list_any (λ d. list_any (has_bit_in d.name d.bounds) names) ds

-- the statement gives a name a second time, beside all statements and behind those before it
unfoldable pub bad_twice : List Placed → List Placed → Placed → Bool
bad_twice all before p =
    has_twice (ports_in p.statement)
    || any_again (declarations before) (declarations_in p.statement)
    || list_any (has (instance_names before)) (instances_named p.statement)
    || has_twice (pins_in p.statement)
    || are_bits (declarations before) (scalars_in (declarations all) p.statement)
    || have_bits (declarations_in p.statement) (scalars (declarations all) before)

-- the first fault of the kind VerilogNumber
abbrev pub check_number : List Placed → Result (Unit {0}) Fault
check_number ps = check bad_number VerilogNumber ps

-- the first fault of the kind VerilogTwice
abbrev pub check_twice : List Placed → Result (Unit {0}) Fault
check_twice ps = check (bad_twice ps) VerilogTwice ps

-- the first fault of the kind BadSelect
abbrev pub check_select : List Placed → Result (Unit {0}) Fault
check_select ps = check (λ before p. bad_select ps p) BadSelect ps

-- a fault that is answered is the first of the text, and nothing else is refused; want of memory says nothing
abbrev pub IsRefused : {X Y : Type 0} → Result X ReadFault → Result Y Fault → Type 0
IsRefused (Ok x) read = Unit {0}
IsRefused (Err (faults.Fault fault)) read = read ≡ Err fault
IsRefused (Err faults.NoMemory) read = Unit {0}
