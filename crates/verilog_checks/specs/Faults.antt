-- The faults of a Verilog text: what each kind says of a statement beside those before it, and beside all.
-- Of the kinds that occur the least is answered, and of that the first statement that has it.
use Rattle.std.specs.Prelude.{◌≡◌, ℕ, ◌+◌, ◌<◌, Bool, true, false, ◌&&◌, ◌||◌, not, nat_lt, ◌==◌, if◌then◌else◌, List, [], ◌∷◌, ◌++◌, map, filter, take, slice_get, Option, Some, None, is_some, Result, Ok, Err}
use Rattle.std.specs.List.{flat_map, list_any, sum_by, Contains}
use Rattle.std.specs.Str.{bytes_eq}
use Rattle.base_types.specs.declared.fault.Fault.{Fault}
use Rattle.base_types.specs.declared.fault.ReadFault.{ReadFault}
use Rattle.base_types.specs.declared.fault.ReadFault.TheVariants as faults
use Rattle.base_types.specs.declared.kind.Kind.{Kind}
use Rattle.base_types.specs.declared.kind.Kind.TheVariants.{VerilogNumber, VerilogTwice, BadSelect}
use Rattle.verilog_syntax.specs.declared.statement.Range.{Range}
use Rattle.verilog_syntax.specs.declared.statement.Item.{Item}
use Rattle.verilog_syntax.specs.declared.statement.Item.TheVariants as items
use Rattle.verilog_syntax.specs.declared.statement.Expression.{Expression}
use Rattle.verilog_syntax.specs.declared.statement.Statement.{Statement}
use Rattle.verilog_syntax.specs.declared.statement.Statement.TheVariants as statements
use Rattle.verilog_syntax.specs.declared.reading.Placed.{Placed}
use Rattle.verilog_syntax.specs.Module.{IsModule, IsFormFault}
use Rattle.verilog_syntax.specs.Reading.{fault_at}
use Rattle.verilog_names.specs.declared.bounds.Bounds.{Bounds}
use Rattle.verilog_names.specs.Values.{unescaped, decimal_value, is_big_index, bit_name}
use Rattle.verilog_checks.specs.ConstantSizes.{constant_size}
use Rattle.verilog_names.specs.Declarations.{width, indexes, Declaration, declarations_in, declarations, is_named, first_of, bounds_in, is_port_kind, is_wire, ports_in, header_ports, has, items_in, mentions_in, undeclared_in, width_or_one, selects, selects_part, part_of}

-- the statement at a place is bad beside those before it, and none before it is
pub record IsFirstBad (IsBad : List Placed → Placed → Type 0) (ps : List Placed) (i : ℕ) (p : Placed) : Type 0 where
  pub there : slice_get ps i ≡ Some p
  pub bad : IsBad (take i ps) p
  pub first : (j : ℕ) (q : Placed) → j < i → slice_get ps j ≡ Some q → IsBad (take j ps) q → ⊥

-- no statement is bad beside those before it
abbrev pub HasNoBad : (List Placed → Placed → Type 0) → List Placed → Type 0
HasNoBad IsBad ps = (i : ℕ) (p : Placed) → slice_get ps i ≡ Some p → IsBad (take i ps) p → ⊥

-- VerilogNumber: an index beyond 65535, a constant's size of 0 or beyond 128, or with this statement the declared vectors
-- have more than 16777216 bits together

-- the constant has no bit, or more than 128
abbrev pub is_bad_size : List ℕ → Bool
is_bad_size text = constant_size text == 0 || nat_lt 128 (constant_size text)

-- an index of the item, or the size of the constant, is too great
abbrev pub is_bad_number : Item → Bool
is_bad_number items.Open = false
is_bad_number items.Comma = false
is_bad_number items.Close = false
is_bad_number (items.Name name) = false
is_bad_number (items.Bit name index) = is_big_index index
is_bad_number (items.Part name left right) = is_big_index left || is_big_index right
is_bad_number (items.Constant text) = is_bad_size text

-- a bound of the range is too great
abbrev pub is_bad_range : Option Range → Bool
is_bad_range None = false
is_bad_range (Some range) = is_big_index range.left || is_big_index range.right

-- the range of a declaration
abbrev pub range_in : Statement → Option Range
range_in (statements.Module name ports) = None
range_in (statements.Declare kind range names) = range
range_in (statements.Assign left right) = None
range_in (statements.Instance cell name connections) = None

-- the name is declared with a range
abbrev pub is_vector : Declaration → Bool
is_vector d = is_some d.bounds

-- a name is counted once, by its first declaration with a range
abbrev pub added_bits : List Declaration → Declaration → Option Bounds → ℕ
added_bits before d None = 0
added_bits before d (Some b) = if list_any (λ e. is_named d.name e && is_vector e) before then 0 else width b

-- the bits of the vectors that these declare, where those before are declared already
unfoldable pub vector_bits_from : List Declaration → List Declaration → ℕ
vector_bits_from before [] = 0
vector_bits_from before (d ∷ ds) = added_bits before d d.bounds + vector_bits_from (before ++ d ∷ []) ds

-- the bits of all declared vectors together
abbrev pub vector_bits : List Declaration → ℕ
vector_bits ds = vector_bits_from [] ds

-- the statement is a fault of numbers, behind those before it
unfoldable pub bad_number : List Placed → Placed → Bool
bad_number before p =
    is_bad_range (range_in p.statement) || list_any is_bad_number (items_in p.statement)
    || nat_lt 16777216 (vector_bits (declarations (before ++ p ∷ [])))

-- the statement has the fault VerilogNumber
abbrev pub IsBadNumber : List Placed → Placed → Type 0
IsBadNumber before p = bad_number before p ≡ true

-- VerilogTwice: an instance, a pin of one instance, a header port or a declared net has a name that stood before, or a
-- scalar net and a bit of a declared vector have one name, at the later of the two

-- both are without a range, or have the same bounds
abbrev pub same_bounds : Option Bounds → Option Bounds → Bool
same_bounds None None = true
same_bounds None (Some b) = false
same_bounds (Some a) None = false
same_bounds (Some a) (Some b) = a.left == b.left && a.right == b.right

-- a port declared again as wire with the same range is no fault
abbrev pub may_stand_again : Declaration → Declaration → Bool
may_stand_again first d = is_port_kind first.kind && is_wire d.kind && same_bounds first.bounds d.bounds

-- the instance that a statement names
abbrev pub instances_named : Statement → List (List ℕ)
instances_named (statements.Module name ports) = []
instances_named (statements.Declare kind range names) = []
instances_named (statements.Assign left right) = []
instances_named (statements.Instance cell name connections) = unescaped name ∷ []

-- the plain names of all instances
abbrev pub instance_names : List Placed → List (List ℕ)
instance_names ps = flat_map (λ p. instances_named p.statement) ps

-- the pins that an instance connects
abbrev pub pins_in : Statement → List (List ℕ)
pins_in (statements.Module name ports) = []
pins_in (statements.Declare kind range names) = []
pins_in (statements.Assign left right) = []
pins_in (statements.Instance cell name connections) = map (λ c. unescaped c.pin) connections

-- the scalar nets that a statement declares, or mentions where no statement declares them
abbrev pub scalars_in : List Declaration → Statement → List (List ℕ)
scalars_in all statement = map (λ d. d.name) (filter (λ d. not (is_vector d)) (declarations_in statement)) ++ undeclared_in all (mentions_in statement)

-- the scalar nets of some statements
abbrev pub scalars : List Declaration → List Placed → List (List ℕ)
scalars all ps = flat_map (λ p. scalars_in all p.statement) ps

-- a name stands in the list, and behind that once more
pub record HasTwice (names : List (List ℕ)) : Type 0 where
  pub front : List (List ℕ)
  pub name : List ℕ
  pub behind : List (List ℕ)
  pub is : names ≡ front ++ name ∷ behind
  pub again : Contains behind name

-- a declaration is of a vector that has a bit of this name
pub record HasBit (d : Declaration) (name : List ℕ) : Type 0 where
  pub bounds : Bounds
  pub vector : d.bounds ≡ Some bounds
  pub bit : Contains (map (bit_name d.name) (indexes bounds)) name

-- among all statements and behind those before it a statement gives a name a second time
pub data IsTwice (all before : List Placed) (p : Placed) : Type 0 where
  -- two ports of the header have one name
  SameHeaderPort : HasTwice (ports_in p.statement) → IsTwice all before p
  -- a name was declared before, in the statement itself too, and may not be declared so again
  DeclaredAgain : (front behind : List Declaration) (first d : Declaration) → declarations_in p.statement ≡ front ++ d ∷ behind → first_of d.name (declarations before ++ front) ≡ Some first
      → may_stand_again first d ≡ false → IsTwice all before p
  -- an instance has the name of one before it
  SameInstance : (name : List ℕ) → Contains (instances_named p.statement) name → Contains (instance_names before) name → IsTwice all before p
  -- two connections of an instance are of one pin
  SamePin : HasTwice (pins_in p.statement) → IsTwice all before p
  -- a scalar net has the name of a bit of a vector before it, as that was declared first
  ScalarIsBit : (name : List ℕ) (d : Declaration) → Contains (scalars_in (declarations all) p.statement) name → first_of d.name (declarations before) ≡ Some d → HasBit d name → IsTwice all before p
  -- a vector that is declared has a bit with the name of a scalar net before it
  BitIsScalar : (name : List ℕ) (d : Declaration) → Contains (scalars (declarations all) before) name → Contains (declarations_in p.statement) d → HasBit d name → IsTwice all before p

-- BadSelect: a select outside its declaration or of a name that is no declared vector, an assign whose sides differ in
-- width, a header port without a direction, or a name with a direction that isn't in the header

-- at each name, the bounds of the declared vector
abbrev pub BoundsAt : Type 0
BoundsAt = List ℕ → Option Bounds

-- the item selects outside the declaration of its name, or of a name that is no declared vector
abbrev pub is_bad_select : BoundsAt → Item → Bool
is_bad_select bounds items.Open = false
is_bad_select bounds items.Comma = false
is_bad_select bounds items.Close = false
is_bad_select bounds (items.Name name) = false
is_bad_select bounds (items.Bit name index) = not (selects (bounds (unescaped name)) (decimal_value index))
is_bad_select bounds (items.Part name left right) = not (selects_part (bounds (unescaped name)) (part_of left right))
is_bad_select bounds (items.Constant text) = false

-- how many bits an item has
abbrev pub item_width : BoundsAt → Item → ℕ
item_width bounds items.Open = 0
item_width bounds items.Comma = 0
item_width bounds items.Close = 0
item_width bounds (items.Name name) = width_or_one (bounds (unescaped name))
item_width bounds (items.Bit name index) = 1
item_width bounds (items.Part name left right) = width (part_of left right)
item_width bounds (items.Constant text) = constant_size text

-- how many bits an expression has
abbrev pub expression_width : BoundsAt → Expression → ℕ
expression_width bounds e = sum_by (item_width bounds) e.items

-- the name is declared as a port
abbrev pub has_direction : List Declaration → List ℕ → Bool
has_direction ds name = list_any (λ d. is_named name d && is_port_kind d.kind) ds

-- the declaration gives a direction to a name that isn't in the header
abbrev pub is_badly_listed : List (List ℕ) → Declaration → Bool
is_badly_listed ports d = is_port_kind d.kind && not (has ports d.name)

-- the statement is an assign whose sides differ in width
abbrev pub differ_in_width : BoundsAt → Statement → Bool
differ_in_width bounds (statements.Module name ports) = false
differ_in_width bounds (statements.Declare kind range names) = false
differ_in_width bounds (statements.Assign left right) = not (expression_width bounds left == expression_width bounds right)
differ_in_width bounds (statements.Instance cell name connections) = false

-- the statement is a fault of selects, widths or directions, beside all statements
unfoldable pub bad_select : List Placed → Placed → Bool
bad_select all p =
    list_any (is_bad_select (bounds_in (declarations all))) (items_in p.statement)
    || differ_in_width (bounds_in (declarations all)) p.statement
    || list_any (λ port. not (has_direction (declarations all) port)) (ports_in p.statement)
    || list_any (is_badly_listed (header_ports all)) (declarations_in p.statement)

-- the statement has the fault BadSelect
abbrev pub IsBadSelect : List Placed → List Placed → Placed → Type 0
IsBadSelect all before p = bad_select all p ≡ true

-- the statements of a text in which nothing is wrong
pub record IsFaultless (text : List ℕ) (ps : List Placed) : Type 0 where
  pub form : IsModule text ps
  pub numbers : HasNoBad IsBadNumber ps
  pub once : HasNoBad (IsTwice ps) ps
  pub selects : HasNoBad (IsBadSelect ps) ps

-- what may be wrong with a Verilog text
pub data HoldsInVerilog (text : List ℕ) : Fault → Type 0 where
  -- VerilogSyntax, SecondModule: it isn't the statements of one module
  Form : (f : Fault) → IsFormFault text f → HoldsInVerilog text f
  -- of its statements one is the first that is bad so
  Number : (ps : List Placed) (i : ℕ) (p : Placed) → IsModule text ps → IsFirstBad IsBadNumber ps i p → HoldsInVerilog text (fault_at VerilogNumber p.line)
  Twice : (ps : List Placed) (i : ℕ) (p : Placed) → IsModule text ps → IsFirstBad (IsTwice ps) ps i p → HoldsInVerilog text (fault_at VerilogTwice p.line)
  Select : (ps : List Placed) (i : ℕ) (p : Placed) → IsModule text ps → IsFirstBad (IsBadSelect ps) ps i p → HoldsInVerilog text (fault_at BadSelect p.line)
