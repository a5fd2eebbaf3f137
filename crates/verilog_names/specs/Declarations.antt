-- What the statements of a module declare and mention (IEEE 1364-2005, 4.2, 4.3 and 12.3.3).
use Rattle.std.specs.Prelude.{ℕ, zero, suc, ◌+◌, ◌-◌, Bool, true, false, ◌&&◌, not, nat_le, if◌then◌else◌, min, max, List, [], ◌∷◌, ◌++◌, map, filter, Option, Some, None, option_map}
use Rattle.std.specs.List.{flat_map, find, list_any}
use Rattle.std.specs.Str.{bytes_eq}
use Rattle.verilog_syntax.specs.declared.statement.Declared.{Declared}
use Rattle.verilog_syntax.specs.declared.statement.Declared.TheVariants.{Input, Output, Inout, Wire, Tri, Supply0, Supply1}
use Rattle.verilog_syntax.specs.declared.statement.Range.{Range}
use Rattle.verilog_syntax.specs.declared.statement.Item.{Item}
use Rattle.verilog_syntax.specs.declared.statement.Item.TheVariants as items
use Rattle.verilog_syntax.specs.declared.statement.Connection.{Connection}
use Rattle.verilog_syntax.specs.declared.statement.Statement.{Statement}
use Rattle.verilog_syntax.specs.declared.statement.Statement.TheVariants as statements
use Rattle.verilog_syntax.specs.declared.reading.Placed.{Placed}
use Rattle.verilog_names.specs.declared.bounds.Bounds.{Bounds}
use Rattle.verilog_names.specs.Values.{unescaped, decimal_value}

-- the bounds that a range writes
abbrev pub bounds_of : Range → Bounds
bounds_of range = record { left = decimal_value range.left; right = decimal_value range.right }

-- how many bits a vector has
abbrev pub width : Bounds → ℕ
width b = (max b.left b.right - min b.left b.right) + 1

-- the vector has a bit of this index
abbrev pub has_index : Bounds → ℕ → Bool
has_index b i = nat_le (min b.left b.right) i && nat_le i (max b.left b.right)

-- the place of an index from the left
abbrev pub offset : Bounds → ℕ → ℕ
offset b i = if nat_le b.right b.left then b.left - i else i - b.left

-- the index at a place from the left
abbrev pub index_at : Bounds → ℕ → ℕ
index_at b k = if nat_le b.right b.left then b.left - k else b.left + k

-- the indexes of so many bits from the k-th on
abbrev pub indexes_from : Bounds → ℕ → ℕ → List ℕ
indexes_from b k zero = []
indexes_from b k (suc n) = index_at b k ∷ indexes_from b (k + 1) n

-- the indexes from the left
abbrev pub indexes : Bounds → List ℕ
indexes b = indexes_from b 0 (width b)

-- a part select lies within the vector and has its direction
abbrev pub has_part : Bounds → Bounds → Bool
has_part b part = has_index b part.left && has_index b part.right && nat_le (offset b part.left) (offset b part.right)

-- how many bits a name has
abbrev pub width_or_one : Option Bounds → ℕ
width_or_one None = 1
width_or_one (Some b) = width b

-- what the bounds of a name select
abbrev pub selects : Option Bounds → ℕ → Bool
selects None index = false
selects (Some b) index = has_index b index

-- the part lies in the vector, in its direction
abbrev pub selects_part : Option Bounds → Bounds → Bool
selects_part None part = false
selects_part (Some b) part = has_part b part

-- the bounds that a part select writes
abbrev pub part_of : List ℕ → List ℕ → Bounds
part_of left right = record { left = decimal_value left; right = decimal_value right }

-- a name, what a statement makes of it, and its bounds where it is a vector
pub record Declaration : Type 0 where
  pub name : List ℕ
  pub kind : Declared
  pub bounds : Option Bounds

-- the declaration of one name
abbrev pub declaration_of : Declared → Option Range → List ℕ → Declaration
declaration_of kind range name = record { name = unescaped name; kind = kind; bounds = option_map bounds_of range }

-- what a statement declares
abbrev pub declarations_in : Statement → List Declaration
declarations_in (statements.Module name ports) = []
declarations_in (statements.Declare kind range names) = map (declaration_of kind range) names
declarations_in (statements.Assign left right) = []
declarations_in (statements.Instance cell name connections) = []

-- what statements declare, in order
abbrev pub declarations : List Placed → List Declaration
declarations ps = flat_map (λ p. declarations_in p.statement) ps

-- the declaration is of this name
abbrev pub is_named : List ℕ → Declaration → Bool
is_named name d = bytes_eq d.name name

-- the first declaration of a name
abbrev pub first_of : List ℕ → List Declaration → Option Declaration
first_of name ds = find (is_named name) ds

-- the name is declared
abbrev pub is_declared : List Declaration → List ℕ → Bool
is_declared ds name = list_any (is_named name) ds

-- the bounds of a name that is a declared vector
abbrev pub bounds_or_none : Option Declaration → Option Bounds
bounds_or_none None = None
bounds_or_none (Some d) = d.bounds

-- the bounds of a name by its first declaration
abbrev pub bounds_in : List Declaration → List ℕ → Option Bounds
bounds_in ds name = bounds_or_none (first_of name ds)

-- a direction, with which a port is declared
abbrev pub is_port_kind : Declared → Bool
is_port_kind Input = true
is_port_kind Output = true
is_port_kind Inout = true
is_port_kind Wire = false
is_port_kind Tri = false
is_port_kind Supply0 = false
is_port_kind Supply1 = false

-- the kind `wire`
abbrev pub is_wire : Declared → Bool
is_wire Input = false
is_wire Output = false
is_wire Inout = false
is_wire Wire = true
is_wire Tri = false
is_wire Supply0 = false
is_wire Supply1 = false

-- the ports that the header lists
abbrev pub ports_in : Statement → List (List ℕ)
ports_in (statements.Module name ports) = map unescaped ports
ports_in (statements.Declare kind range names) = []
ports_in (statements.Assign left right) = []
ports_in (statements.Instance cell name connections) = []

-- the plain names of the header's ports
abbrev pub header_ports : List Placed → List (List ℕ)
header_ports ps = flat_map (λ p. ports_in p.statement) ps

-- the name is one of these
abbrev pub has : List (List ℕ) → List ℕ → Bool
has names name = list_any (λ other. bytes_eq other name) names

-- the name that an operand mentions
abbrev pub mentions_of : Item → List (List ℕ)
mentions_of items.Open = []
mentions_of items.Comma = []
mentions_of items.Close = []
mentions_of (items.Name name) = unescaped name ∷ []
mentions_of (items.Bit name index) = unescaped name ∷ []
mentions_of (items.Part name left right) = unescaped name ∷ []
mentions_of (items.Constant text) = []

-- the pieces of a statement's expressions, in order
abbrev pub connection_items : List Connection → List Item
connection_items connections = flat_map (λ c. c.expression.items) connections

-- the items of a statement's expressions
abbrev pub items_in : Statement → List Item
items_in (statements.Module name ports) = []
items_in (statements.Declare kind range names) = []
items_in (statements.Assign left right) = left.items ++ right.items
items_in (statements.Instance cell name connections) = connection_items connections

-- the names that a statement's expressions mention, in order
abbrev pub mentions_in : Statement → List (List ℕ)
mentions_in statement = flat_map mentions_of (items_in statement)

-- the names that all statements mention
abbrev pub mentions : List Placed → List (List ℕ)
mentions ps = flat_map (λ p. mentions_in p.statement) ps

-- those that no statement of all declares, which are scalar nets
abbrev pub undeclared_in : List Declaration → List (List ℕ) → List (List ℕ)
undeclared_in ds names = filter (λ name. not (is_declared ds name)) names
