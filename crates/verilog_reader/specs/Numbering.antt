-- The netlist of statements by its net numbers: the nets of a name stand in a row, and the names in the order of the
-- entries. Meaning: Denoted.
use Rattle.std.specs.Prelude.{◌≡◌, ℕ, zero, suc, ◌+◌, true, false, List, [], ◌∷◌, map, All, Option, Some, None, IsSome}
use Rattle.std.specs.List.{flat_map}
use Rattle.netlist_core.specs.declared.netlist.Bit.{Bit}
use Rattle.netlist_core.specs.declared.netlist.Bit.TheVariants.{Net}
use Rattle.netlist_core.specs.declared.netlist.Direction.{Direction}
use Rattle.netlist_core.specs.declared.netlist.Expr.{Expr}
use Rattle.netlist_core.specs.declared.netlist.Port.{Port}
use Rattle.netlist_core.specs.declared.netlist.Assign.{Assign}
use Rattle.netlist_core.specs.declared.netlist.Connection.{Connection as NetConnection}
use Rattle.netlist_core.specs.declared.netlist.Instance.{Instance}
use Rattle.netlist_core.specs.declared.netlist.Netlist.{Netlist}
use Rattle.verilog_syntax.specs.declared.statement.Item.{Item}
use Rattle.verilog_syntax.specs.declared.statement.Item.TheVariants as items
use Rattle.verilog_syntax.specs.declared.statement.Expression.{Expression}
use Rattle.verilog_syntax.specs.declared.statement.Connection.{Connection}
use Rattle.verilog_syntax.specs.declared.statement.Statement.{Statement}
use Rattle.verilog_syntax.specs.declared.statement.Statement.TheVariants as statements
use Rattle.verilog_syntax.specs.declared.reading.Placed.{Placed}
use Rattle.verilog_names.specs.declared.bounds.Bounds.{Bounds}
use Rattle.verilog_names.specs.declared.entry.Entry.{Entry}
use Rattle.verilog_names.specs.Values.{unescaped, decimal_value, is_big_index}
use Rattle.verilog_reader.specs.Constants.{constant_bits}
use Rattle.verilog_names.specs.Declarations.{width, Declaration, declarations_in, declarations, mentions_of, mentions, width_or_one, part_of, selects, selects_part}
use Rattle.verilog_checks.specs.Faults.{is_bad_size, is_bad_range}
use Rattle.verilog_names.specs.NameTables.{total, place, offset_in, with_entries, with_declared}
use Rattle.verilog_reader.specs.Denoted.{directions_of, header_name, header_line, entry_nets}

-- the range of an entry
abbrev pub bounds_or : Option Entry → Option Bounds
bounds_or None = None
bounds_or (Some e) = e.bounds

-- a table after some names that are mentioned
abbrev pub with_mentioned : List (List ℕ × Option Bounds) → List (List ℕ) → List (List ℕ × Option Bounds)
with_mentioned es names = with_entries es (map (λ name. (name, None)) names)

-- with the names that the pieces of expressions mention
abbrev pub with_items : List (List ℕ × Option Bounds) → List Item → List (List ℕ × Option Bounds)
with_items es items = with_mentioned es (flat_map mentions_of items)

-- the entries of statements: what they declare, and then what they mention alone
abbrev pub entries : List Placed → List (List ℕ × Option Bounds)
entries ps = with_mentioned (with_declared [] (declarations ps)) (mentions ps)

-- so many numbers from a first one on
abbrev pub numbers_from : ℕ → ℕ → List ℕ
numbers_from first zero = []
numbers_from first (suc n) = first ∷ numbers_from (first + 1) n

-- the net of a number as a bit
abbrev pub net_bit : ℕ → Bit
net_bit number = Net (record { 0 = number })

-- so many nets in a row as bits
abbrev pub net_bits : ℕ → ℕ → List Bit
net_bits first n = map net_bit (numbers_from first n)

-- the bits of an item by the entry of its name

-- all bits of an entry
abbrev pub all_bits : Option Entry → List Bit
all_bits None = []
all_bits (Some e) = net_bits e.first (width_or_one e.bounds)

-- the bit of an entry at an index
abbrev pub one_bit : Option Entry → ℕ → List Bit
one_bit None index = []
one_bit (Some e) index = net_bit (e.first + offset_in e.bounds index) ∷ []

-- the bits of an entry in a part
abbrev pub part_bits : Option Entry → Bounds → List Bit
part_bits None part = []
part_bits (Some e) part = net_bits (e.first + offset_in e.bounds part.left) (width part)

-- the bits of an item by numbers
abbrev pub numbered_item : List (List ℕ × Option Bounds) → Item → List Bit
numbered_item es items.Open = []
numbered_item es items.Comma = []
numbered_item es items.Close = []
numbered_item es (items.Name name) = all_bits (place es (unescaped name))
numbered_item es (items.Bit name index) = one_bit (place es (unescaped name)) (decimal_value index)
numbered_item es (items.Part name left right) = part_bits (place es (unescaped name)) (part_of left right)
numbered_item es (items.Constant text) = constant_bits text

-- the bits of items by numbers
abbrev pub numbered_items : List (List ℕ × Option Bounds) → List Item → List Bit
numbered_items es items = flat_map (numbered_item es) items

-- an expression by numbers
abbrev pub numbered_expression : List (List ℕ × Option Bounds) → Expression → Expr
numbered_expression es e = record { bits = numbered_items es e.items; span = e.span }

-- a connection by numbers
abbrev pub numbered_connection : List (List ℕ × Option Bounds) → Connection → NetConnection
numbered_connection es c = record { pin = unescaped c.pin; expr = numbered_expression es c.expression }

-- a port by its number
abbrev pub numbered_port : ℕ → Direction → ℕ → Port
numbered_port line direction number = record { net = record { 0 = number }; direction = direction; line = line }

-- the port bits of an entry
abbrev pub port_bits : ℕ → Direction → Option Entry → List Port
port_bits line direction None = []
port_bits line direction (Some e) = map (numbered_port line direction) (numbers_from e.first (width_or_one e.bounds))

-- the port bits of a declaration by numbers
abbrev pub numbered_ports_of : List (List ℕ × Option Bounds) → ℕ → Declaration → List Port
numbered_ports_of es line d = flat_map (λ direction. port_bits line direction (place es d.name)) (directions_of d.kind)

-- the port bits of a statement by numbers
abbrev pub numbered_ports_in : List (List ℕ × Option Bounds) → ℕ → Statement → List Port
numbered_ports_in es line statement = flat_map (numbered_ports_of es line) (declarations_in statement)

-- an assign by numbers
abbrev pub numbered_assign : List (List ℕ × Option Bounds) → ℕ → Expression → Expression → Assign
numbered_assign es line left right = record { left = numbered_expression es left; right = numbered_expression es right; line = line }

-- the assign that a statement is, by numbers
abbrev pub numbered_assigns_in : List (List ℕ × Option Bounds) → ℕ → Statement → List Assign
numbered_assigns_in es line (statements.Module name ports) = []
numbered_assigns_in es line (statements.Declare kind range names) = []
numbered_assigns_in es line (statements.Assign left right) = numbered_assign es line left right ∷ []
numbered_assigns_in es line (statements.Instance cell name connections) = []

-- the instance that a statement is, by numbers
abbrev pub numbered_instances_in : List (List ℕ × Option Bounds) → ℕ → Statement → List Instance
numbered_instances_in es line (statements.Module name ports) = []
numbered_instances_in es line (statements.Declare kind range names) = []
numbered_instances_in es line (statements.Assign left right) = []
numbered_instances_in es line (statements.Instance cell name connections) =
    record { name = unescaped name; cell = unescaped cell; connections = map (numbered_connection es) connections; line = line } ∷ []

-- all ports by numbers
abbrev pub numbered_ports : List (List ℕ × Option Bounds) → List Placed → List Port
numbered_ports es ps = flat_map (λ p. numbered_ports_in es p.line p.statement) ps

-- all assigns by numbers
abbrev pub numbered_assigns : List (List ℕ × Option Bounds) → List Placed → List Assign
numbered_assigns es ps = flat_map (λ p. numbered_assigns_in es p.line p.statement) ps

-- all instances by numbers
abbrev pub numbered_instances : List (List ℕ × Option Bounds) → List Placed → List Instance
numbered_instances es ps = flat_map (λ p. numbered_instances_in es p.line p.statement) ps

-- the netlist by numbers
abbrev pub numbered : List (List ℕ × Option Bounds) → List Placed → Netlist
numbered es ps = record {
  «module» = header_name ps;
  line = header_line ps;
  nets = flat_map (λ e. entry_nets e.0 e.1) es;
  declared = total (with_declared [] (declarations ps));
  ports = numbered_ports es ps;
  assigns = numbered_assigns es ps;
  instances = numbered_instances es ps;
}

-- what stands there has an entry, fits its numbers, and lies within it

-- the table has the name
abbrev pub IsListed : List (List ℕ × Option Bounds) → List ℕ → Type 0
IsListed es name = IsSome (place es (unescaped name))

-- the item's name is in the table, and its index or part fits
abbrev pub IsFineItem : List (List ℕ × Option Bounds) → Item → Type 0
IsFineItem es items.Open = Unit {0}
IsFineItem es items.Comma = Unit {0}
IsFineItem es items.Close = Unit {0}
IsFineItem es (items.Name name) = IsListed es name
IsFineItem es (items.Bit name index) = (is_big_index index ≡ false) × (selects (bounds_or (place es (unescaped name))) (decimal_value index) ≡ true)
IsFineItem es (items.Part name left right) =
    (is_big_index left ≡ false) × (is_big_index right ≡ false) × (selects_part (bounds_or (place es (unescaped name))) (part_of left right) ≡ true)
IsFineItem es (items.Constant text) = is_bad_size text ≡ false

-- each item of the expression is fine
abbrev pub IsFineExpression : List (List ℕ × Option Bounds) → Expression → Type 0
IsFineExpression es e = All (IsFineItem es) e.items

-- each expression and range of the statement is fine
abbrev pub IsFineStatement : List (List ℕ × Option Bounds) → Statement → Type 0
IsFineStatement es (statements.Module name ports) = Unit {0}
IsFineStatement es (statements.Declare kind range names) = (is_bad_range range ≡ false) × All (IsListed es) names
IsFineStatement es (statements.Assign left right) = IsFineExpression es left × IsFineExpression es right
IsFineStatement es (statements.Instance cell name connections) = All (λ c. IsFineExpression es c.expression) connections

-- the names that a statement declares have entries
abbrev pub AreListed : List (List ℕ × Option Bounds) → Statement → Type 0
AreListed es (statements.Module name ports) = Unit {0}
AreListed es (statements.Declare kind range names) = All (IsListed es) names
AreListed es (statements.Assign left right) = Unit {0}
AreListed es (statements.Instance cell name connections) = Unit {0}

-- what stands in its expressions is fine
abbrev pub HasFineItems : List (List ℕ × Option Bounds) → Statement → Type 0
HasFineItems es (statements.Module name ports) = Unit {0}
HasFineItems es (statements.Declare kind range names) = Unit {0}
HasFineItems es (statements.Assign left right) = IsFineExpression es left × IsFineExpression es right
HasFineItems es (statements.Instance cell name connections) = All (λ c. IsFineExpression es c.expression) connections
