-- What a Verilog text denotes: the netlist of its statements and what they declare (IEEE 1364-2005, 12). A net bit is named by
-- its plain name; net numbers are the places of the names, in their order.
use Rattle.std.specs.Prelude.{length, ◌≡◌, ℕ, if◌then◌else◌, List, [], ◌∷◌, ◌++◌, map, decimal, Option, Some, None}
use Rattle.std.specs.List.{flat_map}
use Rattle.base_types.specs.declared.span.Span.{Span}
use Rattle.netlist_core.specs.declared.netlist.Direction.{Direction}
use Rattle.netlist_core.specs.declared.netlist.Direction.TheVariants as directions
use Rattle.netlist_core.specs.declared.netlist.NetName.{NetName}
use Rattle.netlist_core.specs.declared.netlist.Expr.{Expr}
use Rattle.netlist_core.specs.declared.netlist.Port.{Port}
use Rattle.netlist_core.specs.declared.netlist.Assign.{Assign}
use Rattle.netlist_core.specs.declared.netlist.Connection.{Connection as NetConnection}
use Rattle.netlist_core.specs.declared.netlist.Instance.{Instance}
use Rattle.netlist_core.specs.declared.netlist.Netlist.{Netlist}
use Rattle.netlist_core.specs.Netlists.{NamedBit, Named, named_bit, plain_of as net_plain, IsNetlist}
use Rattle.verilog_syntax.specs.declared.statement.Declared.{Declared}
use Rattle.verilog_syntax.specs.declared.statement.Declared.TheVariants.{Input, Output, Inout, Wire, Tri, Supply0, Supply1}
use Rattle.verilog_syntax.specs.declared.statement.Item.{Item}
use Rattle.verilog_syntax.specs.declared.statement.Item.TheVariants as items
use Rattle.verilog_syntax.specs.declared.statement.Expression.{Expression}
use Rattle.verilog_syntax.specs.declared.statement.Connection.{Connection}
use Rattle.verilog_syntax.specs.declared.statement.Statement.{Statement}
use Rattle.verilog_syntax.specs.declared.statement.Statement.TheVariants as statements
use Rattle.verilog_syntax.specs.declared.reading.Placed.{Placed}
use Rattle.verilog_names.specs.declared.bounds.Bounds.{Bounds}
use Rattle.verilog_names.specs.Values.{unescaped, decimal_value, bit_name, name_text}
use Rattle.verilog_reader.specs.Constants.{constant_bits}
use Rattle.verilog_names.specs.Declarations.{indexes, Declaration, declarations_in, declarations, is_declared, bounds_in, has, mentions, undeclared_in, part_of}
use Rattle.verilog_checks.specs.Faults.{IsFaultless}

-- the net bits of a name, from the left
abbrev pub name_bits : List ℕ → Option Bounds → List (List ℕ)
name_bits name None = name ∷ []
name_bits name (Some b) = map (bit_name name) (indexes b)

-- names as bits
abbrev pub named_of : List (List ℕ) → List NamedBit
named_of names = map Named names

-- the bits of an item; marks have none
abbrev pub item_bits : List Declaration → Item → List NamedBit
item_bits ds items.Open = []
item_bits ds items.Comma = []
item_bits ds items.Close = []
item_bits ds (items.Name name) = named_of (name_bits (unescaped name) (bounds_in ds (unescaped name)))
item_bits ds (items.Bit name index) = Named (bit_name (unescaped name) (decimal_value index)) ∷ []
item_bits ds (items.Part name left right) = named_of (name_bits (unescaped name) (Some (part_of left right)))
item_bits ds (items.Constant text) = map (named_bit []) (constant_bits text)

-- an expression by the names of its bits
pub record SeenExpression : Type 0 where
  pub bits : List NamedBit
  pub span : Span

-- a port bit by its name
pub record SeenPort : Type 0 where
  pub name : List ℕ
  pub direction : Direction
  pub line : ℕ

-- an assign by names
pub record SeenAssign : Type 0 where
  pub left : SeenExpression
  pub right : SeenExpression
  pub line : ℕ

-- a connection by names
pub record SeenConnection : Type 0 where
  pub pin : List ℕ
  pub expression : SeenExpression

-- an instance by names
pub record SeenInstance : Type 0 where
  pub name : List ℕ
  pub cell : List ℕ
  pub connections : List SeenConnection
  pub line : ℕ

-- what the statements say

-- what an expression says, where these are declared
abbrev pub said_expression : List Declaration → Expression → SeenExpression
said_expression ds e = record { bits = flat_map (item_bits ds) e.items; span = e.span }

-- the direction that a kind of declaration gives, if any
abbrev pub directions_of : Declared → List Direction
directions_of Input = directions.Input ∷ []
directions_of Output = directions.Output ∷ []
directions_of Inout = directions.Inout ∷ []
directions_of Wire = []
directions_of Tri = []
directions_of Supply0 = []
directions_of Supply1 = []

-- a port bit with its line
abbrev pub said_port : ℕ → Direction → List ℕ → SeenPort
said_port line direction name = record { name = name; direction = direction; line = line }

-- the port bits that a declaration gives
abbrev pub said_ports_of : ℕ → Declaration → List SeenPort
said_ports_of line d = flat_map (λ direction. map (said_port line direction) (name_bits d.name d.bounds)) (directions_of d.kind)

-- the port bits that the statements give, in order
abbrev pub said_ports : List Placed → List SeenPort
said_ports ps = flat_map (λ p. flat_map (said_ports_of p.line) (declarations_in p.statement)) ps

-- the assign that a statement is
abbrev pub said_assigns_in : List Declaration → ℕ → Statement → List SeenAssign
said_assigns_in ds line (statements.Module name ports) = []
said_assigns_in ds line (statements.Declare kind range names) = []
said_assigns_in ds line (statements.Assign left right) = record { left = said_expression ds left; right = said_expression ds right; line = line } ∷ []
said_assigns_in ds line (statements.Instance cell name connections) = []

-- what a connection says
abbrev pub said_connection : List Declaration → Connection → SeenConnection
said_connection ds c = record { pin = unescaped c.pin; expression = said_expression ds c.expression }

-- the instance that a statement is
abbrev pub said_instances_in : List Declaration → ℕ → Statement → List SeenInstance
said_instances_in ds line (statements.Module name ports) = []
said_instances_in ds line (statements.Declare kind range names) = []
said_instances_in ds line (statements.Assign left right) = []
said_instances_in ds line (statements.Instance cell name connections) =
    record { name = unescaped name; cell = unescaped cell; connections = map (said_connection ds) connections; line = line } ∷ []

-- the name that a header gives
abbrev pub module_name : Statement → List ℕ
module_name (statements.Module name ports) = unescaped name
module_name (statements.Declare kind range names) = []
module_name (statements.Assign left right) = []
module_name (statements.Instance cell name connections) = []

-- the module's name
abbrev pub header_name : List Placed → List ℕ
header_name [] = []
header_name (p ∷ ps) = module_name p.statement

-- the line of the header
abbrev pub header_line : List Placed → ℕ
header_line [] = 0
header_line (p ∷ ps) = p.line

-- names and bounds of the nets: those declared, by their first declarations, in order
unfoldable pub first_declared : List Declaration → List Declaration → List (List ℕ × Option Bounds)
first_declared before [] = []
first_declared before (d ∷ ds) =
    if is_declared before d.name then first_declared (before ++ d ∷ []) ds else (d.name, d.bounds) ∷ first_declared (before ++ d ∷ []) ds

-- and the scalar nets that are mentioned alone, by their first mention
unfoldable pub first_mentioned : List (List ℕ) → List (List ℕ) → List (List ℕ × Option Bounds)
first_mentioned before [] = []
first_mentioned before (name ∷ names) =
    if has before name then first_mentioned (before ++ name ∷ []) names else (name, None) ∷ first_mentioned (before ++ name ∷ []) names

-- the names of nets, the declared ones before those that are mentioned alone, each with its range
abbrev pub net_entries : List Placed → List (List ℕ × Option Bounds)
net_entries ps = first_declared [] (declarations ps) ++ first_mentioned [] (undeclared_in (declarations ps) (mentions ps))

-- the text of a bit of a vector
abbrev pub bit_text : List ℕ → ℕ → List ℕ
bit_text name index = name_text name ++ (91 ∷ (decimal index ++ 93 ∷ []))

-- the net bits of an entry, from the left: the plain name, and the Verilog text
abbrev pub entry_nets : List ℕ → Option Bounds → List NetName
entry_nets name None = record { plain = name; text = name_text name } ∷ []
entry_nets name (Some b) = map (λ i. record { plain = bit_name name i; text = bit_text name i }) (indexes b)

-- the net bits that are declared
abbrev pub declared_nets : List Placed → List NetName
declared_nets ps = flat_map (λ e. entry_nets e.0 e.1) (first_declared [] (declarations ps))

-- all net bits, in order
abbrev pub said_nets : List Placed → List NetName
said_nets ps = flat_map (λ e. entry_nets e.0 e.1) (net_entries ps)

-- what a netlist shows

-- an expression of a netlist by names
abbrev pub seen_expression : List NetName → Expr → SeenExpression
seen_expression nets e = record { bits = map (named_bit nets) e.bits; span = e.span }

-- a port of a netlist by its name
abbrev pub seen_port : List NetName → Port → SeenPort
seen_port nets port = record { name = net_plain nets port.net; direction = port.direction; line = port.line }

-- an assign of a netlist by names
abbrev pub seen_assign : List NetName → Assign → SeenAssign
seen_assign nets a = record { left = seen_expression nets a.left; right = seen_expression nets a.right; line = a.line }

-- a connection of a netlist by names
abbrev pub seen_connection : List NetName → NetConnection → SeenConnection
seen_connection nets c = record { pin = c.pin; expression = seen_expression nets c.expr }

-- an instance of a netlist by names
abbrev pub seen_instance : List NetName → Instance → SeenInstance
seen_instance nets i = record { name = i.name; cell = i.cell; connections = map (seen_connection nets) i.connections; line = i.line }

-- the netlist is that of the statements: the module's name and line, the net bits, how many are declared, the ports with their directions, the
-- assigns and the instances in order, each with its line, each expression with its bits and its place
pub record IsNetlistOf (ps : List Placed) (n : Netlist) : Type 0 where
  pub module_name : n.«module» ≡ header_name ps
  pub line : n.line ≡ header_line ps
  pub nets : n.nets ≡ said_nets ps
  pub declared : n.declared ≡ length (declared_nets ps)
  pub ports : map (seen_port n.nets) n.ports ≡ said_ports ps
  pub assigns : map (seen_assign n.nets) n.assigns ≡ flat_map (λ p. said_assigns_in (declarations ps) p.line p.statement) ps
  pub instances : map (seen_instance n.nets) n.instances ≡ flat_map (λ p. said_instances_in (declarations ps) p.line p.statement) ps

-- a text without a fault denotes a netlist
pub record DenotesNetlist (text : List ℕ) (n : Netlist) : Type 0 where
  pub statements : List Placed
  pub reads : IsFaultless text statements
  pub is : IsNetlistOf statements n
  pub sound : IsNetlist n

-- and declares names: each with its kind, and its bounds where it is a vector, in order, repeats too
pub record Declares (text : List ℕ) (declared : List Declaration) : Type 0 where
  pub statements : List Placed
  pub reads : IsFaultless text statements
  pub is : declarations statements ≡ declared

-- a text denotes one netlist only, and what it declares is one list only
abbrev pub OneNetlistLaw : Type 0
OneNetlistLaw = (text : List ℕ) (n m : Netlist) → DenotesNetlist text n → DenotesNetlist text m → n ≡ m

-- a text declares one list of names at most
abbrev pub OneDeclaredLaw : Type 0
OneDeclaredLaw = (text : List ℕ) (ds es : List Declaration) → Declares text ds → Declares text es → ds ≡ es
