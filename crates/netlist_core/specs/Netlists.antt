-- A flat module (IEEE 1364-2005, 12): what a clause sees of it, names in place of net numbers, and which lists are a
-- netlist.
use Rattle.std.specs.Prelude.{◌≡◌, ℕ, ◌<◌, ◌≤◌, ◌^◌, List, [], ◌∷◌, length, map, take, slice_index_or, All, Option, Some, None, option_and_then}
use Rattle.std.specs.List.{find}
use Rattle.std.specs.Str.{bytes_eq}
use Rattle.netlist_core.specs.declared.netlist.NetId.{NetId}
use Rattle.netlist_core.specs.declared.netlist.Bit.{Bit}
use Rattle.netlist_core.specs.declared.netlist.Bit.TheVariants.{Net, Zero, One, Unknown}
use Rattle.netlist_core.specs.declared.netlist.Direction.{Direction}
use Rattle.netlist_core.specs.declared.netlist.NetName.{NetName}
use Rattle.netlist_core.specs.declared.netlist.Port.{Port}
use Rattle.netlist_core.specs.declared.netlist.Assign.{Assign}
use Rattle.netlist_core.specs.declared.netlist.Connection.{Connection}
use Rattle.netlist_core.specs.declared.netlist.Instance.{Instance}
use Rattle.netlist_core.specs.declared.netlist.Netlist.{Netlist}

-- a bit of an expression, a net bit by its plain name
pub data NamedBit : Type 0 where
  Named : (name : List ℕ) → NamedBit
  Low : NamedBit
  High : NamedBit
  Undefined : NamedBit

-- a port bit by its plain name
pub record NamedPort : Type 0 where
  pub name : List ℕ
  pub direction : Direction

-- an instance with its pins in order, each with the bits that it is connected to
pub record NamedInstance : Type 0 where
  pub name : List ℕ
  pub cell : List ℕ
  pub pins : List (List ℕ × List NamedBit)

-- a module without net numbers, lines and spans: its declared net bits in order, its ports, its assigns, each the list of
-- its pairs of bits, left and right, and its instances
pub record NamedNetlist : Type 0 where
  pub module_name : List ℕ
  pub nets : List (List ℕ)
  pub ports : List NamedPort
  pub assigns : List (List (NamedBit × NamedBit))
  pub instances : List NamedInstance

-- both sides of an assign, bit by bit from the left
abbrev pub pairs : {X : Type 0} → List X → List X → List (X × X)
pairs [] rs = []
pairs (l ∷ ls) [] = []
pairs (l ∷ ls) (r ∷ rs) = (l, r) ∷ pairs ls rs

-- both sides of an assign, bit by bit
abbrev pub bit_pairs : Assign → List (Bit × Bit)
bit_pairs assign = pairs assign.left.bits assign.right.bits

-- the plain name of a net
abbrev pub plain_of : List NetName → NetId → List ℕ
plain_of nets net = (slice_index_or nets net.0 (record { plain = []; text = [] })).plain

-- a bit by its name
abbrev pub named_bit : List NetName → Bit → NamedBit
named_bit nets (Net net) = Named (plain_of nets net)
named_bit nets Zero = Low
named_bit nets One = High
named_bit nets Unknown = Undefined

-- a port by its name
abbrev pub named_port : List NetName → Port → NamedPort
named_port nets port = record { name = plain_of nets port.net; direction = port.direction }

-- a pin with its bits by their names
abbrev pub named_pin : List NetName → Connection → List ℕ × List NamedBit
named_pin nets connection = (connection.pin, map (named_bit nets) connection.expr.bits)

-- an instance with its bits by their names
abbrev pub named_instance : List NetName → Instance → NamedInstance
named_instance nets instance =
    record { name = instance.name; cell = instance.cell; pins = map (named_pin nets) instance.connections }

-- the pairs of an assign by their names
abbrev pub named_assign : List NetName → Assign → List (NamedBit × NamedBit)
named_assign nets assign = map (λ p. (named_bit nets p.0, named_bit nets p.1)) (bit_pairs assign)

-- the netlist with names in place of numbers
abbrev pub named : Netlist → NamedNetlist
named n = record {
  module_name = n.«module»;
  nets = take n.declared (map (λ net. net.plain) n.nets);
  ports = map (named_port n.nets) n.ports;
  assigns = map (named_assign n.nets) n.assigns;
  instances = map (named_instance n.nets) n.instances;
}

-- the ports, the assigns and the instances are the same by names; what other nets there are is free
pub record AreWiredAlike (n m : Netlist) : Type 0 where
  pub ports : (named n).ports ≡ (named m).ports
  pub assigns : (named n).assigns ≡ (named m).assigns
  pub instances : (named n).instances ≡ (named m).instances

-- no two members are the same
abbrev pub AreDistinct : {X : Type 0} → List X → Type 0
AreDistinct {X} xs = (i j : ℕ) (d : X) → i < length xs → j < length xs → slice_index_or xs i d ≡ slice_index_or xs j d → i ≡ j

-- a net bit is one of so many
abbrev pub IsBitWithin : ℕ → Bit → Type 0
IsBitWithin count (Net net) = net.0 < count
IsBitWithin count Zero = Unit {0}
IsBitWithin count One = Unit {0}
IsBitWithin count Unknown = Unit {0}

-- an assign of so many nets: each of its bits is one of them, and both sides are equally wide
pub record IsAssign (count : ℕ) (assign : Assign) : Type 0 where
  pub left : All (IsBitWithin count) assign.left.bits
  pub right : All (IsBitWithin count) assign.right.bits
  pub widths : length assign.left.bits ≡ length assign.right.bits

-- an instance over so many nets: no pin stands twice
pub record IsInstance (count : ℕ) (instance : Instance) : Type 0 where
  pub nets : All (λ connection. All (IsBitWithin count) connection.expr.bits) instance.connections
  pub pins : AreDistinct (map (λ connection. connection.pin) instance.connections)

-- what each call asks of a netlist
pub record IsNetlist (n : Netlist) : Type 0 where
  pub few_nets : length n.nets < 2 ^ 32
  pub declared : n.declared ≤ length n.nets
  pub few_instances : length n.instances < 2 ^ 32
  pub names : AreDistinct (map (λ net. net.plain) n.nets)
  pub port_nets : All (λ port. port.net.0 < length n.nets) n.ports
  pub ports : AreDistinct (map (λ port. port.net.0) n.ports)
  pub assigns : All (IsAssign (length n.nets)) n.assigns
  pub instance_names : AreDistinct (map (λ instance. instance.name) n.instances)
  pub instances : All (IsInstance (length n.nets)) n.instances

-- the net of an expression that is one net bit
abbrev pub single_net : List Bit → Option NetId
single_net [] = None
single_net (Net net ∷ []) = Some net
single_net (Net net ∷ (b ∷ bs)) = None
single_net (Zero ∷ bs) = None
single_net (One ∷ bs) = None
single_net (Unknown ∷ bs) = None

-- the connection of a pin
abbrev pub connection_at : List ℕ → List Connection → Option Connection
connection_at pin connections = find (λ connection. bytes_eq connection.pin pin) connections

-- the net of a pin, where the pin is connected to one net bit
abbrev pub net_at : List ℕ → Instance → Option NetId
net_at pin instance = option_and_then (λ connection. single_net connection.expr.bits) (connection_at pin instance.connections)
