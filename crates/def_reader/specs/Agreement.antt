-- Where a netlist and a placed design agree: each instance is a component of the same cell, and what the nets of the design
-- connect is joined in the netlist exactly where it stands in one net.
use Rattle.std.specs.Prelude.{◌≡◌, ◌↔◌, ℕ, List, ◌∷◌, ◌++◌, Option, Some, None, option_map, option_and_then, Contains}
use Rattle.std.specs.List.{find, slice_get}
use Rattle.std.specs.Str.{bytes_eq}
use Rattle.base_types.specs.Faults.{at_line}
use Rattle.base_types.specs.declared.fault.Fault.{Fault}
use Rattle.base_types.specs.declared.fault.FileKind.TheVariants.{Def, Verilog}
use Rattle.base_types.specs.declared.kind.Kind.TheVariants.{InstanceMissing, CellDiffers, NetDiffers}
use Rattle.netlist_core.specs.declared.netlist.NetId.{NetId}
use Rattle.netlist_core.specs.declared.netlist.Port.{Port}
use Rattle.netlist_core.specs.declared.netlist.Instance.{Instance}
use Rattle.netlist_core.specs.declared.netlist.Netlist.{Netlist}
use Rattle.netlist_core.specs.Netlists.{plain_of, net_at}
use Rattle.netlist_core.specs.Joining.{AreJoined}
use Rattle.def_reader.specs.declared.design.NetPin.{NetPin}
use Rattle.def_reader.specs.declared.design.NetPin.TheVariants.{Cell, Port as AtPort}
use Rattle.def_reader.specs.declared.design.Net.{Net}
use Rattle.def_reader.specs.declared.design.Design.{Design}
use Rattle.def_reader.specs.Designs.{cell_of}

-- the instance of a name
abbrev pub instance_named : Netlist → List ℕ → Option Instance
instance_named n name = find (λ i. bytes_eq i.name name) n.instances

-- the port bit of a plain name
abbrev pub port_named : Netlist → List ℕ → Option Port
port_named n name = find (λ p. bytes_eq (plain_of n.nets p.net) name) n.ports

-- the net bit that the netlist connects a pin of the design to, where it is one
abbrev pub net_of_pin : Netlist → NetPin → Option NetId
net_of_pin n (Cell component pin) = option_and_then (net_at pin) (instance_named n component)
net_of_pin n (AtPort pin) = option_map (λ p. p.net) (port_named n pin)

-- a pin of a net of the design, and the net bit that the netlist connects it to
pub record Connects (n : Netlist) (net : Net) (bit : NetId) : Type 0 where
  pub pin : NetPin
  pub there : Contains net.pins pin
  pub is : net_of_pin n pin ≡ Some bit

-- two pins are joined exactly where they stand in one net of the design
pub record AgreeOnNets (n : Netlist) (nets : List Net) : Type 0 where
  pub same : (i j : ℕ) (here there : Net) (a b : NetId) → slice_get nets i ≡ Some here → slice_get nets j ≡ Some there → Connects n here a → Connects n there b → (i ≡ j ↔ AreJoined n a.0 b.0)

-- netlist and design agree
pub record Agree (n : Netlist) (d : Design) : Type 0 where
  pub components : (i : Instance) → Contains n.instances i → cell_of d.components i.name ≡ Some i.cell
  pub nets : AgreeOnNets n d.nets

-- the instance has no component
pub record IsMissing (n : Netlist) (d : Design) (line : ℕ) : Type 0 where
  pub instance : Instance
  pub there : Contains n.instances instance
  pub none : cell_of d.components instance.name ≡ None
  pub is : line ≡ instance.line

-- the component of the instance is of another cell
pub record HasOtherCell (n : Netlist) (d : Design) (line : ℕ) : Type 0 where
  pub instance : Instance
  pub there : Contains n.instances instance
  pub cell : List ℕ
  pub found : cell_of d.components instance.name ≡ Some cell
  pub other : cell ≡ instance.cell → ⊥
  pub is : line ≡ instance.line

-- two pins of the net aren't joined
pub record IsSplit (n : Netlist) (d : Design) (line : ℕ) : Type 0 where
  pub net : Net
  pub there : Contains d.nets net
  pub a : NetId
  pub b : NetId
  pub first : Connects n net a
  pub second : Connects n net b
  pub apart : AreJoined n a.0 b.0 → ⊥
  pub is : line ≡ net.line

-- a pin of the net is joined with one of a net before it
pub record IsShared (n : Netlist) (d : Design) (line : ℕ) : Type 0 where
  pub front : List Net
  pub net : Net
  pub behind : List Net
  pub nets : d.nets ≡ front ++ net ∷ behind
  pub before : Net
  pub earlier : Contains front before
  pub a : NetId
  pub b : NetId
  pub first : Connects n before a
  pub second : Connects n net b
  pub joined : AreJoined n a.0 b.0
  pub is : line ≡ net.line

-- where netlist and design don't agree
pub data HoldsInAgreement (n : Netlist) (d : Design) : Fault → Type 0 where
  Missing : (line : ℕ) → IsMissing n d line → HoldsInAgreement n d (at_line InstanceMissing Verilog line)
  Differs : (line : ℕ) → HasOtherCell n d line → HoldsInAgreement n d (at_line CellDiffers Verilog line)
  Split : (line : ℕ) → IsSplit n d line → HoldsInAgreement n d (at_line NetDiffers Def line)
  Shared : (line : ℕ) → IsShared n d line → HoldsInAgreement n d (at_line NetDiffers Def line)
