-- What the moves between paths make of a placed design: the sinks stand in the nets of their new sources, and all else where it stood.
use Rattle.std.specs.Prelude.{◌≡◌, ℕ, List, map, Some, Contains}
use Rattle.std.specs.List.{slice_get}
use Rattle.base_types.specs.declared.fault.Fault.{Fault}
use Rattle.netlist_core.specs.declared.netlist.Instance.{Instance}
use Rattle.netlist_core.specs.declared.netlist.Netlist.{Netlist}
use Rattle.netlist_core.specs.Netlists.{IsNetlist}
use Rattle.cell_table.specs.Cells.{Cells}
use Rattle.chain_trace.specs.declared.path.Path.{Path}
use Rattle.net_edit.specs.Agreement.{AgreeOnPins, AreMoved}
use Rattle.net_edit.specs.Rearranged.{AreRearranged}
use Rattle.def_reader.specs.declared.design.NetPin.{NetPin}
use Rattle.def_reader.specs.declared.design.Net.{Net}
use Rattle.def_reader.specs.declared.design.DesignPin.{DesignPin}
use Rattle.def_reader.specs.declared.design.Design.{Design}
use Rattle.def_reader.specs.Agreement.{Agree}
use Rattle.def_reader.specs.Denoted.{DenotesDesign}
use Rattle.def_reader.specs.Designs.{cell_of}
use Rattle.def_writer.specs.Placing.{placing}
use Rattle.design_places.specs.NetPins.{HoldsInNets}
use Rattle.def_edit.specs.Moved.{AreMovesIn, moved_nets, moved_pin}
use Rattle.def_writer.specs.Moved.Moves.{moves_of}

-- no pin stands twice in the nets
abbrev pub ArePinsOnceIn : List Net → Type 0
ArePinsOnceIn nets = (i j k l : ℕ) (a b : Net) (pin : NetPin) → slice_get nets i ≡ Some a → slice_get nets j ≡ Some b → slice_get a.pins k ≡ Some pin → slice_get b.pins l ≡ Some pin → (i ≡ j) × (k ≡ l)

-- a design that a text denotes is so
abbrev pub OnceLaw : Type 0
OnceLaw = (text : List ℕ) (cells : Cells) (d : Design) → DenotesDesign text cells d → ArePinsOnceIn d.nets

-- a netlist and a design that agree, the design's paths, whose pins stand in its nets, and new paths
pub record AreMovable (n : Netlist) (cells : Cells) (d : Design) (old new : List Path) : Type 0 where
  pub netlist : IsNetlist n
  pub once : ArePinsOnceIn d.nets
  pub agree : Agree n d
  pub standing : (fault : Fault) → HoldsInNets n cells d old fault → ⊥
  pub rearranged : AreRearranged n cells old new

-- the moves are of pins that are there, none twice
abbrev pub MovesLaw : Type 0
MovesLaw = (n : Netlist) (cells : Cells) (d : Design) (old new : List Path) → AreMovable n cells d old new → AreMovesIn d.nets (moves_of n cells d old new)

-- a net by its name and its pins
abbrev pub net_fields : Net → List ℕ × List NetPin
net_fields net = (net.name, net.pins)

-- a design pin by its name and its net
abbrev pub pin_fields : DesignPin → List ℕ × List ℕ
pin_fields pin = (pin.name, pin.net)

-- the design behind the moves: its nets and design pins are those of the read one with the moves
pub record IsBehind (n : Netlist) (cells : Cells) (d : Design) (old new : List Path) (v : Design) : Type 0 where
  pub nets : map net_fields v.nets ≡ map net_fields (moved_nets d.nets (moves_of n cells d old new))
  pub pins : map pin_fields v.pins ≡ map (λ pin. pin_fields (moved_pin d.nets (moves_of n cells d old new) pin)) d.pins

-- in such a design each sink with another source stands in the net of that, and each other pin where it stood
abbrev pub MovedLaw : Type 0
MovedLaw = (n : Netlist) (cells : Cells) (d v : Design) (old new : List Path) → AreMovable n cells d old new → IsBehind n cells d old new v → AreMoved n cells old new (placing n d) (placing n v)

-- no pin stands twice in it, and the pins of the new paths stand in its nets, whose names its design pins have
pub record StandingLaw : Type 0 where
  pub once : (n : Netlist) (cells : Cells) (d v : Design) (old new : List Path) → AreMovable n cells d old new → IsBehind n cells d old new v → ArePinsOnceIn v.nets
  pub standing : (n : Netlist) (cells : Cells) (d v : Design) (old new : List Path) → AreMovable n cells d old new → IsBehind n cells d old new v → (fault : Fault) → HoldsInNets n cells v new fault → ⊥

-- a netlist and a design that agree on pins agree, where no pin stands twice and each instance is a component of the same cell
abbrev pub AgreementLaw : Type 0
AgreementLaw = (n : Netlist) (d : Design) → IsNetlist n → ArePinsOnceIn d.nets → ((i : Instance) → Contains n.instances i → cell_of d.components i.name ≡ Some i.cell) → AgreeOnPins n (placing n d) → Agree n d
