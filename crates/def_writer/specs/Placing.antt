-- In which nets of a placed design the pins of a netlist stand (LEF/DEF 5.8, NETS).
use Rattle.std.specs.Prelude.{◌≡◌, ℕ, nat_lt, Bool, false, ◌&&◌, if◌then◌else◌, List, [], length, Option, Some, None}
use Rattle.std.specs.List.{list_any, position, slice_get}
use Rattle.std.specs.Str.{bytes_eq}
use Rattle.netlist_core.specs.declared.netlist.Instance.{Instance}
use Rattle.netlist_core.specs.declared.netlist.Netlist.{Netlist}
use Rattle.netlist_core.specs.Netlists.{plain_of, IsNetlist}
use Rattle.def_reader.specs.declared.design.NetPin.{NetPin}
use Rattle.def_reader.specs.declared.design.NetPin.TheVariants.{Cell, Port}
use Rattle.def_reader.specs.declared.design.Net.{Net}
use Rattle.def_reader.specs.declared.design.Design.{Design}
use Rattle.def_reader.specs.Agreement.{Agree}
use Rattle.net_edit.specs.Agreement.{Pin, OfInstance, OfPort, Placing, AgreeOnPins}

-- both are the same pin
abbrev pub same_pin : NetPin → NetPin → Bool
same_pin (Cell component pin) (Cell other_component other_pin) = bytes_eq component other_component && bytes_eq pin other_pin
same_pin (Cell component pin) (Port other) = false
same_pin (Port name) (Cell component pin) = false
same_pin (Port name) (Port other) = bytes_eq name other

-- the name of an instance; none without one
abbrev pub instance_name : Option Instance → List ℕ
instance_name None = []
instance_name (Some placed) = placed.name

-- a pin of the netlist as a net of a design names it
abbrev pub net_pin : Netlist → Pin → NetPin
net_pin n (OfInstance instance pin) = Cell (instance_name (slice_get n.instances instance)) pin
net_pin n (OfPort net) = Port (plain_of n.nets net)

-- the netlist has the instance of the pin, or the net of the port bit
abbrev pub is_there : Netlist → Pin → Bool
is_there n (OfInstance instance pin) = nat_lt instance (length n.instances)
is_there n (OfPort net) = nat_lt net.0 (length n.nets)

-- the number of the first net in which each pin of the netlist stands
abbrev pub placing : Netlist → Design → Placing
placing n d pin = if is_there n pin then position (λ net. list_any (same_pin (net_pin n pin)) net.pins) d.nets else None

-- a netlist and a design that agree do so on pins
abbrev pub PlacingLaw : Type 0
PlacingLaw = (n : Netlist) (d : Design) → IsNetlist n → Agree n d → AgreeOnPins n (placing n d)
