-- Pins of paths in the nets of a placed design.
use Rattle.std.specs.Prelude.{◌≡◌, ◌⊎◌, ℕ, Bool, true, false, ◌&&◌, not, List, Option, Some, None, is_none, Contains}
use Rattle.std.specs.List.{find, list_any, slice_get}
use Rattle.std.specs.Str.{bytes_eq}
use Rattle.base_types.specs.Faults.{at_line}
use Rattle.base_types.specs.declared.fault.Fault.{Fault}
use Rattle.base_types.specs.declared.fault.FileKind.TheVariants.{Verilog}
use Rattle.base_types.specs.declared.kind.Kind.TheVariants.{PinMissing}
use Rattle.netlist_core.specs.declared.netlist.NetId.{NetId}
use Rattle.netlist_core.specs.declared.netlist.Instance.{Instance}
use Rattle.netlist_core.specs.declared.netlist.Netlist.{Netlist}
use Rattle.netlist_core.specs.Netlists.{plain_of}
use Rattle.cell_table.specs.declared.paths.ScanPath.{ScanPath}
use Rattle.cell_table.specs.declared.paths.OutPin.{OutPin as Out}
use Rattle.cell_table.specs.Cells.{Cells}
use Rattle.chain_trace.specs.declared.path.Path.{Path}
use Rattle.chain_trace.specs.declared.path.Step.{Step}
use Rattle.chain_trace.specs.declared.path.Sink.TheVariants as sinks
use Rattle.chain_trace.specs.Paths.{scan_path_at, out_pin_at}
use Rattle.chain_trace.specs.Faults.{sink_line}
use Rattle.def_reader.specs.declared.design.NetPin.{NetPin}
use Rattle.def_reader.specs.declared.design.NetPin.TheVariants.{Cell, Port}
use Rattle.def_reader.specs.declared.design.Net.{Net}
use Rattle.def_reader.specs.declared.design.DesignPin.{DesignPin}
use Rattle.def_reader.specs.declared.design.Design.{Design}

-- both are the same pin
abbrev pub same_pin : NetPin → NetPin → Bool
same_pin (Cell component pin) (Cell other_component other_pin) = bytes_eq component other_component && bytes_eq pin other_pin
same_pin (Cell component pin) (Port other) = false
same_pin (Port name) (Cell component pin) = false
same_pin (Port name) (Port other) = bytes_eq name other

-- the net in which a pin stands
abbrev pub net_with : List Net → NetPin → Option Net
net_with nets pin = find (λ net. list_any (same_pin pin) net.pins) nets

-- the design pin of a name
abbrev pub pin_named : List DesignPin → List ℕ → Option DesignPin
pin_named pins name = find (λ p. bytes_eq p.name name) pins

-- the pin of an instance is in no net
abbrev pub is_alone : List Net → Option Instance → List ℕ → Bool
is_alone nets None pin = false
is_alone nets (Some placed) pin = is_none (net_with nets (Cell placed.name pin))

-- the in pin of a step is in no net
abbrev pub in_pin_alone : List Net → Option Instance → Option ScanPath → Bool
in_pin_alone nets placed None = false
in_pin_alone nets placed (Some path) = is_alone nets placed path.input

-- the out pin of a step is in no net
abbrev pub out_pin_alone : List Net → Option Instance → Option Out → Bool
out_pin_alone nets placed None = false
out_pin_alone nets placed (Some out) = is_alone nets placed out.pin

-- the in pin of the step is in no net
abbrev pub lacks_in_net : Netlist → Cells → Design → Step → Bool
lacks_in_net n cells d step = in_pin_alone d.nets (slice_get n.instances step.instance) (scan_path_at n cells step.instance step.path)

-- the out pin that the step uses is in no net
abbrev pub lacks_out_net : Netlist → Cells → Design → Step → Bool
lacks_out_net n cells d step = out_pin_alone d.nets (slice_get n.instances step.instance) (out_pin_at n cells step)

-- the port is in no net, or no design pin, or its design pin names another net
abbrev pub names_other : Option Net → Option DesignPin → Bool
names_other None pin = true
names_other (Some net) None = true
names_other (Some net) (Some pin) = not (bytes_eq pin.net net.name)

-- the port bit of a net number
abbrev pub lacks_port : Netlist → Design → NetId → Bool
lacks_port n d net = names_other (net_with d.nets (Port (plain_of n.nets net))) (pin_named d.pins (plain_of n.nets net))

-- what may be missing of the paths in a design: PinMissing, at the line of the instance or of the port's direction statement
pub data HoldsInNets (n : Netlist) (cells : Cells) (d : Design) (paths : List Path) : Fault → Type 0 where
  InPin : (path : Path) (step : Step) → Contains paths path → Contains path.steps step → lacks_in_net n cells d step ≡ true → HoldsInNets n cells d paths (at_line PinMissing Verilog (sink_line n (sinks.In step.instance step.path)))
  OutPin : (path : Path) (step : Step) → Contains paths path → Contains path.steps step → lacks_out_net n cells d step ≡ true → HoldsInNets n cells d paths (at_line PinMissing Verilog (sink_line n (sinks.In step.instance step.path)))
  AtPort : (path : Path) (net : NetId) → Contains paths path → (net ≡ path.input) ⊎ (net ≡ path.output) → lacks_port n d net ≡ true → HoldsInNets n cells d paths (at_line PinMissing Verilog (sink_line n (sinks.Port net)))
