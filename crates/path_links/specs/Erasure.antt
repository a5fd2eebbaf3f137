-- A netlist in which the scan wiring is erased: what connects the scan sinks is blank, and all else stands.
use Rattle.std.specs.Prelude.{ℕ, Bool, false, ◌&&◌, if◌then◌else◌, List, [], ◌∷◌, map, Option, Some, None}
use Rattle.std.specs.List.{list_any, slice_get}
use Rattle.std.specs.Str.{bytes_eq}
use Rattle.netlist_core.specs.declared.netlist.Instance.{Instance}
use Rattle.netlist_core.specs.declared.netlist.Netlist.{Netlist}
use Rattle.netlist_core.specs.Netlists.{NamedBit, Named, Low, High, Undefined, NamedInstance, NamedNetlist}
use Rattle.cell_table.specs.declared.paths.ScanPath.{ScanPath}
use Rattle.cell_table.specs.Cells.{Cells}
use Rattle.chain_trace.specs.declared.path.Step.{Step}
use Rattle.chain_trace.specs.Paths.{scan_path_at}
use Rattle.path_links.specs.declared.sinks.SinkPin.{SinkPin}
use Rattle.path_links.specs.declared.sinks.Sinks.{Sinks}

-- the in pin of a step
abbrev pub sink_pin_of : Option Instance → Option ScanPath → List SinkPin
sink_pin_of None path = []
sink_pin_of (Some placed) None = []
sink_pin_of (Some placed) (Some path) = record { instance = placed.name; pin = path.input } ∷ []

-- the in pin of a step, by names
abbrev pub sink_pin : Netlist → Cells → Step → List SinkPin
sink_pin n cells step = sink_pin_of (slice_get n.instances step.instance) (scan_path_at n cells step.instance step.path)

-- the pin of an instance is a scan sink
abbrev pub is_sink_pin : Sinks → List ℕ → List ℕ → Bool
is_sink_pin sinks instance pin = list_any (λ sink. bytes_eq sink.instance instance && bytes_eq sink.pin pin) sinks.pins

-- a pin with its bits, which are blank at a scan sink
abbrev pub erased_pin : Sinks → List ℕ → (List ℕ × List NamedBit) → List ℕ × List NamedBit
erased_pin sinks instance connection = (connection.0, if is_sink_pin sinks instance connection.0 then [] else connection.1)

-- an instance with its sinks blank
abbrev pub erased_instance : Sinks → NamedInstance → NamedInstance
erased_instance sinks placed = record { name = placed.name; cell = placed.cell; pins = map (erased_pin sinks placed.name) placed.pins }

-- the name is one of these
abbrev pub has_name : List (List ℕ) → List ℕ → Bool
has_name names name = list_any (λ other. bytes_eq other name) names

-- the bit is that of a port that is a sink
abbrev pub is_sink_bit : Sinks → NamedBit → Bool
is_sink_bit sinks (Named name) = has_name sinks.ports name
is_sink_bit sinks Low = false
is_sink_bit sinks High = false
is_sink_bit sinks Undefined = false

-- the whole left side is the net bit of a scan output
abbrev pub is_sink_assign : Sinks → List (NamedBit × NamedBit) → Bool
is_sink_assign sinks [] = false
is_sink_assign sinks (pair ∷ []) = is_sink_bit sinks pair.0
is_sink_assign sinks (pair ∷ other ∷ others) = false

-- an assign, whose right side is blank at a scan sink
abbrev pub erased_assign : Sinks → List (NamedBit × NamedBit) → List (NamedBit × NamedBit)
erased_assign sinks pairs = if is_sink_assign sinks pairs then map (λ pair. (pair.0, Undefined)) pairs else pairs

-- the netlist with the scan wiring erased
abbrev pub erased_netlist : Sinks → NamedNetlist → NamedNetlist
erased_netlist sinks n = record {
  module_name = n.module_name;
  nets = n.nets;
  ports = n.ports;
  assigns = map (erased_assign sinks) n.assigns;
  instances = map (erased_instance sinks) n.instances;
}
