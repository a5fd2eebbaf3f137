-- Where the units and the chains of a placed design begin and end, in half database units; and cells of paths without a place.
use Rattle.std.specs.Prelude.{◌≡◌, ℕ, zero, suc, ◌+◌, Bool, true, is_none, if◌then◌else◌, nat_lt, List, length, map, Option, Some, option_map, unwrap_or, pos, ◌+ℤ◌, Contains}
use Rattle.std.specs.List.{find, slice_get}
use Rattle.std.specs.Str.{bytes_eq}
use Rattle.base_types.specs.Faults.{at_line}
use Rattle.base_types.specs.declared.fault.Fault.{Fault}
use Rattle.base_types.specs.declared.fault.FileKind.TheVariants.{Verilog}
use Rattle.base_types.specs.declared.kind.Kind.TheVariants.{PlaceUnknown}
use Rattle.base_types.specs.declared.span.Point.{Point}
use Rattle.netlist_core.specs.declared.netlist.NetId.{NetId}
use Rattle.netlist_core.specs.declared.netlist.Netlist.{Netlist}
use Rattle.netlist_core.specs.Netlists.{plain_of}
use Rattle.cell_table.specs.Cells.{Cells, ◌>>=◌}
use Rattle.chain_trace.specs.declared.path.Path.{Path}
use Rattle.chain_trace.specs.declared.path.Step.{Step}
use Rattle.chain_trace.specs.Paths.{scan_path_at, out_pin_at}
use Rattle.chain_trace.specs.Faults.{line_of_instance}
use Rattle.def_tokens.specs.declared.orient.Orient.{Orient}
use Rattle.lef_pins.specs.declared.macros.Macro.{Macro}
use Rattle.lef_pins.specs.Macros.{NamedMacros, macro_at}
use Rattle.lef_pins.specs.Places.{pin_place}
use Rattle.def_reader.specs.declared.design.Component.{Component}
use Rattle.def_reader.specs.declared.design.Design.{Design}
use Rattle.chain_rules.specs.declared.unit.Rules.{Rules}
use Rattle.wire_cost.specs.declared.ends.Ends.{Ends}
use Rattle.design_places.specs.NetPins.{pin_named}

-- a placed component: its macro, its point in database units, and how it is turned
pub record Placed : Type 0 where
  pub shape : Macro
  pub at : Point
  pub orient : Orient

-- a component with its macro, where it is placed and has one
abbrev pub placed_of : NamedMacros → Component → Option Placed
placed_of macros component = do
  place ← component.place
  shape ← macro_at component.cell macros
  Some (record { shape = shape; at = place.0; orient = place.1 })

-- the placed component of a name
abbrev pub placed_named : NamedMacros → Design → List ℕ → Option Placed
placed_named macros d name = find (λ c. bytes_eq c.name name) d.components >>= placed_of macros

-- the placed component of an instance
abbrev pub placed_at : Netlist → NamedMacros → Design → ℕ → Option Placed
placed_at n macros d instance = slice_get n.instances instance >>= λ placed. placed_named macros d placed.name

-- the cell of a step isn't placed, or has no macro
abbrev pub is_nowhere : Netlist → NamedMacros → Design → Step → Bool
is_nowhere n macros d step = is_none (placed_at n macros d step.instance)

-- PlaceUnknown, at the line of the instance
pub record HoldsInPlaces (n : Netlist) (macros : NamedMacros) (d : Design) (paths : List Path) (fault : Fault) : Type 0 where
  pub path : Path
  pub step : Step
  pub there : Contains paths path
  pub on : Contains path.steps step
  pub nowhere : is_nowhere n macros d step ≡ true
  pub is : fault ≡ at_line PlaceUnknown Verilog (line_of_instance (slice_get n.instances step.instance))

-- where a pin of a placed component stands
abbrev pub point_of : Design → List ℕ → Placed → Point
point_of d pin placed = pin_place placed.shape pin placed.at placed.orient d.units

-- where the in pin of a step stands
abbrev pub in_point : Netlist → Cells → NamedMacros → Design → Step → Option Point
in_point n cells macros d step = do
  path ← scan_path_at n cells step.instance step.path
  placed ← placed_at n macros d step.instance
  Some (point_of d path.input placed)

-- where the out pin stands that a step uses
abbrev pub out_point : Netlist → Cells → NamedMacros → Design → Step → Option Point
out_point n cells macros d step = do
  out ← out_pin_at n cells step
  placed ← placed_at n macros d step.instance
  Some (point_of d out.pin placed)

-- twice a point
abbrev pub doubled : Point → Point
doubled p = record { x = p.x +ℤ p.x; y = p.y +ℤ p.y }

-- a design pin stands at twice its placement point, or nowhere
abbrev pub port_point : Netlist → Design → NetId → Option Point
port_point n d net = pin_named d.pins (plain_of n.nets net) >>= λ pin. option_map doubled pin.place

-- what feeds the step at a place of the path, or its output: the port, or the out pin of the step before
abbrev pub source_point : Netlist → Cells → NamedMacros → Design → Path → ℕ → Option Point
source_point n cells macros d path zero = port_point n d path.input
source_point n cells macros d path (suc k) = slice_get path.steps k >>= out_point n cells macros d

-- the in pin of the step at a place of the path, or its output port behind them
abbrev pub sink_point : Netlist → Cells → NamedMacros → Design → Path → ℕ → Option Point
sink_point n cells macros d path k =
    if nat_lt k (length path.steps) then (slice_get path.steps k >>= in_point n cells macros d) else port_point n d path.output

-- the point, and the origin where there is none
abbrev pub point_or_origin : Option Point → Point
point_or_origin point = unwrap_or point (record { x = pos 0; y = pos 0 })

-- the source before a place of the path of a number
abbrev pub source_on : Netlist → Cells → NamedMacros → Design → List Path → ℕ → ℕ → Option Point
source_on n cells macros d paths number k = slice_get paths number >>= λ path. source_point n cells macros d path k

-- the sink at a place of the path of a number
abbrev pub sink_on : Netlist → Cells → NamedMacros → Design → List Path → ℕ → ℕ → Option Point
sink_on n cells macros d paths number k = slice_get paths number >>= λ path. sink_point n cells macros d path k

-- a unit is entered at the in pin of its first step and left at the out pin of its last; a chain comes from the source before its
-- first step and goes to the sink behind its last
abbrev pub ends_of : Netlist → Cells → NamedMacros → Design → List Path → Rules → Ends
ends_of n cells macros d paths rules = record {
  entry = map (λ u. point_or_origin (sink_on n cells macros d paths u.path u.first)) rules.units;
  exit = map (λ u. point_or_origin (source_on n cells macros d paths u.path (u.last + 1))) rules.units;
  start = map (λ r. source_on n cells macros d paths r.path r.first) rules.chains;
  stop = map (λ r. sink_on n cells macros d paths r.path (r.last + 1)) rules.chains;
}
