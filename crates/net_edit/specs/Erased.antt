-- A netlist in which the scan wiring of several paths is erased: the tails stand for their ports, and their declarations and
-- the assigns to freed ports are left out.
use Rattle.std.specs.Prelude.{ℕ, Bool, false, not, ◌&&◌, if◌then◌else◌, List, [], ◌∷◌, ◌++◌, map, filter, Option, Some, None}
use Rattle.std.specs.List.{flat_map, list_any, find, slice_get}
use Rattle.std.specs.Str.{bytes_eq}
use Rattle.netlist_core.specs.declared.netlist.NetId.{NetId}
use Rattle.netlist_core.specs.declared.netlist.Instance.{Instance}
use Rattle.netlist_core.specs.declared.netlist.Netlist.{Netlist}
use Rattle.netlist_core.specs.Netlists.{NamedBit, Named, Low, High, Undefined, NamedInstance, NamedNetlist, plain_of}
use Rattle.cell_table.specs.declared.paths.OutPin.{OutPin}
use Rattle.cell_table.specs.Cells.{Cells}
use Rattle.chain_trace.specs.declared.path.Path.{Path}
use Rattle.chain_trace.specs.declared.path.Source.{Source}
use Rattle.chain_trace.specs.declared.path.Source.TheVariants as sources
use Rattle.chain_trace.specs.Paths.{out_pin_at}
use Rattle.path_links.specs.declared.sinks.Sinks.{Sinks}
use Rattle.path_links.specs.Erasure.{sink_pin}
use Rattle.net_edit.specs.Changes.{Change}
use Rattle.net_edit.specs.Rearranged.{steps_of}

-- a tail by names: the pin at which it stands, its port, and its own
pub record NamedTail : Type 0 where
  pub instance : List ℕ
  pub pin : List ℕ
  pub port : List ℕ
  pub tail : List ℕ

-- the bits are the one net bit of this name
abbrev pub is_just : List ℕ → List NamedBit → Bool
is_just name [] = false
is_just name (Named other ∷ []) = bytes_eq other name
is_just name (Low ∷ []) = false
is_just name (High ∷ []) = false
is_just name (Undefined ∷ []) = false
is_just name (bit ∷ other ∷ others) = false

-- the tail stands at this pin, as its whole expression
abbrev pub is_tail_at : List ℕ → List ℕ → List NamedBit → NamedTail → Bool
is_tail_at instance pin bits t = (bytes_eq t.instance instance && bytes_eq t.pin pin) && is_just t.tail bits

-- the port of a tail, where there is one
abbrev pub port_for : Option NamedTail → List NamedBit → List NamedBit
port_for None bits = bits
port_for (Some t) bits = Named t.port ∷ []

-- a pin, at which the port stands in place of its tail
abbrev pub untailed : List NamedTail → List ℕ → (List ℕ × List NamedBit) → List ℕ × List NamedBit
untailed tails instance pin = (pin.0, port_for (find (is_tail_at instance pin.0 pin.1) tails) pin.1)

-- an instance, at whose pins the ports stand in place of their tails
abbrev pub untailed_instance : List NamedTail → NamedInstance → NamedInstance
untailed_instance tails placed = record { name = placed.name; cell = placed.cell; pins = map (untailed tails placed.name) placed.pins }

-- the whole left side is a freed port
abbrev pub is_of_freed : List NamedTail → List (NamedBit × NamedBit) → Bool
is_of_freed tails [] = false
is_of_freed tails (pair ∷ []) = list_any (λ t. is_just t.port (pair.0 ∷ [])) tails
is_of_freed tails (pair ∷ other ∷ others) = false

-- the name is that of a tail
abbrev pub is_tail : List NamedTail → List ℕ → Bool
is_tail tails name = list_any (λ t. bytes_eq t.tail name) tails

-- the netlist without its tails
abbrev pub without_tails : List NamedTail → NamedNetlist → NamedNetlist
without_tails tails n = record {
  module_name = n.module_name;
  nets = filter (λ name. not (is_tail tails name)) n.nets;
  ports = n.ports;
  assigns = filter (λ pairs. not (is_of_freed tails pairs)) n.assigns;
  instances = map (untailed_instance tails) n.instances;
}

-- a tail by names, where its instance and its pin are there
abbrev pub tail_named : Option Instance → Option OutPin → List ℕ → List ℕ → List NamedTail
tail_named None out port tail = []
tail_named (Some placed) None port tail = []
tail_named (Some placed) (Some out) port tail = record { instance = placed.name; pin = out.pin; port = port; tail = tail } ∷ []

-- the tail of a source
abbrev pub source_tail : Netlist → Cells → Source → List ℕ → List ℕ → List NamedTail
source_tail n cells (sources.Port net) port tail = []
source_tail n cells (sources.Out step) port tail = tail_named (slice_get n.instances step.instance) (out_pin_at n cells step) port tail

-- the tails of freed ports, by their names
abbrev pub tails_of : Netlist → Cells → List Change → List (List ℕ) → List NamedTail
tails_of n cells [] names = []
tails_of n cells (c ∷ cs) [] = []
tails_of n cells (c ∷ cs) (name ∷ names) = source_tail n cells c.was (plain_of n.nets c.port) name ++ tails_of n cells cs names

-- the name of a path's output, where it is free
abbrev pub free_port : Netlist → (NetId → Bool) → Path → List (List ℕ)
free_port n free path = if free path.output then plain_of n.nets path.output ∷ [] else []

-- the scan sinks of several paths: the in pins of their steps, and those outputs that are free
abbrev pub scan_sinks : Netlist → Cells → (NetId → Bool) → List Path → Sinks
scan_sinks n cells free paths = record {
  pins = flat_map (sink_pin n cells) (steps_of paths);
  ports = flat_map (free_port n free) paths;
}
