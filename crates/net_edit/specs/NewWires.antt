-- What is edited between several paths, with wires: a tail by its place among the freed ports.
use Rattle.std.specs.Prelude.{◌≡◌, ℕ, ◌+◌, ◌<◌, ◌^◌, ◌==◌, ◌&&◌, Bool, List, [], ◌∷◌, length, Option, Some, None, option_map}
use Rattle.std.specs.List.{flat_map, position_from, zip}
use Rattle.std.specs.Borrow.{Bor}
use Rattle.std.specs.Option.{option_eq}
use Rattle.std.specs.HashMap.{HashMap, get}
use Rattle.netlist_core.specs.declared.netlist.NetId.{NetId}
use Rattle.netlist_core.specs.declared.netlist.Netlist.{Netlist}
use Rattle.cell_table.specs.declared.paths.OutPin.{OutPin}
use Rattle.cell_table.specs.Cells.{Cells}
use Rattle.chain_trace.specs.declared.path.Path.{Path}
use Rattle.chain_trace.specs.declared.path.Source.{Source}
use Rattle.chain_trace.specs.declared.path.Source.TheVariants as sources
use Rattle.chain_trace.specs.declared.path.Sink.TheVariants as sinks
use Rattle.chain_trace.specs.Paths.{source_net, out_pin_at}
use Rattle.path_links.specs.Edits.{Link, same_source, moved, assign_at}
use Rattle.net_edit.specs.declared.edits.Wire.{Wire}
use Rattle.net_edit.specs.declared.edits.Wire.TheVariants.{Net, Tail}
use Rattle.net_edit.specs.declared.edits.PinEdit.{PinEdit}
use Rattle.net_edit.specs.declared.edits.PortEdit.{PortEdit}
use Rattle.net_edit.specs.declared.edits.TailEdit.{TailEdit}
use Rattle.net_edit.specs.declared.edits.Edits.{Edits}
use Rattle.net_edit.specs.Changes.{Change}
use Rattle.net_edit.specs.Tails.{freed_between}
use Rattle.net_edit.specs.TailNames.{tail_name, AreLeastFree}

-- a tail, or else the net
abbrev pub wire_or : Option ℕ → Option NetId → Option Wire
wire_or None net = option_map Net net
wire_or (Some tail) net = Some (Tail tail)

-- the place of the port that a source drove before it was freed
abbrev pub place_of : List Change → Source → Option ℕ
place_of fs source = position_from (λ c. same_source c.was source) 0 fs

-- the new wire of a source: its tail, or else the net on which it stands
abbrev pub new_wire : Netlist → Cells → List Change → Source → Option Wire
new_wire n cells fs source = wire_or (place_of fs source) (source_net n cells source)

-- the edit of an in pin, where its source has a wire
abbrev pub pin_with : ℕ → ℕ → Option Wire → List PinEdit
pin_with instance path None = []
pin_with instance path (Some wire) = record { instance = instance; path = path; source = wire } ∷ []

-- the edit of an in pin: the new wire of its source
abbrev pub wired_pin : Netlist → Cells → List Change → Link → List PinEdit
wired_pin n cells fs (source, sinks.Port net) = []
wired_pin n cells fs (source, sinks.In instance path) = pin_with instance path (new_wire n cells fs source)

-- the edit of a port, where an assign drives it and its source has a wire
abbrev pub port_with : NetId → Option ℕ → Option Wire → List PortEdit
port_with port None source = []
port_with port (Some assign) None = []
port_with port (Some assign) (Some wire) = record { port = port; assign = assign; source = wire } ∷ []

-- the edit of an assigned port, at its assign: the new wire of its source
abbrev pub wired_port : Netlist → Cells → List Change → Link → List PortEdit
wired_port n cells fs (source, sinks.Port net) = port_with net (assign_at n net) (new_wire n cells fs source)
wired_port n cells fs (source, sinks.In instance path) = []

-- the tail of a port at an out pin, where that is there and the port's source has a wire
abbrev pub tail_with : NetId → ℕ → List ℕ → Option OutPin → Option Wire → List TailEdit
tail_with port instance name None source = []
tail_with port instance name (Some out) None = []
tail_with port instance name (Some out) (Some wire) = record { port = port; instance = instance; pin = out.pin; tail = name; source = wire } ∷ []

-- the tail of a port of this name, at the out pin of its old source
abbrev pub tail_at_source : Netlist → Cells → NetId → List ℕ → Source → Option Wire → List TailEdit
tail_at_source n cells port name (sources.Port net) source = []
tail_at_source n cells port name (sources.Out step) source = tail_with port step.instance name (out_pin_at n cells step) source

-- the tail of a freed port with its number
abbrev pub wired_tail : Netlist → Cells → List Change → Change × ℕ → List TailEdit
wired_tail n cells fs (c, number) = tail_at_source n cells c.port (tail_name number) c.was (new_wire n cells fs c.now)

-- a source by numbers
abbrev pub SourceKey : Type 0
SourceKey = Option (ℕ × ℕ) × ℕ

-- the place of a step and its out pin, or a port
abbrev pub source_key : Source → SourceKey
source_key (sources.Port net) = (None, net.0)
source_key (sources.Out step) = (Some (step.instance, step.path), step.out)

-- the same numbers
abbrev pub same_key : SourceKey → SourceKey → Bool
same_key a b = option_eq (λ x y. x.0 == y.0 && x.1 == y.1) a.0 b.0 && a.1 == b.1

-- the map has of each source the place of the port that it drove
abbrev pub HasPlaces : {S : Type 0} → List Change → HashMap SourceKey ℕ S → Type 0
HasPlaces fs places = (source : Source) → get same_key places (source_key source) ≡ place_of fs source

-- the name is that of the out pin, where there is one
abbrev pub IsNameOf : Option (Bor (List ℕ)) → Option OutPin → Type 0
IsNameOf name out = option_map (λ n. n.now) name ≡ option_map (λ o. o.pin) out

-- the edits between the paths with wires: the tails have the least numbers that are free, one for each freed port
pub record AreWired (n : Netlist) (cells : Cells) (old new : List Path) (edits : Edits) : Type 0 where
  pub pins : edits.pins ≡ flat_map (wired_pin n cells (freed_between n cells old new)) (moved old new)
  pub ports : edits.ports ≡ flat_map (wired_port n cells (freed_between n cells old new)) (moved old new)
  pub numbers : List ℕ
  pub count : length numbers ≡ length (freed_between n cells old new)
  pub few : length n.nets + length numbers < 2 ^ 32
  pub free : AreLeastFree n 0 numbers
  pub tails : edits.tails ≡ flat_map (wired_tail n cells (freed_between n cells old new)) (zip (freed_between n cells old new) numbers)
