-- Netlist and placed design agree on what is joined; and where the pins of a design stand after sinks were moved. Of a design
-- only this is seen: in which of its nets (LEF/DEF 5.8, NETS) each pin stands.
use Rattle.std.specs.Prelude.{◌≡◌, ◌↔◌, ℕ, Bool, true, if◌then◌else◌, List, Contains, Option, Some, None, option_map}
use Rattle.netlist_core.specs.declared.netlist.NetId.{NetId}
use Rattle.netlist_core.specs.declared.netlist.Direction.{Direction}
use Rattle.netlist_core.specs.declared.netlist.Netlist.{Netlist}
use Rattle.netlist_core.specs.Joining.{AreJoined}
use Rattle.cell_table.specs.Cells.{Cells}
use Rattle.chain_trace.specs.declared.path.Path.{Path}
use Rattle.chain_trace.specs.declared.path.Source.{Source}
use Rattle.chain_trace.specs.declared.path.Source.TheVariants as sources
use Rattle.chain_trace.specs.declared.path.Sink.{Sink}
use Rattle.chain_trace.specs.declared.path.Sink.TheVariants as sinks
use Rattle.chain_trace.specs.Paths.{scan_path_at, out_pin_at, pin_net, has_port}
use Rattle.path_links.specs.Edits.{moved}

-- a pin of an instance, or a port bit
pub data Pin : Type 0 where
  OfInstance : (instance : ℕ) → (pin : List ℕ) → Pin
  OfPort : (net : NetId) → Pin

-- a port of any direction
abbrev pub is_any : Direction → Bool
is_any direction = true

-- the net of a pin, where its expression is one net bit
abbrev pub net_at_pin : Netlist → Pin → Option NetId
net_at_pin n (OfInstance instance pin) = pin_net n instance pin
net_at_pin n (OfPort net) = if has_port is_any n net then Some net else None

-- the number of the design's net in which a pin stands, if it stands in one
abbrev pub Placing : Type 0
Placing = Pin → Option ℕ

-- two pins that the netlist and the design connect both are joined exactly where they stand in one net of the design
pub record AgreeOnPins (n : Netlist) (design : Placing) : Type 0 where
  pub same : (p q : Pin) (a b : NetId) (x y : ℕ) → net_at_pin n p ≡ Some a → net_at_pin n q ≡ Some b → design p ≡ Some x → design q ≡ Some y → (x ≡ y ↔ AreJoined n a.0 b.0)

-- the pin of a source
abbrev pub pin_of_source : Netlist → Cells → Source → Option Pin
pin_of_source n cells (sources.Port net) = Some (OfPort net)
pin_of_source n cells (sources.Out step) = option_map (λ out. OfInstance step.instance out.pin) (out_pin_at n cells step)

-- the pin of a sink
abbrev pub pin_of_sink : Netlist → Cells → Sink → Option Pin
pin_of_sink n cells (sinks.Port net) = Some (OfPort net)
pin_of_sink n cells (sinks.In instance path) = option_map (λ entered. OfInstance instance entered.input) (scan_path_at n cells instance path)

-- each sink whose source is another stands in the net of its new source, and each other pin where it stood
pub record AreMoved (n : Netlist) (cells : Cells) (old new : List Path) (before after : Placing) : Type 0 where
  pub put : (x : Source) (s : Sink) (p q : Pin) → Contains (moved old new) (x, s) → pin_of_source n cells x ≡ Some p → pin_of_sink n cells s ≡ Some q → after q ≡ before p
  pub kept : (q : Pin) → ((x : Source) (s : Sink) → Contains (moved old new) (x, s) → pin_of_sink n cells s ≡ Some q → ⊥) → after q ≡ before q
