-- The edits between several paths as the code has them, with wires in place of the numbers of nets and of tails.
use Rattle.std.specs.Prelude.{◌≡◌, ℕ, ◌+◌, ◌<◌, Bool, List, [], ◌∷◌, length, map, Some}
use Rattle.std.specs.List.{AllByRecursion as Each}
use Rattle.netlist_core.specs.declared.netlist.NetId.{NetId}
use Rattle.netlist_core.specs.declared.netlist.Netlist.{Netlist}
use Rattle.netlist_core.specs.Netlists.{named}
use Rattle.cell_table.specs.declared.paths.OutPin.{OutPin}
use Rattle.cell_table.specs.Cells.{Cells}
use Rattle.chain_trace.specs.declared.path.Step.{Step}
use Rattle.chain_trace.specs.declared.path.Path.{Path}
use Rattle.chain_trace.specs.declared.path.Source.TheVariants as sources
use Rattle.chain_trace.specs.Paths.{out_pin_at}
use Rattle.path_links.specs.declared.edits.PinEdit.{PinEdit as NumberedPinEdit}
use Rattle.path_links.specs.declared.edits.PortEdit.{PortEdit as NumberedPortEdit}
use Rattle.path_links.specs.Erasure.{erased_netlist}
use Rattle.net_edit.specs.declared.edits.Wire.{Wire}
use Rattle.net_edit.specs.declared.edits.Wire.TheVariants.{Net, Tail}
use Rattle.net_edit.specs.declared.edits.PinEdit.{PinEdit}
use Rattle.net_edit.specs.declared.edits.PortEdit.{PortEdit}
use Rattle.net_edit.specs.declared.edits.TailEdit.{TailEdit}
use Rattle.net_edit.specs.declared.edits.Edits.{Edits}
use Rattle.net_edit.specs.Changes.{Change, new_net}
use Rattle.net_edit.specs.Tails.{freed_between, pin_edits, port_edits, rewired}
use Rattle.net_edit.specs.Erased.{without_tails, tails_of, scan_sinks}
use Rattle.net_edit.specs.TailNames.{AreLeastNames}

-- the number of a wire's net; the tails stand behind the nets of the netlist
abbrev pub net_of_wire : Netlist → Wire → NetId
net_of_wire n (Net net) = net
net_of_wire n (Tail tail) = record { 0 = length n.nets + tail }

-- the wire is a net of the netlist, or one of so many tails
abbrev pub IsWire : Netlist → ℕ → Wire → Type 0
IsWire n tails (Net net) = net.0 < length n.nets
IsWire n tails (Tail tail) = tail < tails

-- the edit of an in pin with the number of its wire's net
abbrev pub numbered_pin : Netlist → PinEdit → NumberedPinEdit
numbered_pin n e = record { instance = e.instance; path = e.path; source = net_of_wire n e.source }

-- the edit of a port with the number of its wire's net
abbrev pub numbered_port : Netlist → PortEdit → NumberedPortEdit
numbered_port n e = record { port = e.port; assign = e.assign; source = net_of_wire n e.source }

-- the tail of a freed port: it stands at the out pin of the port's old source, and the port gets the new net of its new one
pub record IsTailOf (n : Netlist) (cells : Cells) (fs : List Change) (c : Change) (t : TailEdit) : Type 0 where
  pub port : t.port ≡ c.port
  pub step : Step
  pub was : c.was ≡ sources.Out step
  pub out : OutPin
  pub out_is : out_pin_at n cells step ≡ Some out
  pub instance : t.instance ≡ step.instance
  pub pin : t.pin ≡ out.pin
  pub source : new_net n cells (length n.nets) fs c.now ≡ Some (net_of_wire n t.source)

-- the tails of changed outputs, one for each in their order
abbrev pub AreTailsOf : Netlist → Cells → List Change → List Change → List TailEdit → Type 0
AreTailsOf n cells fs [] [] = Unit {0}
AreTailsOf n cells fs [] (t ∷ ts) = ⊥
AreTailsOf n cells fs (c ∷ cs) [] = ⊥
AreTailsOf n cells fs (c ∷ cs) (t ∷ ts) = IsTailOf n cells fs c t × AreTailsOf n cells fs cs ts

-- the names of the tails
abbrev pub names_of : Edits → List (List ℕ)
names_of edits = map (λ t. t.tail) edits.tails

-- the edits between the paths: those of in pins and of assigned ports in the order of the new paths, and a tail for each freed
-- port in the order of the paths, with the least names; each wire is there
pub record AreEditsFor (n : Netlist) (cells : Cells) (old new : List Path) (edits : Edits) : Type 0 where
  pub pins : map (numbered_pin n) edits.pins ≡ pin_edits n cells old new
  pub ports : map (numbered_port n) edits.ports ≡ port_edits n cells old new
  pub tails : AreTailsOf n cells (freed_between n cells old new) (freed_between n cells old new) edits.tails
  pub names : AreLeastNames n (names_of edits)
  pub pin_wires : Each (λ e. IsWire n (length edits.tails) e.source) edits.pins
  pub port_wires : Each (λ e. IsWire n (length edits.tails) e.source) edits.ports
  pub tail_wires : Each (λ t. IsWire n (length edits.tails) t.source) edits.tails

-- but for the scan sinks of the old paths and the tails, the netlist with the edits is the one that was read
abbrev pub IsErasedAlike : Netlist → Cells → (NetId → Bool) → List Path → List Path → List (List ℕ) → Type 0
IsErasedAlike n cells free old new names =
    erased_netlist (scan_sinks n cells free old) (without_tails (tails_of n cells (freed_between n cells old new) names) (named (rewired n cells names old new)))
    ≡ erased_netlist (scan_sinks n cells free old) (named n)
