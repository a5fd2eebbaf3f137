-- The lines at which the paths of a netlist fail a check, as the code goes over them.
use Rattle.std.specs.Prelude.{◌≡◌, ◌⊎◌, ℕ, Bool, true, is_none, List, Contains}
use Rattle.std.specs.List.{find, slice_get}
use Rattle.std.specs.Str.{bytes_eq}
use Rattle.netlist_core.specs.declared.netlist.NetId.{NetId}
use Rattle.netlist_core.specs.declared.netlist.Netlist.{Netlist}
use Rattle.cell_table.specs.Cells.{Cells, ◌>>=◌}
use Rattle.chain_trace.specs.declared.path.Path.{Path}
use Rattle.chain_trace.specs.declared.path.Step.{Step}
use Rattle.chain_trace.specs.declared.path.Sink.TheVariants as sinks
use Rattle.chain_trace.specs.Faults.{sink_line}
use Rattle.def_reader.specs.declared.design.Component.{Component}
use Rattle.def_reader.specs.declared.design.Design.{Design}
use Rattle.lef_pins.specs.Macros.{NamedMacros}
use Rattle.design_places.specs.Ends.{placed_of}
use Rattle.design_places.specs.NetPins.{lacks_in_net, lacks_out_net, lacks_port}

-- one of the members fails on this line
pub record ForOne {X : Type 0} (P : X → ℕ → Type 0) (xs : List X) (line : ℕ) : Type 0 where
  pub one : X
  pub there : Contains xs one
  pub fails : P one line

-- the test holds, and the line is this one
abbrev pub FailsAt : Bool → ℕ → ℕ → Type 0
FailsAt bad at line = (bad ≡ true) × (line ≡ at)

-- the line of the instance of a step
abbrev pub step_line : Netlist → Step → ℕ
step_line n step = sink_line n (sinks.In step.instance step.path)

-- an instance has no component that is placed and has a macro
abbrev pub nowhere_in : Netlist → NamedMacros → List Component → ℕ → Bool
nowhere_in n macros components instance =
    is_none (slice_get n.instances instance >>= λ placed. find (λ c. bytes_eq c.name placed.name) components >>= placed_of macros)

-- nor has that of a step
abbrev pub IsNowhere : Netlist → NamedMacros → List Component → Step → ℕ → Type 0
IsNowhere n macros components step line = FailsAt (nowhere_in n macros components step.instance) (step_line n step) line

-- nor that of a step of a path
abbrev pub GoesNowhere : Netlist → NamedMacros → List Component → Path → ℕ → Type 0
GoesNowhere n macros components path line = ForOne (IsNowhere n macros components) path.steps line

-- a netlist with the table of its cells, and a design
pub record Traced : Type 0 where
  pub netlist : Netlist
  pub cells : Cells
  pub design : Design

-- a pin of a step is in no net
abbrev pub StepLacks : Traced → Step → ℕ → Type 0
StepLacks t step line =
    FailsAt (lacks_in_net t.netlist t.cells t.design step) (step_line t.netlist step) line ⊎ FailsAt (lacks_out_net t.netlist t.cells t.design step) (step_line t.netlist step) line

-- a port isn't as it should be in the nets
abbrev pub PortLacks : Traced → NetId → ℕ → Type 0
PortLacks t net line = FailsAt (lacks_port t.netlist t.design net) (sink_line t.netlist (sinks.Port net)) line

-- so is a pin of one of the steps, or one of the ports
abbrev pub PathLacks : Traced → Path → ℕ → Type 0
PathLacks t path line = ForOne (StepLacks t) path.steps line ⊎ (PortLacks t path.input line ⊎ PortLacks t path.output line)
