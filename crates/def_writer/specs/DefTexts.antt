-- The DEF text of a placed design after a plan of its chains.
use Rattle.std.specs.Prelude.{◌≡◌, ℕ, ◌+◌, Bool, false, ◌&&◌, ◌||◌, List, [], ◌∷◌, map, Some}
use Rattle.std.specs.List.{list_any, slice_get}
use Rattle.std.specs.Str.{bytes_eq}
use Rattle.base_types.specs.declared.fault.Fault.{Fault}
use Rattle.netlist_core.specs.declared.netlist.Netlist.{Netlist}
use Rattle.netlist_core.specs.Netlists.{plain_of}
use Rattle.cell_table.specs.Cells.{Cells}
use Rattle.chain_trace.specs.declared.path.Step.{Step}
use Rattle.chain_trace.specs.declared.path.Path.{Path}
use Rattle.chain_trace.specs.Paths.{scan_path_at}
use Rattle.chain_rules.specs.declared.unit.Rules.{Rules}
use Rattle.chain_rules.specs.declared.plan.Plan.{Plan}
use Rattle.plan_paths.specs.NewPaths.{new_paths}
use Rattle.traced_paths.specs.Traced.{steps_of}
use Rattle.path_numbers.specs.Numbers.{is_free_output}
use Rattle.net_edit.specs.Agreement.{AreMoved}
use Rattle.def_reader.specs.declared.design.Component.{Component}
use Rattle.def_reader.specs.declared.design.NetPin.{NetPin}
use Rattle.def_reader.specs.declared.design.NetPin.TheVariants.{Cell, Port}
use Rattle.def_reader.specs.declared.design.Design.{Design}
use Rattle.def_reader.specs.Denoted.{DenotesDesign}
use Rattle.design_elements.specs.Elements.{chain_specs}
use Rattle.def_writer.specs.Placing.{instance_name, placing}
use Rattle.def_writer.specs.Moved.Moves.{moves_of}
use Rattle.def_writer.specs.Moved.Laws.{ArePinsOnceIn}
use Rattle.design_places.specs.NetPins.{HoldsInNets}
use Rattle.def_edit.specs.declared.pin_moves.PinMove.{PinMove}
use Rattle.def_edit.specs.declared.text.DefOut.{DefOut}
use Rattle.def_edit.specs.MovedText.{IsMovedText}
use Rattle.def_edit.specs.NetChanges.{is_touched}
use Rattle.def_edit.specs.ErasedDef.{Erasing, AreErasedAlike}
use Rattle.def_writer.specs.PlanChains.{input_name, plan_chains}

-- the text in which the sinks with another source after the plan moved to the nets of these, and the chains have their units after the plan
abbrev pub IsDefText : List ℕ → Netlist → Cells → Design → List Path → Rules → Plan → DefOut → Type 0
IsDefText text n cells d paths rules plan out =
    IsMovedText text cells d (moves_of n cells d paths (new_paths paths rules plan)) (plan_chains n cells (chain_specs n cells d) paths rules plan) out

-- the pin is the in pin of the step
abbrev pub is_input_of : Netlist → Cells → NetPin → Step → Bool
is_input_of n cells (Cell component pin) step = bytes_eq (instance_name (slice_get n.instances step.instance)) component && bytes_eq (input_name (scan_path_at n cells step.instance step.path)) pin
is_input_of n cells (Port name) step = false

-- the name is that of the output of a path that is free to get another source
abbrev pub is_free_name : Netlist → Cells → Design → List Path → List ℕ → Bool
is_free_name n cells d paths name = list_any (λ p. bytes_eq (plain_of n.nets p.output) name && is_free_output n cells (Some d) p) paths

-- the pin is a free output
abbrev pub is_free_pin : Netlist → Cells → Design → List Path → NetPin → Bool
is_free_pin n cells d paths (Cell component pin) = false
is_free_pin n cells d paths (Port name) = is_free_name n cells d paths name

-- a net from a number on has the name, and a pin leaves it or comes to it
abbrev pub is_touched_name : List PinMove → ℕ → List (List ℕ) → List ℕ → Bool
is_touched_name moves k [] name = false
is_touched_name moves k (other ∷ others) name = (bytes_eq other name && is_touched moves k) || is_touched_name moves (k + 1) others name

-- what is erased of the text: the in pins of the steps of the read paths, their free outputs, and the nets whose connections change
abbrev pub erasing : Netlist → Cells → Design → List Path → List Path → Erasing
erasing n cells d paths new = record {
  is_sink = λ pin. list_any (is_input_of n cells pin) (steps_of paths) || is_free_pin n cells d paths pin;
  is_free = is_free_name n cells d paths;
  is_changed = is_touched_name (moves_of n cells d paths new) 0 (map (λ net. net.name) d.nets);
}

-- once this is erased, the written text is the read one
abbrev pub IsErasedDef : List ℕ → Netlist → Cells → Design → List Path → List Path → List ℕ → Type 0
IsErasedDef text n cells d paths new out = AreErasedAlike (erasing n cells d paths new) text out

-- a component by its name and its cell
abbrev pub name_and_cell : Component → List ℕ × List ℕ
name_and_cell c = (c.name, c.cell)

-- what the written text denotes: a design with the components of the read one, in whose nets each sink with another source stands in the net
-- of that, and all else where it stood
pub record IsPlacedAfter (n : Netlist) (cells : Cells) (d : Design) (paths new : List Path) (out : List ℕ) : Type 0 where
  pub placed : Design
  pub denoted : DenotesDesign out cells placed
  pub components : map name_and_cell placed.components ≡ map name_and_cell d.components
  pub moved : AreMoved n cells paths new (placing n d) (placing n placed)
  pub once : ArePinsOnceIn placed.nets
  pub standing : (fault : Fault) → HoldsInNets n cells placed new fault → ⊥
