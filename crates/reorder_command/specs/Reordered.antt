-- What is written where the units of a placed design's scan chains get other places: the Verilog and the DEF, and what these texts mean beside
-- the read ones.
use Rattle.std.specs.Prelude.{◌≡◌, ℕ, ◌+◌, Bool, ◌==◌, ◌&&◌, List, [], ◌∷◌, length, Option, Some}
use Rattle.std.specs.List.{list_any}
use Rattle.base_types.specs.declared.fault.Fault.{Fault}
use Rattle.netlist_core.specs.declared.netlist.NetId.{NetId}
use Rattle.netlist_core.specs.declared.netlist.Netlist.{Netlist}
use Rattle.netlist_core.specs.Netlists.{named}
use Rattle.verilog_reader.specs.Denoted.{DenotesNetlist}
use Rattle.cell_table.specs.Cells.{Cells}
use Rattle.lef_pins.specs.Macros.{NamedMacros}
use Rattle.def_reader.specs.declared.design.Design.{Design}
use Rattle.def_reader.specs.Agreement.{Agree}
use Rattle.def_reader.specs.Denoted.{DenotesDesign}
use Rattle.chain_trace.specs.declared.path.Path.{Path}
use Rattle.chain_trace.specs.Paths.{IsScanPath}
use Rattle.chain_trace.specs.Named.{IsSamePath}
use Rattle.chain_rules.specs.declared.plan.Plan.{Plan}
use Rattle.chain_rules.specs.declared.unit.Rules.{Rules}
use Rattle.chain_rules.specs.Legality.{IsLegal}
use Rattle.chain_rules.specs.Rules.{AreRulesOf}
use Rattle.wire_cost.specs.declared.ends.Ends.{Ends}
use Rattle.path_links.specs.Erasure.{erased_netlist}
use Rattle.net_edit.specs.declared.edits.Edits.{Edits}
use Rattle.net_edit.specs.Erased.{without_tails, tails_of, scan_sinks}
use Rattle.net_edit.specs.Tails.{freed_between}
use Rattle.net_edit.specs.Wires.{AreEditsFor, names_of}
use Rattle.plan_paths.specs.NewPaths.{new_paths}
use Rattle.head_chains.specs.Asked.{asked_by}
use Rattle.traced_paths.specs.Traced.{ArePathsOf}
use Rattle.path_numbers.specs.Numbers.{path_specs, is_free_output}
use Rattle.design_elements.specs.Elements.{chain_specs}
use Rattle.design_places.specs.Ends.{ends_of}
use Rattle.design_places.specs.NetPins.{HoldsInNets}
use Rattle.stil_types.specs.declared.head.StilHead.{StilHead}
use Rattle.design_files.specs.Files.{Texts, AreRead, IsHeadIn}
use Rattle.verilog_writer.specs.Wired.{IsWiredText, DeclareBehind}
use Rattle.def_writer.specs.DefTexts.{IsDefText, IsErasedDef}
use Rattle.reorder_command.specs.declared.goal.Goal.{Goal}
use Rattle.reorder_command.specs.declared.figures.Figures.{Figures}
use Rattle.reorder_command.specs.Goals.{fixed_bits, IsGoodFor, AreMeasures}

-- the read files: what they denote, with the head of the patterns where there are some, the paths that are asked for, and the rules and the
-- places of the design's chains
pub record IsChecked (t : Texts) (cells : Cells) (macros : NamedMacros) (n : Netlist) (d : Design) (head : Option StilHead) (paths : List Path) (rules : Rules) : Type 0 where
  pub read : AreRead t cells macros n d
  pub head_is : IsHeadIn t.head head
  pub traced : ArePathsOf n cells (asked_by (Some d) head) paths
  pub rules_are : AreRulesOf (path_specs n cells (Some d) paths) (chain_specs n cells d) rules

-- the output of one of the paths is free to get another source
abbrev pub is_free_port : Netlist → Cells → Design → List Path → NetId → Bool
is_free_port n cells d paths net = list_any (λ p. p.output.0 == net.0 && is_free_output n cells (Some d) p) paths

-- the written Verilog denotes this netlist. But for the scan sinks of the read paths and the tails of freed ports it is the read one: what is
-- declared and what stands at every other pin and assign is the same
pub record IsVerilogOf (verilog : List ℕ) (n : Netlist) (cells : Cells) (d : Design) (paths new : List Path) (edits : Edits) (out : List ℕ) (written : Netlist) : Type 0 where
  pub denoted : DenotesNetlist out written
  pub declared : DeclareBehind verilog (names_of edits) out
  pub erased : erased_netlist (scan_sinks n cells (is_free_port n cells d paths) paths) (without_tails (tails_of n cells (freed_between n cells paths new) (names_of edits)) (named written))
      ≡ erased_netlist (scan_sinks n cells (is_free_port n cells d paths) paths) (named n)

-- paths of the netlists side by side are the same by names, and scan paths of the second
abbrev pub AreSamePaths : Netlist → Netlist → Cells → List Path → List Path → Type 0
AreSamePaths n m cells [] [] = Unit {0}
AreSamePaths n m cells [] (q ∷ qs) = ⊥
AreSamePaths n m cells (p ∷ ps) [] = ⊥
AreSamePaths n m cells (p ∷ ps) (q ∷ qs) = IsScanPath m cells q.output q × IsSamePath n m p q × AreSamePaths n m cells ps qs

-- the plan is read off the paths of the written netlist: those of the read outputs are the paths after the plan, and after no other one
pub record IsReadOff (n written : Netlist) (cells : Cells) (paths after : List Path) (rules : Rules) (plan : Plan) : Type 0 where
  pub same : AreSamePaths n written cells (new_paths paths rules plan) after
  pub only : (other : Plan) → IsLegal rules other → AreSamePaths n written cells (new_paths paths rules other) after → other ≡ plan

-- the written netlist and the written design agree, and the pins of the new paths stand in the design's nets
pub record AgreeAfter (written : Netlist) (cells : Cells) (placed : Design) (after : List Path) : Type 0 where
  pub agree : Agree written placed
  pub standing : (fault : Fault) → HoldsInNets written cells placed after fault → ⊥

-- what is counted of the chains and of the edits
pub record AreFigures (d : Design) (rules : Rules) (edits : Edits) (f : Figures) : Type 0 where
  pub chains : f.chains ≡ length d.chains
  pub units : f.units ≡ length rules.units
  pub pins_moved : f.pins_moved ≡ length edits.pins + (length edits.ports + length edits.tails)

-- what is written of a design: for one legal plan of the read files the Verilog with the edits between the paths before and after it, and the
-- DEF with the sinks moved and the chains in their new order, where so many nets lose a wiring option; both texts agree
pub record IsWrittenDesign (t : Texts) (verilog def : List ℕ) (nets_cut : ℕ) : Type 0 where
  pub cells : Cells
  pub macros : NamedMacros
  pub netlist : Netlist
  pub design : Design
  pub head : Option StilHead
  pub paths : List Path
  pub rules : Rules
  pub checked : IsChecked t cells macros netlist design head paths rules
  pub plan : Plan
  pub legal : IsLegal rules plan
  pub edits : Edits
  pub edits_are : AreEditsFor netlist cells paths (new_paths paths rules plan) edits
  -- the texts
  pub verilog_text : IsWiredText t.verilog netlist cells edits verilog
  pub def_text : IsDefText t.def netlist cells design paths rules plan (record { text = def; nets_cut = nets_cut })
  -- what they denote
  pub written : Netlist
  pub placed : Design
  pub after : List Path
  pub verilog_is : IsVerilogOf t.verilog netlist cells design paths (new_paths paths rules plan) edits verilog written
  pub def_is : DenotesDesign def cells placed
  pub def_erased : IsErasedDef t.def netlist cells design paths (new_paths paths rules plan) def
  pub read_off : IsReadOff netlist written cells paths after rules plan
  pub agree : AgreeAfter written cells placed after

-- the places of the units and the chains of what is written
abbrev pub ends_in : {t : Texts} {verilog def : List ℕ} {nets_cut : ℕ} → IsWrittenDesign t verilog def nets_cut → Ends
ends_in made = ends_of made.netlist made.cells made.macros made.design made.paths made.rules

-- the bits of each of its paths outside all units
abbrev pub fixed_in : {t : Texts} {verilog def : List ℕ} {nets_cut : ℕ} → IsWrittenDesign t verilog def nets_cut → List ℕ
fixed_in made = fixed_bits (path_specs made.netlist made.cells (Some made.design) made.paths) made.rules

-- what is written, by a plan that is what is searched for
pub record IsReordered (goal : Goal) (t : Texts) (verilog def : List ℕ) (figures : Figures) : Type 0 where
  pub made : IsWrittenDesign t verilog def figures.nets_cut
  pub good : IsGoodFor goal made.rules (ends_in made) (fixed_in made) made.plan
  pub figures_are : AreFigures made.design made.rules made.edits figures
  pub measured : AreMeasures goal made.netlist made.paths made.rules (ends_in made) (fixed_in made) made.plan figures.measured
