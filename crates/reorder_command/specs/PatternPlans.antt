-- What is planned for the patterns of a design: the head that is written, and the chains between which scan calls move.
use Rattle.std.specs.Prelude.{◌≡◌, ◌≤◌, ℕ, List, Option, Some, None}
use Rattle.netlist_core.specs.declared.netlist.Netlist.{Netlist}
use Rattle.cell_table.specs.Cells.{Cells}
use Rattle.chain_trace.specs.declared.path.Path.{Path}
use Rattle.path_chains.specs.Ranked.{chains_along}
use Rattle.def_reader.specs.declared.design.Design.{Design}
use Rattle.traced_paths.specs.Bits.{all_bits}
use Rattle.stil_types.specs.declared.head.StilHead.{StilHead}
use Rattle.stil_head.specs.Ends.{head_text}
use Rattle.stil_calls.specs.Scans.{bits_of}
use Rattle.stil_tester.specs.Shifting.{bit_counts}
use Rattle.retarget.specs.Retargeting.{HaveSameCells}
use Rattle.head_text.specs.Written.{written_head}
use Rattle.head_writer.specs.Fits.{FitsPaths, AreNewFor, chains_for}
use Rattle.plan_paths.specs.NewPaths.{new_paths}
use Rattle.chain_rules.specs.declared.plan.Plan.{Plan}
use Rattle.design_files.specs.declared.read.DesignFiles.{DesignFiles}
use Rattle.design_files.specs.Files.{Texts}
use Rattle.reorder_command.specs.declared.goal.Goal.{Goal}
use Rattle.reorder_command.specs.declared.figures.Figures.{Figures}
use Rattle.reorder_command.specs.declared.patterns.PatternPlan.{PatternPlan}
use Rattle.reorder_command.specs.Reordered.{IsWrittenDesign, IsReordered}

-- a head denotes what stands beside the read paths without a fault, and the new paths are these rearranged, each with a bit
pub record AreMovable (n : Netlist) (cells : Cells) (d : Option Design) (paths new : List Path) (text : List ℕ) (head : StilHead) : Type 0 where
  pub fits : FitsPaths text head n cells d paths
  pub anew : AreNewFor n cells paths new
  pub few : all_bits n cells paths ≤ 262144

-- the plan for patterns: their head as it is read, its text with what it is to say of the chains along the new paths, and the chains along the
-- read paths and the new ones, which the calls of the head's patterns fit
pub record IsPatternPlan (n : Netlist) (cells : Cells) (paths new : List Path) (text : List ℕ) (head : StilHead) (plan : PatternPlan) : Type 0 where
  pub head_is : plan.head ≡ head
  pub text_is : plan.head_text ≡ written_head (chains_for (head_text text) head n cells paths new) head (head_text text)
  pub chains : plan.map ≡ (chains_along n cells paths, chains_along n cells new)
  pub same_cells : HaveSameCells (chains_along n cells paths) (chains_along n cells new)
  pub fits : bit_counts (chains_along n cells paths) ≡ bits_of head.chains

-- patterns are planned for exactly where there is a head
abbrev pub ArePatternsPlanned : Netlist → Cells → List Path → List Path → Option (List ℕ) → Option StilHead → Option PatternPlan → Type 0
ArePatternsPlanned n cells paths new (Some text) (Some head) (Some plan) = IsPatternPlan n cells paths new text head plan
ArePatternsPlanned n cells paths new None None None = Unit {0}
ArePatternsPlanned n cells paths new text head plan = ⊥

-- what is planned for patterns beside a written design: by the plan of its chains
abbrev pub ArePlannedBeside : {t : Texts} {verilog def : List ℕ} {nets_cut : ℕ} → IsWrittenDesign t verilog def nets_cut → Option PatternPlan → Type 0
ArePlannedBeside {t} made patterns =
    ArePatternsPlanned made.netlist made.cells made.paths (new_paths made.paths made.rules made.plan) t.head made.head patterns

-- what is written of the design, and what is planned for its patterns: all by one plan of the chains
pub record IsReorderedWith (goal : Goal) (t : Texts) (verilog def : List ℕ) (figures : Figures) (patterns : Option PatternPlan) : Type 0 where
  pub reordered : IsReordered goal t verilog def figures
  pub planned : ArePlannedBeside reordered.made patterns

-- what is written of a plan of checked files: beside what is planned for patterns by the same plan
abbrev pub IsMadeFor : DesignFiles → Plan → Goal → Texts → List ℕ → List ℕ → Figures → Type 0
IsMadeFor f plan goal t verilog def figures =
    (patterns : Option PatternPlan) → ArePatternsPlanned f.netlist f.table f.paths.items (new_paths f.paths.items f.rules plan) t.head f.head patterns → IsReorderedWith goal t verilog def figures patterns
