-- The commands `reorder` and `balance` where they are given patterns: these are written anew with the design.
use Rattle.std.specs.Prelude.{◌≡◌, ℕ, ◌≤◌, true, List, [], ◌∷◌, ◌++◌, codes, Some, None}
use Rattle.base_types.specs.declared.fault.Fault.{Fault}
use Rattle.base_types.specs.FirstFault.{IsFirstFault}
use Rattle.base_types.specs.declared.kind.Kind.{Kind}
use Rattle.base_types.specs.Faults.{number_of}
use Rattle.desk_io.specs.declared.slot.Slot.TheVariants.{Table, Lef, Verilog, Def, Stil, OutVerilog, OutDef, OutStil}
use Rattle.desk_io.specs.declared.outputs.Outputs.{Outputs}
use Rattle.desk_io.specs.Names.{Names}
use Rattle.stil_reader.specs.Sayings.{Told, told_whole}
use Rattle.stil_reader.specs.Patterns.{statements_in}
use Rattle.stil_written.specs.Written.{written_says}
use Rattle.retargeted_patterns.specs.Figures.{figures_of}
use Rattle.design_files.specs.Files.{Texts, with_head}
use Rattle.design_files.specs.Faults.{HoldsInFiles}
use Rattle.reorder_command.specs.declared.figures.Figures.{Figures}
use Rattle.reorder_command.specs.declared.patterns.PatternPlan.{PatternPlan}
use Rattle.reorder_command.specs.PatternPlans.{IsReorderedWith}
use Rattle.retargeted_patterns.specs.declared.figures.PatternFigures.{PatternFigures}
use Rattle.declared_chains.specs.Files.{IsHeadText}
use Rattle.declared_chains.specs.Faults.{IsPatternFault}
use Rattle.written_meaning.specs.Meaning.{KeepsMeaning, form_of}
use Rattle.scan_job.specs.declared.commands.patterns.PatternsRequest.{PatternsRequest}
use Rattle.scan_job.specs.Commands.{Command}
use Rattle.scan_job.specs.Commands.Check.{design_in}
use Rattle.scan_job.specs.Commands.Reorder.{goal_verb, design_values, figure_line, figures_text}

-- a fault of the files: of the design and the head of the patterns, or of the patterns, which are judged behind these
pub data HoldsInRetargeting (t : Texts) (stil : List ℕ) (fault : Fault) : Type 0 where
  Before : (text : List ℕ) → IsHeadText stil text → HoldsInFiles (with_head t text) fault → HoldsInRetargeting t stil fault
  OfPatterns : (text : List ℕ) → IsHeadText stil text → IsPatternFault stil text fault → HoldsInRetargeting t stil fault

-- the kinds of faults of patterns: PatternSyntax to PatternSize
abbrev pub IsPatternKind : Kind → Type 0
IsPatternKind kind = (80 ≤ number_of kind) × (number_of kind ≤ 88)

-- what is counted of the patterns: their scan calls, and how often these shift as read and as written
abbrev pub figures_in : PatternPlan → Told → PatternFigures
figures_in plan told = figures_of plan.map.0 plan.map.1 (statements_in told.says)

-- the lines of the patterns' figures
abbrev pub pattern_lines : PatternFigures → List ℕ
pattern_lines f = figure_line (codes "calls") f.calls ++ figure_line (codes "shifts_read") f.shifts_read ++ figure_line (codes "shifts_written") f.shifts_written

-- what is said with patterns
abbrev pub all_figures_text : Figures → PatternFigures → List ℕ
all_figures_text figures patterns = figures_text figures ++ pattern_lines patterns

-- The outputs are those of the command with patterns, all of one plan: the Verilog and the DEF, and the STIL with the declarations of the
-- new paths and with each scan call retargeted to them. Where the patterns have no fault, both STIL texts mean the same, each on the scan
-- chains of its netlist; and they have none where the files have none.
pub record AreRetargeted (r : PatternsRequest) (t : Texts) (stil : List ℕ) (outputs : Outputs) : Type 0 where
  pub text : List ℕ
  pub head_is : IsHeadText stil text
  pub figures : Figures
  pub plan : PatternPlan
  pub made : IsReorderedWith r.design.goal (with_head t text) outputs.verilog outputs.def figures (Some plan)
  pub stil_text : outputs.stil ≡ written_says (form_of plan) (told_whole plan.head stil).says
  pub sound : ((fault : Fault) → IsFirstFault (HoldsInRetargeting t stil) fault → ⊥) → (told_whole plan.head stil).fault ≡ None
  pub meaning : (told_whole plan.head stil).fault ≡ None
      → KeepsMeaning made.reordered.made.netlist made.reordered.made.written made.reordered.made.cells made.reordered.made.paths made.reordered.made.after stil outputs.stil
  pub console : outputs.console ≡ all_figures_text figures (figures_in plan (told_whole plan.head stil))

-- the written form of what stands before the refused statement, by such a plan: all that the text says before its fault
pub record IsWrittenBefore (r : PatternsRequest) (t : Texts) (stil text : List ℕ) : Type 0 where
  pub outputs : Outputs
  pub are : AreRetargeted r t stil outputs
  pub is : text ≡ outputs.stil

-- the files that are taken whole, before the patterns are read
abbrev pub first_names : PatternsRequest → Names
first_names r = (Table, r.design.table) ∷ (Lef, r.design.lef) ∷ (Verilog, r.design.verilog) ∷ (Def, r.design.def) ∷ []

-- the files that are written whole, behind the patterns
abbrev pub last_names : PatternsRequest → Names
last_names r = (OutVerilog, r.design.out_verilog) ∷ (OutDef, r.design.out_def) ∷ []

-- it puts the units of a placed design's scan chains into another order, by which they are shorter or the longest path is, and retargets its patterns
abbrev pub reorder_patterns : PatternsRequest → Command
reorder_patterns r = record {
  order = record { verb = goal_verb r.design.goal; values = design_values r.design (r.stil ∷ r.out_stil ∷ []); further = [] };
  sound = Unit {0};
  names = (Table, r.design.table) ∷ (Lef, r.design.lef) ∷ (Verilog, r.design.verilog) ∷ (Def, r.design.def) ∷ (Stil, r.stil)
      ∷ (OutStil, r.out_stil) ∷ (OutVerilog, r.design.out_verilog) ∷ (OutDef, r.design.out_def) ∷ [];
  streams = true;
  holds = λ files. HoldsInRetargeting (design_in files) (files Stil);
  found_writing = IsPatternKind;
  texts = λ files outputs. AreRetargeted r (design_in files) (files Stil) outputs;
  text_before = λ files fault text. IsWrittenBefore r (design_in files) (files Stil) text;
}
