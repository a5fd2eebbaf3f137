-- The commands `reorder` and `balance`.
use Rattle.std.specs.Prelude.{◌≡◌, ℕ, false, List, [], ◌∷◌, ◌++◌, codes, Option, Some, None}
use Rattle.std.specs.List.{flat_map}
use Rattle.std.specs.Fmt.{decimal}
use Rattle.desk_io.specs.declared.slot.Slot.TheVariants.{Table, Lef, Verilog, Def, OutVerilog, OutDef}
use Rattle.desk_io.specs.declared.outputs.Outputs.{Outputs}
use Rattle.order_search.specs.declared.effort.Effort.{Effort}
use Rattle.order_search.specs.declared.effort.Effort.TheVariants as efforts
use Rattle.scan_words.specs.declared.verb.Verb.{Verb}
use Rattle.scan_words.specs.declared.verb.Verb.TheVariants as verbs
use Rattle.scan_words.specs.Form.{Text}
use Rattle.design_files.specs.Files.{Texts}
use Rattle.design_files.specs.Faults.{HoldsInFiles}
use Rattle.reorder_command.specs.declared.goal.Goal.{Goal}
use Rattle.reorder_command.specs.declared.goal.Goal.TheVariants as goals
use Rattle.reorder_command.specs.declared.figures.Figures.{Figures}
use Rattle.reorder_command.specs.declared.figures.Measured.{Measured}
use Rattle.reorder_command.specs.declared.figures.Measured.TheVariants.{Lengths, Longest}
use Rattle.reorder_command.specs.Reordered.{IsReordered}
use Rattle.scan_job.specs.declared.commands.reorder.ReorderRequest.{ReorderRequest}
use Rattle.scan_job.specs.Commands.{Command}
use Rattle.scan_job.specs.Commands.Check.{design_in}

-- the word of an effort
abbrev pub effort_word : Effort → List ℕ
effort_word efforts.Order = codes "order"
effort_word efforts.Full = codes "full"

-- a word, a blank, a number and a line feed
abbrev pub figure_line : List ℕ → ℕ → List ℕ
figure_line word number = word ++ 32 ∷ (decimal number ++ 10 ∷ [])

-- the lines of what is measured of the plan
abbrev pub measured_text : Measured → List ℕ
measured_text (Lengths l) = figure_line (codes "length_read") l.read ++ figure_line (codes "length_nearest") l.nearest ++ figure_line (codes "length_written") l.written
measured_text (Longest l) = figure_line (codes "longest_read") l.read ++ figure_line (codes "longest_written") l.written

-- each name behind a blank
abbrev pub names_text : List (List ℕ) → List ℕ
names_text names = flat_map (λ name. 32 ∷ name) names

-- `cut` and the names of some ports, or `none`
abbrev pub cut_names : Option (List (List ℕ)) → List ℕ
cut_names None = codes " none"
cut_names (Some names) = names_text names

-- the line of the ports that show that no plan has a shorter longest path
abbrev pub cut_line : Option (List (List ℕ)) → List ℕ
cut_line cut = codes "cut" ++ cut_names cut ++ 10 ∷ []

-- it stands where the longest path is what counts
abbrev pub cut_text : Measured → List ℕ
cut_text (Lengths l) = []
cut_text (Longest l) = cut_line l.cut

-- what is said: a line for each figure
abbrev pub figures_text : Figures → List ℕ
figures_text f =
    figure_line (codes "chains") f.chains ++ figure_line (codes "units") f.units ++ measured_text f.measured ++ figure_line (codes "pins_moved") f.pins_moved
    ++ figure_line (codes "nets_cut") f.nets_cut ++ cut_text f.measured

-- the outputs are those of the command, all of one plan
pub record AreReordered (r : ReorderRequest) (t : Texts) (outputs : Outputs) : Type 0 where
  pub figures : Figures
  pub reordered : IsReordered r.goal t outputs.verilog outputs.def figures
  pub console : outputs.console ≡ figures_text figures

-- the command of a goal
abbrev pub goal_verb : Goal → Verb
goal_verb (goals.Shorter effort) = verbs.Reorder
goal_verb goals.Balanced = verbs.Balance

-- what its words say of a goal besides
abbrev pub goal_values : Goal → List Text
goal_values (goals.Shorter effort) = effort_word effort ∷ []
goal_values goals.Balanced = []

-- the values of the words that ask for this of a design, with others behind them
abbrev pub design_values : ReorderRequest → List Text → List Text
design_values r others = r.table ∷ r.lef ∷ r.verilog ∷ r.def ∷ r.out_verilog ∷ r.out_def ∷ goal_values r.goal ++ others

-- what is asked for by the names of the files
abbrev pub design_request : Text → Text → Text → Text → Text → Text → Goal → ReorderRequest
design_request table lef verilog def out_verilog out_def goal =
    record { table = table; lef = lef; verilog = verilog; def = def; out_verilog = out_verilog; out_def = out_def; goal = goal }

-- it puts the units of a placed design's scan chains into another order, by which they are shorter or the longest path is
abbrev pub reorder : ReorderRequest → Command
reorder r = record {
  order = record { verb = goal_verb r.goal; values = design_values r []; further = [] };
  sound = Unit {0};
  names = (Table, r.table) ∷ (Lef, r.lef) ∷ (Verilog, r.verilog) ∷ (Def, r.def) ∷ (OutVerilog, r.out_verilog) ∷ (OutDef, r.out_def) ∷ [];
  streams = false;
  holds = λ files. HoldsInFiles (design_in files);
  found_writing = λ kind. ⊥;
  texts = λ files outputs. AreReordered r (design_in files) outputs;
  text_before = λ files fault text. ⊥;
}
