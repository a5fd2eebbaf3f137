-- The command `check`.
use Rattle.std.specs.Prelude.{false, [], ◌∷◌}
use Rattle.desk_io.specs.declared.slot.Slot.TheVariants.{Table, Lef, Verilog, Def}
use Rattle.scan_words.specs.declared.verb.Verb.TheVariants as verbs
use Rattle.design_files.specs.Files.{Texts, texts_of}
use Rattle.design_files.specs.Faults.{HoldsInFiles}
use Rattle.check_command.specs.Checks.{IsCheckText}
use Rattle.scan_job.specs.declared.commands.check.CheckRequest.{CheckRequest}
use Rattle.scan_job.specs.Commands.{Files, Command}

-- the files of a placed design
abbrev pub design_in : Files → Texts
design_in files = texts_of (files Table) (files Lef) (files Verilog) (files Def)

-- it tells whether a placed design, its scan chains and its netlist agree, and how long the chains are
abbrev pub check : CheckRequest → Command
check r = record {
  order = record { verb = verbs.Check; values = r.table ∷ r.lef ∷ r.verilog ∷ r.def ∷ []; further = [] };
  sound = Unit {0};
  names = (Table, r.table) ∷ (Lef, r.lef) ∷ (Verilog, r.verilog) ∷ (Def, r.def) ∷ [];
  streams = false;
  holds = λ files. HoldsInFiles (design_in files);
  found_writing = λ kind. ⊥;
  texts = λ files outputs. IsCheckText (design_in files) outputs.console;
  text_before = λ files fault text. ⊥;
}
