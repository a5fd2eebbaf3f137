-- The command `failmap`.
use Rattle.std.specs.Prelude.{ℕ, false, List, [], ◌∷◌}
use Rattle.base_types.specs.declared.fault.Fault.{Fault}
use Rattle.desk_io.specs.declared.slot.Slot.TheVariants.{Table, Verilog, Stil, NewVerilog, NewStil, Log}
use Rattle.scan_words.specs.declared.verb.Verb.TheVariants as verbs
use Rattle.failmap_command.specs.Faults.{HoldsInFailmap}
use Rattle.failmap_command.specs.Texts.{IsFailmapText}
use Rattle.scan_job.specs.declared.commands.failmap.FailmapRequest.{FailmapRequest}
use Rattle.scan_job.specs.Commands.{Files, Command}
use Rattle.scan_job.specs.Commands.Verify.{Sets, sets_in}

-- the texts of two sets, and a log of the fails of the second
pub record LoggedSets : Type 0 where
  pub sets : Sets
  pub log : List ℕ

-- those of the files
abbrev pub logged_in : Files → LoggedSets
logged_in files = record { sets = sets_in files; log = files Log }

-- a fault of either set, of both beside each other, or of the log
abbrev pub HoldsInLogged : LoggedSets → Fault → Type 0
HoldsInLogged l = HoldsInFailmap l.sets.table l.sets.verilog l.sets.stil l.sets.new_verilog l.sets.new_stil l.log

-- what is said of them: the log of the first set that the log of the second stands for
abbrev pub IsMapped : LoggedSets → List ℕ → Type 0
IsMapped l = IsFailmapText l.sets.table l.sets.verilog l.sets.stil l.sets.new_verilog l.sets.new_stil l.log

-- it carries a log of the fails of the second of two sets, which mean the same, back to the first
abbrev pub failmap : FailmapRequest → Command
failmap r = record {
  order = record { verb = verbs.Failmap; values = r.table ∷ r.verilog ∷ r.stil ∷ r.new_verilog ∷ r.new_stil ∷ r.log ∷ []; further = [] };
  sound = Unit {0};
  names = (Table, r.table) ∷ (Verilog, r.verilog) ∷ (Stil, r.stil) ∷ (NewVerilog, r.new_verilog) ∷ (NewStil, r.new_stil) ∷ (Log, r.log) ∷ [];
  streams = false;
  holds = λ files. HoldsInLogged (logged_in files);
  found_writing = λ kind. ⊥;
  texts = λ files outputs. IsMapped (logged_in files) outputs.console;
  text_before = λ files fault text. ⊥;
}
