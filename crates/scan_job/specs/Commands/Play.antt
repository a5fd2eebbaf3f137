-- The command `play`.
use Rattle.std.specs.Prelude.{ℕ, true, List, [], ◌∷◌, codes}
use Rattle.desk_io.specs.declared.slot.Slot.TheVariants.{Table, Verilog, Stil}
use Rattle.desk_io.specs.Names.{Names}
use Rattle.scan_words.specs.declared.verb.Verb.TheVariants as verbs
use Rattle.play_command.specs.declared.device.DeviceKind.{DeviceKind}
use Rattle.play_command.specs.declared.device.DeviceKind.TheVariants as devices
use Rattle.declared_chains.specs.Faults.{HoldsInPlay}
use Rattle.play_command.specs.Files.{IsPlayText}
use Rattle.scan_job.specs.declared.commands.play.PlayRequest.{PlayRequest}
use Rattle.scan_job.specs.Commands.{Command}

-- the word of a device
abbrev pub device_word : DeviceKind → List ℕ
device_word devices.Hold = codes "hold"
device_word devices.Mix = codes "mix"

-- the files that are taken whole, before the patterns are read
abbrev pub first_names : PlayRequest → Names
first_names r = (Table, r.table) ∷ (Verilog, r.verilog) ∷ []

-- it plays patterns on the scan chains of a netlist, cell by cell
abbrev pub play : PlayRequest → Command
play r = record {
  order = record { verb = verbs.Play; values = r.table ∷ r.verilog ∷ r.stil ∷ device_word r.device ∷ []; further = [] };
  sound = Unit {0};
  names = (Table, r.table) ∷ (Verilog, r.verilog) ∷ (Stil, r.stil) ∷ [];
  streams = true;
  holds = λ files. HoldsInPlay (files Table) (files Verilog) (files Stil);
  found_writing = λ kind. ⊥;
  texts = λ files outputs. IsPlayText (files Table) (files Verilog) (files Stil) r.device outputs.console;
  text_before = λ files fault text. ⊥;
}
