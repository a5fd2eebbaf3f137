-- The command `trace`.
use Rattle.std.specs.Prelude.{false, [], ◌∷◌}
use Rattle.desk_io.specs.declared.slot.Slot.TheVariants.{Table, Verilog}
use Rattle.scan_words.specs.declared.verb.Verb.TheVariants as verbs
use Rattle.trace_command.specs.Reports.{HoldsInTrace, IsPathText}
use Rattle.scan_job.specs.declared.commands.trace.TraceRequest.{TraceRequest}
use Rattle.scan_job.specs.Commands.{Command}

-- it tells the scan path of one scan output
abbrev pub trace : TraceRequest → Command
trace r = record {
  order = record { verb = verbs.Trace; values = r.table ∷ r.verilog ∷ r.scan_out ∷ []; further = [] };
  sound = Unit {0};
  names = (Table, r.table) ∷ (Verilog, r.verilog) ∷ [];
  streams = false;
  holds = λ files. HoldsInTrace (files Table) (files Verilog) r.scan_out;
  found_writing = λ kind. ⊥;
  texts = λ files outputs. IsPathText (files Table) (files Verilog) r.scan_out outputs.console;
  text_before = λ files fault text. ⊥;
}
