-- The command `rewire`.
use Rattle.std.specs.Prelude.{◌≡◌, ◌≢◌, ℕ, false, List, [], ◌∷◌, ◌++◌, codes}
use Rattle.std.specs.Fmt.{decimal}
use Rattle.desk_io.specs.declared.slot.Slot.TheVariants.{Verilog, OutVerilog}
use Rattle.desk_io.specs.declared.outputs.Outputs.{Outputs}
use Rattle.scan_words.specs.declared.verb.Verb.TheVariants as verbs
use Rattle.rewire_command.specs.declared.rewire.Rewire.{Rewire}
use Rattle.rewire_command.specs.Faults.{HoldsInRewire}
use Rattle.rewire_command.specs.Rewiring.{IsRewired, AreErasedAlike, HasPath}
use Rattle.scan_job.specs.declared.commands.rewire.RewireRequest.{RewireRequest}
use Rattle.scan_job.specs.Commands.{Command}

-- what `rewire` is asked to do with the Verilog
abbrev pub rewire_of : RewireRequest → Rewire
rewire_of r = record {
  cell = r.cell;
  in_pin = r.in_pin;
  out_pin = r.out_pin;
  scan_in = r.scan_in;
  scan_out = r.scan_out;
  units = r.units;
}

-- what `rewire` says: how many in pins and ports it edited
abbrev pub moved_text : ℕ → List ℕ
moved_text moved = codes "moved " ++ decimal moved ++ 10 ∷ []

-- the outputs are those of `rewire`: each text that it writes
pub record AreRewired (r : RewireRequest) (verilog : List ℕ) (outputs : Outputs) : Type 0 where
  pub moved : ℕ
  pub rewired : IsRewired verilog (rewire_of r) outputs.verilog moved
  pub console : outputs.console ≡ moved_text moved
  -- but for the scan sinks of the path, the written netlist is the read one
  pub erased : AreErasedAlike verilog (rewire_of r) outputs.verilog
  -- and its scan path has the instances in the order of the words
  pub path : HasPath outputs.verilog (rewire_of r) r.units

-- it puts the units of one chain of one cell kind into another order
abbrev pub rewire : RewireRequest → Command
rewire r = record {
  order = record {
    verb = verbs.Rewire;
    values = r.verilog ∷ r.cell ∷ r.in_pin ∷ r.out_pin ∷ r.scan_in ∷ r.scan_out ∷ r.out_verilog ∷ [];
    further = r.units;
  };
  sound = r.in_pin ≢ r.out_pin;
  names = (Verilog, r.verilog) ∷ (OutVerilog, r.out_verilog) ∷ [];
  streams = false;
  holds = λ files. HoldsInRewire (files Verilog) (rewire_of r);
  found_writing = λ kind. ⊥;
  texts = λ files outputs. AreRewired r (files Verilog) outputs;
  text_before = λ files fault text. ⊥;
}
