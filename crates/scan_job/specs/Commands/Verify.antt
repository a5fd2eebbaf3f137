-- The command `verify`.
use Rattle.std.specs.Prelude.{◌≡◌, ◌↔◌, ℕ, false, List, [], ◌∷◌}
use Rattle.base_types.specs.declared.fault.Fault.{Fault}
use Rattle.desk_io.specs.declared.slot.Slot.TheVariants.{Table, Verilog, Stil, NewVerilog, NewStil}
use Rattle.scan_words.specs.declared.verb.Verb.TheVariants as verbs
use Rattle.same_files.specs.Same.{AreSameFiles}
use Rattle.verify_command.specs.Faults.{HoldsInVerify}
use Rattle.verify_command.specs.Texts.{IsVerifyText, same_text}
use Rattle.scan_job.specs.declared.commands.verify.VerifyRequest.{VerifyRequest}
use Rattle.scan_job.specs.Commands.{Files, Command}

-- the texts of two sets, which have one cell table
pub record Sets : Type 0 where
  pub table : List ℕ
  pub verilog : List ℕ
  pub stil : List ℕ
  pub new_verilog : List ℕ
  pub new_stil : List ℕ

-- those of the files
abbrev pub sets_in : Files → Sets
sets_in files = record { table = files Table; verilog = files Verilog; stil = files Stil; new_verilog = files NewVerilog; new_stil = files NewStil }

-- a fault of either set
abbrev pub HoldsInSets : Sets → Fault → Type 0
HoldsInSets s = HoldsInVerify s.table s.verilog s.stil s.new_verilog s.new_stil

-- what is said of them: whether both mean the same, and where they don't what differs first
pub record IsVerified (s : Sets) (text : List ℕ) : Type 0 where
  pub same : (text ≡ same_text) ↔ AreSameFiles s.table s.verilog s.stil s.new_verilog s.new_stil
  pub says : IsVerifyText s.table s.verilog s.stil s.new_verilog s.new_stil text

-- it tells whether two sets of a netlist and its patterns mean the same
abbrev pub verify : VerifyRequest → Command
verify r = record {
  order = record { verb = verbs.Verify; values = r.table ∷ r.verilog ∷ r.stil ∷ r.new_verilog ∷ r.new_stil ∷ []; further = [] };
  sound = Unit {0};
  names = (Table, r.table) ∷ (Verilog, r.verilog) ∷ (Stil, r.stil) ∷ (NewVerilog, r.new_verilog) ∷ (NewStil, r.new_stil) ∷ [];
  streams = false;
  holds = λ files. HoldsInSets (sets_in files);
  found_writing = λ kind. ⊥;
  texts = λ files outputs. IsVerified (sets_in files) outputs.console;
  text_before = λ files fault text. ⊥;
}
