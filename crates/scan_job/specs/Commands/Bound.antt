-- The command `bound`.
use Rattle.std.specs.Prelude.{◌≡◌, ℕ, ◌≤◌, false, List, [], ◌∷◌, decimal, Option, option_map, IfSome}
use Rattle.desk_io.specs.declared.slot.Slot.TheVariants.{Table, Lef, Verilog, Def}
use Rattle.scan_words.specs.declared.verb.Verb.TheVariants as verbs
use Rattle.scan_words.specs.Table.{value_list}
use Rattle.design_files.specs.Files.{Texts}
use Rattle.design_files.specs.Faults.{HoldsInFiles}
use Rattle.bound_command.specs.Bounds.{IsBoundText}
use Rattle.scan_job.specs.declared.commands.bound.BoundRequest.{BoundRequest}
use Rattle.scan_job.specs.Commands.{Command}
use Rattle.scan_job.specs.Commands.Check.{design_in}

-- the word says a number of rounds
pub record IsRounds (word : List ℕ) : Type 0 where
  pub number : ℕ
  pub few : number ≤ 1000
  pub is : word ≡ decimal number

-- so it does, where there is one
abbrev pub AreRounds : Option (List ℕ) → Type 0
AreRounds word = IfSome word IsRounds

-- the text is that of the files, by so many rounds where a number of them is asked for
pub record IsBounded (word : Option (List ℕ)) (t : Texts) (text : List ℕ) : Type 0 where
  pub rounds : Option ℕ
  pub said : word ≡ option_map decimal rounds
  pub is : IsBoundText t rounds text

-- it tells how short the chains could be at most, with numbers that prove it
abbrev pub bound : BoundRequest → Command
bound r = record {
  order = record { verb = verbs.Bound; values = r.table ∷ r.lef ∷ r.verilog ∷ r.def ∷ value_list r.rounds; further = [] };
  sound = AreRounds r.rounds;
  names = (Table, r.table) ∷ (Lef, r.lef) ∷ (Verilog, r.verilog) ∷ (Def, r.def) ∷ [];
  streams = false;
  holds = λ files. HoldsInFiles (design_in files);
  found_writing = λ kind. ⊥;
  texts = λ files outputs. IsBounded r.rounds (design_in files) outputs.console;
  text_before = λ files fault text. ⊥;
}
