-- The command `bench`: `reorder` with patterns and full effort on a made design.
use Rattle.std.specs.Prelude.{◌≡◌, ℕ, ◌≤◌, false, List, [], ◌∷◌, ◌++◌, codes, decimal}
use Rattle.base_types.specs.declared.fault.Fault.{Fault}
use Rattle.order_search.specs.declared.effort.Effort.TheVariants as efforts
use Rattle.reorder_command.specs.declared.goal.Goal.TheVariants as goals
use Rattle.desk_io.specs.declared.outputs.Outputs.{Outputs}
use Rattle.design_files.specs.Files.{Texts, texts_of}
use Rattle.design_maker.specs.Made.{made_files}
use Rattle.scan_words.specs.declared.verb.Verb.TheVariants as verbs
use Rattle.scan_job.specs.declared.commands.bench.BenchRequest.{BenchRequest}
use Rattle.scan_job.specs.declared.commands.patterns.PatternsRequest.{PatternsRequest}
use Rattle.scan_job.specs.Commands.{Command}
use Rattle.scan_job.specs.Commands.Reorder.{design_request}
use Rattle.scan_job.specs.Commands.Patterns.{HoldsInRetargeting, AreRetargeted}

-- the word says a number of units
pub record IsUnits (word : List ℕ) : Type 0 where
  pub number : ℕ
  pub fewest : 8 ≤ number
  pub most : number ≤ 16384
  pub is : word ≡ decimal number

-- the files of the made design of so many units, but for its patterns
abbrev pub made_design : ℕ → Texts
made_design n = let files = made_files n in texts_of files.table files.lef files.verilog files.def

-- its patterns
abbrev pub made_stil : ℕ → List ℕ
made_stil n = (made_files n).stil

-- a fault of the made files
pub record HoldsInMade (word : List ℕ) (fault : Fault) : Type 0 where
  pub units : IsUnits word
  pub holds : HoldsInRetargeting (made_design units.number) (made_stil units.number) fault

-- `reorder` with patterns and full effort, whatever its files are called
abbrev pub full_reorder : PatternsRequest
full_reorder = record { design = design_request [] [] [] [] [] [] (goals.Shorter efforts.Full); stil = []; out_stil = [] }

-- it says this of a design and its patterns: the report of one plan
pub record IsSaid (t : Texts) (stil text : List ℕ) : Type 0 where
  pub outputs : Outputs
  pub are : AreRetargeted full_reorder t stil outputs
  pub is : text ≡ outputs.console

-- `bench N`, and then what is said
abbrev pub bench_text : List ℕ → List ℕ → List ℕ
bench_text word said = codes "bench " ++ word ++ 10 ∷ said

-- so much is said of the made files
pub record IsBenched (word text : List ℕ) : Type 0 where
  pub units : IsUnits word
  pub report : List ℕ
  pub said : IsSaid (made_design units.number) (made_stil units.number) report
  pub is : text ≡ bench_text word report

-- it reorders a made design in memory, and reads and writes no file
abbrev pub bench : BenchRequest → Command
bench r = record {
  order = record { verb = verbs.Bench; values = r.units ∷ []; further = [] };
  sound = IsUnits r.units;
  names = [];
  streams = false;
  holds = λ files. HoldsInMade r.units;
  found_writing = λ kind. ⊥;
  texts = λ files outputs. IsBenched r.units outputs.console;
  text_before = λ files fault text. ⊥;
}
