-- The written patterns mean what the read ones did.
use Rattle.std.specs.Prelude.{◌≡◌, ℕ, List, Some, None}
use Rattle.base_types.specs.declared.fault.Fault.{Fault}
use Rattle.design_files.specs.Files.{Texts, with_head}
use Rattle.design_files.specs.Faults.{HoldsInFiles}
use Rattle.reorder_command.specs.declared.patterns.PatternPlan.{PatternPlan}
use Rattle.reorder_command.specs.Reordered.{IsWrittenDesign}
use Rattle.reorder_command.specs.PatternPlans.{ArePlannedBeside}
use Rattle.declared_chains.specs.Files.{IsHeadText}
use Rattle.stil_reader.specs.Sayings.{told_whole}
use Rattle.stil_written.specs.Written.{written_says}
use Rattle.written_meaning.specs.Meaning.{KeepsMeaning, form_of}

-- where files and their patterns have no fault, the written form of the patterns by a plan means on the written netlist what the read patterns
-- mean on the read one
abbrev pub MeaningLaw : Type 0
MeaningLaw = (t : Texts) (verilog def : List ℕ) (nets_cut : ℕ) (plan : PatternPlan) (text stil : List ℕ) → IsHeadText stil text
    → (made : IsWrittenDesign (with_head t text) verilog def nets_cut) → ArePlannedBeside made (Some plan) → ((fault : Fault) → HoldsInFiles (with_head t text) fault → ⊥)
    → (told_whole plan.head stil).fault ≡ None
    → KeepsMeaning made.netlist made.written made.cells made.paths made.after stil (written_says (form_of plan) (told_whole plan.head stil).says)
