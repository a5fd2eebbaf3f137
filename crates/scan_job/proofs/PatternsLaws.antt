-- The laws of `reorder` with patterns: it looks at its inputs alone.
use Rattle.std.proofs.Common.{List, ℕ, refl, subst}
use Rattle.base_types.specs.declared.fault.Fault.{Fault}
use Rattle.base_types.specs.FirstFault.{IsFirstFault}
use Rattle.desk_io.specs.declared.slot.Slot.TheVariants.{Table, Lef, Verilog, Def, Stil}
use Rattle.desk_io.specs.declared.outputs.Outputs.{Outputs}
use Rattle.design_files.specs.Files.{Texts}
use Rattle.scan_job.specs.Requests as requests
use Rattle.scan_job.specs.declared.commands.patterns.PatternsRequest.{PatternsRequest}
use Rattle.scan_job.specs.Commands.{Files}
use Rattle.scan_job.specs.Commands.Check.{design_in}
use Rattle.scan_job.specs.Commands.Patterns.{AreRetargeted, HoldsInRetargeting}
use Rattle.scan_job.specs.Faults.{IsCommandFault}
use Rattle.scan_job.specs.Texts.{AreTexts}
use Rattle.scan_job.proofs.Agreeing.{AgreeAt, design_same}

module _ (r : PatternsRequest) (one other : Files) (agree : AgreeAt (requests.ReorderPatterns r) one other) where
  -- what holds of the one files holds of the other
  same_files : (P : Texts → List ℕ → Type 0) → P (design_in one) (one Stil) → P (design_in other) (other Stil)
  same_files P held =
      subst (λ (t : Texts). P t (other Stil)) (design_same one other (agree Table tt refl) (agree Lef tt refl) (agree Verilog tt refl) (agree Def tt refl))
      (subst (λ (stil : List ℕ). P (design_in one) stil) (agree Stil tt refl) held)

  pub patterns_fault_same : (fault : Fault) → IsCommandFault (requests.ReorderPatterns r) one fault → IsCommandFault (requests.ReorderPatterns r) other fault
  patterns_fault_same fault is = same_files (λ t stil. IsFirstFault (HoldsInRetargeting t stil) fault) is

  pub patterns_texts_same : (outputs : Outputs) → AreTexts (requests.ReorderPatterns r) one outputs → AreTexts (requests.ReorderPatterns r) other outputs
  patterns_texts_same outputs are = same_files (λ t stil. AreRetargeted r t stil outputs) are
