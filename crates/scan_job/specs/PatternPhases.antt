-- What the phases of `reorder` with patterns leave at the slots, from where the STIL slot is opened.
use Rattle.std.specs.Prelude.{◌≡◌, ◌⊎◌, ℕ, List, [], Option, IfSome, Result, Ok, Err}
use Rattle.base_types.specs.declared.fault.Fault.{Fault}
use Rattle.desk_io.specs.declared.slot.Slot.TheVariants.{Stil, OutStil}
use Rattle.desk_io.specs.declared.outputs.Outputs.{Outputs}
use Rattle.desk_io.specs.Desk.{SlotState, IsClosed, closed, SameElsewhere}
use Rattle.desk_io.specs.Causes.{HasRisen, HasFailed}
use Rattle.desk_io.specs.Names.{Names}
use Rattle.desk_io.specs.Prefixes.{IsAppended, IsAtEnd, HoldsPrefix}
use Rattle.desk_io.specs.Inputs.{input_at}
use Rattle.desk_io.specs.Outputs.{HasPutOutputs, HasStoppedPutting}
use Rattle.stil_input.specs.declared.input.StilStop.TheVariants as causes
use Rattle.design_files.specs.Files.{Texts}
use Rattle.reorder_command.specs.declared.patterns.PatternPlan.{PatternPlan}
use Rattle.retargeted_patterns.specs.declared.figures.PatternFigures.{PatternFigures}
use Rattle.retargeted_patterns.specs.Progress.{Progress, at_first}
use Rattle.scan_job.specs.declared.stop.Stop.{Stop}
use Rattle.scan_job.specs.declared.stop.Stop.TheVariants.{NoForm, Refused, InputFailed, OutputFailed, NoMemory}
use Rattle.scan_job.specs.declared.patterns.Made.{Made}
use Rattle.scan_job.specs.declared.patterns.Ready.{Ready}
use Rattle.scan_job.specs.declared.putting.PutStop.{PutStop}
use Rattle.scan_job.specs.declared.putting.PutStop.TheVariants as stops
use Rattle.scan_job.specs.declared.commands.patterns.PatternsRequest.{PatternsRequest}
use Rattle.scan_job.specs.Commands.Check.{design_in}
use Rattle.scan_job.specs.Commands.Patterns.{AreRetargeted, IsWrittenBefore, IsPatternKind, all_figures_text, last_names}
use Rattle.scan_job.specs.Requests.{ReorderPatterns, names_of}
use Rattle.scan_job.specs.TopCall.{Slots, SameEverywhere}
use Rattle.scan_job.specs.Retargeting.{SameBut, IsRetargetingFault, HasPutOn}
use Rattle.scan_job.specs.Phases.{HasPutLine, HasFailedAtLine}

-- the texts of the design's files, which were taken whole
abbrev pub design_of : List (Option (List ℕ)) → Texts
design_of texts = design_in (input_at texts)

-- these bytes were appended to the STIL output, which is closed, or nothing was done with it
pub record IsPutClosed (bytes : List ℕ) (old new : SlotState) : Type 0 where
  pub appended : IsAppended bytes old new
  pub faults : new.faults ≡ old.faults
  pub closed : IsClosed new

-- the STIL slot was opened, read and closed, and no other slot changed but its output
pub record HasReadPatterns (old new : Slots) : Type 0 where
  pub elsewhere : SameBut Stil OutStil old new
  pub faults : (new Stil).faults ≡ (old Stil).faults
  pub closed : IsClosed (new Stil)

-- both STIL slots are closed, the one that is read first
abbrev pub HasClosedBoth : Slots → Slots → Result (Unit {0}) Stop → Type 0
HasClosedBoth old new (Ok done) = SameBut Stil OutStil old new × (new Stil ≡ closed (old Stil)) × (new OutStil ≡ closed (old OutStil))
HasClosedBoth old new (Err NoForm) = ⊥
HasClosedBoth old new (Err Refused) = ⊥
HasClosedBoth old new (Err InputFailed) = SameElsewhere Stil old new × HasFailed (old Stil) (new Stil)
HasClosedBoth old new (Err OutputFailed) = SameBut Stil OutStil old new × (new Stil ≡ closed (old Stil)) × HasFailed (old OutStil) (new OutStil)
HasClosedBoth old new (Err NoMemory) = ⊥

-- the outputs behind the patterns, as far as the design makes them
abbrev pub outputs_of : Made → PatternFigures → Outputs
outputs_of made patterns = record { verilog = made.verilog; def = made.def; stil = []; svg = []; console = all_figures_text made.figures patterns; note = made.note }

-- they were put, or putting them failed, or memory ran out before
abbrev pub HasPutOthers : Names → Outputs → Slots → Slots → Result (Unit {0}) Stop → Type 0
HasPutOthers last outputs old new (Ok done) = HasPutOutputs last outputs 5 old new
HasPutOthers last outputs old new (Err NoForm) = ⊥
HasPutOthers last outputs old new (Err Refused) = ⊥
HasPutOthers last outputs old new (Err InputFailed) = ⊥
HasPutOthers last outputs old new (Err OutputFailed) = HasStoppedPutting last outputs old new
HasPutOthers last outputs old new (Err NoMemory) = SameEverywhere old new

-- nothing of the patterns is written yet
abbrev pub progress_of : PatternPlan → Progress
progress_of plan = at_first plan.head plan.map.0 plan.map.1

-- the patterns were written to their end, or to their fault
abbrev pub IsEnded : Result PatternFigures PutStop → Type 0
IsEnded (Ok patterns) = Unit {0}
IsEnded (Err (stops.Input (causes.Fault fault))) = Unit {0}
IsEnded (Err (stops.Input causes.Read)) = ⊥
IsEnded (Err (stops.Input causes.NoMemory)) = ⊥
IsEnded (Err stops.Output) = ⊥

-- the patterns were written so far as they go, with this result, and no other slot changed
pub record HasPutStil (ready : Ready) (result : Result PatternFigures PutStop) (old new : Slots) : Type 0 where
  pub put : HasPutOn ready.plan.head_text (progress_of ready.plan) ready.input (old Stil) (new Stil) (old OutStil) (new OutStil) result
  pub elsewhere : SameBut Stil OutStil old new

-- and then both slots were closed
pub record HasPutAndClosed (ready : Ready) (result : Result PatternFigures PutStop) (old new : Slots) : Type 0 where
  pub between : Slots
  pub put : HasPutStil ready result old between
  pub closed_both : HasClosedBoth between new (Ok tt)

-- or closing them failed so
pub record HasPutAndFailed (ready : Ready) (stop : Stop) (old new : Slots) : Type 0 where
  pub result : Result PatternFigures PutStop
  pub ends : IsEnded result
  pub between : Slots
  pub put : HasPutStil ready result old between
  pub failed : HasClosedBoth between new (Err stop)

-- what was done from where the patterns stood ready to be written
abbrev pub HasWrittenReady : PatternsRequest → Ready → Slots → Slots → Result (Unit {0}) Stop → Type 0
HasWrittenReady r ready old new (Ok done) = (patterns : PatternFigures) × (between : Slots) × HasPutAndClosed ready (Ok patterns) old between × HasPutOutputs (last_names r) (outputs_of ready.made patterns) 5 between new
HasWrittenReady r ready old new (Err NoForm) = ⊥
HasWrittenReady r ready old new (Err Refused) =
    (fault : Fault) × (between : Slots) × HasPutAndClosed ready (Err (stops.Input (causes.Fault fault))) old between × HasPutLine (names_of (ReorderPatterns r)) fault between new
HasWrittenReady r ready old new (Err InputFailed) = HasPutStil ready (Err (stops.Input causes.Read)) old new ⊎ HasPutAndFailed ready InputFailed old new
HasWrittenReady r ready old new (Err OutputFailed) =
    HasPutStil ready (Err stops.Output) old new
    ⊎ HasPutAndFailed ready OutputFailed old new
    ⊎ ((patterns : PatternFigures) × (between : Slots) × HasPutAndClosed ready (Ok patterns) old between × HasStoppedPutting (last_names r) (outputs_of ready.made patterns) between new)
    ⊎ ((fault : Fault) × (between : Slots) × HasPutAndClosed ready (Err (stops.Input (causes.Fault fault))) old between × HasFailedAtLine (names_of (ReorderPatterns r)) fault between new)
HasWrittenReady r ready old new (Err NoMemory) =
    HasPutStil ready (Err (stops.Input causes.NoMemory)) old new
    ⊎ ((result : Result PatternFigures PutStop) × IsEnded result × (between : Slots) × HasPutAndClosed ready result old between × SameEverywhere between new)

-- the files have no fault that isn't found while the patterns are written, and the outputs are those of the command
pub record AreOutputsFound (r : PatternsRequest) (t : Texts) (stil : List ℕ) (outputs : Outputs) : Type 0 where
  pub are : AreRetargeted r t stil outputs
  pub no_fault : (fault : Fault) → IsRetargetingFault t stil fault → IsPatternKind fault.kind

-- all patterns were written, and then this was done with the outputs
pub record HasWrittenOut (r : PatternsRequest) (texts : List (Option (List ℕ))) (old : Slots) (did : Outputs → Slots → Type 0) : Type 0 where
  pub outputs : Outputs
  pub between : Slots
  pub read : HasReadPatterns old between
  pub at_end : IsAtEnd (between Stil)
  pub put : IsPutClosed outputs.stil (old OutStil) (between OutStil)
  pub is : IfSome (old Stil).unread (λ stil. AreRetargeted r (design_of texts) stil outputs × ((fault : Fault) → IsRetargetingFault (design_of texts) stil fault → ⊥))
  pub then_did : did outputs between

-- the first fault was found before the STIL output was opened
pub record HasFoundBefore (r : PatternsRequest) (texts : List (Option (List ℕ))) (old : Slots) (did : Fault → Slots → Type 0) : Type 0 where
  pub fault : Fault
  pub between : Slots
  pub read : HasReadPatterns old between
  pub same : between OutStil ≡ old OutStil
  pub is : IfSome (old Stil).unread (λ stil. IsRetargetingFault (design_of texts) stil fault)
  pub early : IfSome (old Stil).unread (λ stil. IsPatternKind fault.kind → ⊥)
  pub then_did : did fault between

-- or while the patterns were written
pub record HasFoundWriting (r : PatternsRequest) (texts : List (Option (List ℕ))) (old : Slots) (did : Fault → Slots → Type 0) : Type 0 where
  pub fault : Fault
  pub between : Slots
  pub bytes : List ℕ
  pub read : HasReadPatterns old between
  pub put : IsPutClosed bytes (old OutStil) (between OutStil)
  pub is : IfSome (old Stil).unread (λ stil. IsRetargetingFault (design_of texts) stil fault × IsPatternKind fault.kind × IsWrittenBefore r (design_of texts) stil bytes)
  pub then_did : did fault between

-- nothing was done with the STIL output, or it holds the beginning of its text
abbrev pub HasBegunStil : PatternsRequest → List (Option (List ℕ)) → Slots → Slots → Type 0
HasBegunStil r texts old new =
    (new OutStil ≡ old OutStil) ⊎ IfSome (old Stil).unread (λ stil. (outputs : Outputs) × AreOutputsFound r (design_of texts) stil outputs × HoldsPrefix outputs.stil (old OutStil) (new OutStil))

-- a call on the STIL slot failed, and no other slot changed but the STIL output
pub record HasFailedAtPatterns (r : PatternsRequest) (texts : List (Option (List ℕ))) (old new : Slots) : Type 0 where
  pub elsewhere : SameBut Stil OutStil old new
  pub out_faults : (new OutStil).faults ≡ (old OutStil).faults
  pub risen : HasRisen (old Stil).faults (new Stil).faults
  pub begun : HasBegunStil r texts old new

-- or memory ran out
pub record HasRunOutAtPatterns (r : PatternsRequest) (texts : List (Option (List ℕ))) (old new : Slots) : Type 0 where
  pub elsewhere : SameBut Stil OutStil old new
  pub faults : (new Stil).faults ≡ (old Stil).faults
  pub out_faults : (new OutStil).faults ≡ (old OutStil).faults
  pub begun : HasBegunStil r texts old new

-- a call on the STIL output failed, and no other slot changed but the STIL
pub record HasFailedAtOutput (r : PatternsRequest) (texts : List (Option (List ℕ))) (old new : Slots) : Type 0 where
  pub elsewhere : SameBut Stil OutStil old new
  pub faults : (new Stil).faults ≡ (old Stil).faults
  pub risen : HasRisen (old OutStil).faults (new OutStil).faults
  pub begun : HasBegunStil r texts old new

-- what was done once the files of the design were taken
abbrev pub HasFinishedPatterns : PatternsRequest → List (Option (List ℕ)) → Slots → Slots → Result (Unit {0}) Stop → Type 0
HasFinishedPatterns r texts old new (Ok done) = HasWrittenOut r texts old (λ outputs between. HasPutOutputs (last_names r) outputs 5 between new)
HasFinishedPatterns r texts old new (Err NoForm) = ⊥
HasFinishedPatterns r texts old new (Err Refused) =
    HasFoundBefore r texts old (λ fault between. HasPutLine (names_of (ReorderPatterns r)) fault between new)
    ⊎ HasFoundWriting r texts old (λ fault between. HasPutLine (names_of (ReorderPatterns r)) fault between new)
HasFinishedPatterns r texts old new (Err InputFailed) = HasFailedAtPatterns r texts old new
HasFinishedPatterns r texts old new (Err OutputFailed) =
    HasFailedAtOutput r texts old new
    ⊎ HasWrittenOut r texts old (λ outputs between. HasStoppedPutting (last_names r) outputs between new)
    ⊎ HasFoundBefore r texts old (λ fault between. HasFailedAtLine (names_of (ReorderPatterns r)) fault between new)
    ⊎ HasFoundWriting r texts old (λ fault between. HasFailedAtLine (names_of (ReorderPatterns r)) fault between new)
HasFinishedPatterns r texts old new (Err NoMemory) = HasRunOutAtPatterns r texts old new
