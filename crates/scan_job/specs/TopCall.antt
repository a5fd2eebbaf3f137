-- What a run leaves at its slots.
use Rattle.std.specs.Prelude.{◌≡◌, ◌⊎◌, ℕ, List}
use Rattle.base_types.specs.declared.fault.Fault.{Fault}
use Rattle.desk_io.specs.declared.slot.Slot.{Slot}
use Rattle.desk_io.specs.declared.slot.Slot.TheVariants.{OutVerilog, OutDef, OutStil, OutSvg, Console}
use Rattle.desk_io.specs.declared.outputs.Outputs.{Outputs}
use Rattle.desk_io.specs.Desk.{SlotState, IsInput, IsOutput, IsOpen, IsClosed}
use Rattle.desk_io.specs.Causes.{HasRisen}
use Rattle.desk_io.specs.Inputs.{HoldsFiles}
use Rattle.desk_io.specs.Prefixes.{IsAppended, IsAtEnd, HoldsPrefix}
use Rattle.desk_io.specs.Names.{IsNamed}
use Rattle.desk_io.specs.Outputs.{output_at}
use Rattle.scan_words.specs.declared.order.Order.{Order}
use Rattle.scan_words.specs.Written.{Says}
use Rattle.scan_job.specs.Requests.{Request, command_of, names_of}
use Rattle.scan_job.specs.Faults.{IsRunFault, HasNoFault, IsFoundWriting, fault_text}
use Rattle.scan_job.specs.Texts.{AreOutputsOf, AreOutputsBefore}

-- what stands at each slot
abbrev pub Slots : Type 0
Slots = Slot → SlotState

-- the slots that a request uses: those of its file options, and the console
abbrev pub IsUsed : Request → Slot → Type 0
IsUsed request slot = IsNamed (names_of request) slot

-- the inputs of a request hold these files, all of whose bytes are still to be read, and tell it
abbrev pub Reads : Request → (Slot → List ℕ) → Slots → Type 0
Reads request files slots = HoldsFiles (names_of request) files slots

-- the words are of no written form
abbrev pub SaysNothing : List (List ℕ) → Type 0
SaysNothing words = (order : Order) → Says words order → ⊥

-- no slot changed
abbrev pub SameEverywhere : Slots → Slots → Type 0
SameEverywhere old new = (slot : Slot) → new slot ≡ old slot

-- no slot is changed but those that the request uses
abbrev pub SameUnused : Request → Slots → Slots → Type 0
SameUnused request old new = (slot : Slot) → (IsUsed request slot → ⊥) → new slot ≡ old slot

-- no slot's count of faults rose
abbrev pub NoneRose : Slots → Slots → Type 0
NoneRose old new = (slot : Slot) → HasRisen (old slot).faults (new slot).faults → ⊥

-- no slot is open
abbrev pub NoneOpen : Slots → Type 0
NoneOpen slots = (slot : Slot) → IsOpen (slots slot) → ⊥

-- each slot that the request uses was opened, and is closed
abbrev pub AllClosed : Request → Slots → Type 0
AllClosed request slots = (slot : Slot) → IsUsed request slot → IsClosed (slots slot)

-- each input of the request is read to its end
abbrev pub AllRead : Request → Slots → Type 0
AllRead request slots = (slot : Slot) → IsInput slot → IsUsed request slot → IsAtEnd (slots slot)

-- no output slot changed
abbrev pub SameOutputs : Slots → Slots → Type 0
SameOutputs old new = (slot : Slot) → IsOutput slot → new slot ≡ old slot

-- no output slot but the STIL output changed
abbrev pub SameButStil : Slots → Slots → Type 0
SameButStil old new = (slot : Slot) → IsOutput slot → (slot ≡ OutStil → ⊥) → new slot ≡ old slot

-- the Verilog, the DEF and the SVG output are as they were: unopened
pub record SameDesign (old new : Slots) : Type 0 where
  pub verilog : new OutVerilog ≡ old OutVerilog
  pub def : new OutDef ≡ old OutDef
  pub svg : new OutSvg ≡ old OutSvg

-- the written form of what stands before the statement that is refused, where that is found while the STIL output is written
abbrev pub IsTextBefore : Request → (Slot → List ℕ) → Fault → List ℕ → Type 0
IsTextBefore request files fault text = (command_of request).text_before files fault text

-- the STIL output holds what stands before the refused statement, all of it and no more
pub record HoldsTextBefore (request : Request) (files : Slot → List ℕ) (fault : Fault) (old new : Slots) : Type 0 where
  pub text : List ℕ
  pub is : IsTextBefore request files fault text
  pub whole : IsAppended text (old OutStil) (new OutStil)

-- the output files at a refusal: as they were, but for the STIL output where the fault was found while it was written
pub record AreFilesRefused (request : Request) (files : Slot → List ℕ) (fault : Fault) (old new : Slots) : Type 0 where
  pub design : SameDesign old new
  pub stil : (IsFoundWriting request fault.kind → ⊥) → new OutStil ≡ old OutStil
  pub stil_begun : IsFoundWriting request fault.kind → HoldsTextBefore request files fault old new

-- the files have a fault; its line was said on the console
pub record HasRefused (request : Request) (files : Slot → List ℕ) (old new : Slots) : Type 0 where
  pub fault : Fault
  pub first : IsRunFault request files fault
  pub outputs : AreFilesRefused request files fault old new
  pub line : IsAppended (fault_text (names_of request) fault) (old Console) (new Console)

-- the files have no fault, and each output of the request holds its whole text
pub record HasDone (request : Request) (files : Slot → List ℕ) (old new : Slots) : Type 0 where
  pub outputs : Outputs
  pub are : AreOutputsOf request files outputs
  pub texts : (slot : Slot) → IsOutput slot → IsUsed request slot → IsAppended (output_at outputs slot) (old slot) (new slot)

-- No fault was found before the outputs were begun, and each output of the request holds a prefix of its text; where the files have a fault,
-- only the STIL output was begun.
pub record HasBegun (request : Request) (files : Slot → List ℕ) (old new : Slots) : Type 0 where
  pub outputs : Outputs
  pub are : AreOutputsBefore request files outputs
  pub prefixes : (slot : Slot) → IsOutput slot → IsUsed request slot → HoldsPrefix (output_at outputs slot) (old slot) (new slot)
  pub faultless : HasNoFault request files ⊎ SameButStil old new

-- the files have a fault; the console holds a prefix of its line
pub record HasBegunRefusing (request : Request) (files : Slot → List ℕ) (old new : Slots) : Type 0 where
  pub fault : Fault
  pub first : IsRunFault request files fault
  pub outputs : AreFilesRefused request files fault old new
  pub prefix : HoldsPrefix (fault_text (names_of request) fault) (old Console) (new Console)

-- Nothing was written, or prefixes of the command's texts, or a prefix of the line of the fault.
abbrev pub HasWritten : Request → (Slot → List ℕ) → Slots → Slots → Type 0
HasWritten request files old new = SameOutputs old new ⊎ HasBegun request files old new ⊎ HasBegunRefusing request files old new
