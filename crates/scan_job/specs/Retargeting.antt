-- What is known of the files of `reorder` with patterns while these come from the STIL slot, and what is left at both STIL slots.
use Rattle.std.specs.Prelude.{◌≡◌, ◌≢◌, ◌⊎◌, ℕ, false, List, [], ◌∷◌, ◌++◌, Some, None, option_map, IfSome, Result, Ok, Err}
use Rattle.base_types.specs.declared.fault.Fault.{Fault}
use Rattle.base_types.specs.FirstFault.{IsFirstFault}
use Rattle.desk_io.specs.declared.slot.Slot.{Slot}
use Rattle.desk_io.specs.declared.slot.Slot.TheVariants.{Stil}
use Rattle.desk_io.specs.Desk.{SlotState, IsOpen}
use Rattle.desk_io.specs.Causes.{HasRisen}
use Rattle.desk_io.specs.Prefixes.{IsAppended, IsAtEnd, HoldsPrefix, HasPut, HasPutAndFailed}
use Rattle.stil_parts.specs.Heads.{head_len}
use Rattle.stil_head.specs.Heads.{DenotesHead}
use Rattle.stil_types.specs.declared.statement.PatternStatement.{PatternStatement}
use Rattle.stil_reader.specs.Sayings.{Head, Told, after, told_whole}
use Rattle.stil_reader.specs.Patterns.{statements_in}
use Rattle.stil_stream.specs.Streams.{Streaming}
use Rattle.stil_input.specs.declared.input.StilStop.{StilStop}
use Rattle.stil_input.specs.declared.input.StilStop.TheVariants.{Fault as OfText, Read, NoMemory}
use Rattle.stil_calls.specs.Scans.{bits_of}
use Rattle.stil_tester.specs.Shifting.{bit_counts}
use Rattle.stil_input.specs.Inputs.{Draws, coming, HasDrawn, HasDrawnAndFailed}
use Rattle.stil_written.specs.Written.{Form, written_says}
use Rattle.reorder_command.specs.declared.patterns.PatternPlan.{PatternPlan}
use Rattle.reorder_command.specs.declared.reorder.Reordered.{Reordered}
use Rattle.reorder_command.specs.PatternPlans.{IsReorderedWith}
use Rattle.design_files.specs.Faults.{HoldsInFiles}
use Rattle.declared_chains.specs.Files.{IsHeadText}
use Rattle.reorder_command.specs.declared.goal.Goal.{Goal}
use Rattle.retarget.specs.Moved.{moved_call}
use Rattle.stil_writer.specs.Loops.{written_with}
use Rattle.retargeted_patterns.specs.declared.figures.PatternFigures.{PatternFigures}
use Rattle.retargeted_patterns.specs.Progress.{Progress, after_writing, after_all}
use Rattle.scan_job.specs.declared.patterns.Made.{Made}
use Rattle.scan_job.specs.declared.patterns.Ready.{Ready}
use Rattle.scan_job.specs.declared.putting.PutStop.{PutStop}
use Rattle.scan_job.specs.declared.putting.PutStop.TheVariants as stops
use Rattle.design_files.specs.Files.{Texts, with_head}
use Rattle.scan_job.specs.Commands.Patterns.{HoldsInRetargeting}
use Rattle.scan_job.specs.Faults.{size_fault}
use Rattle.scan_job.specs.Playing.{IsToldFault}

-- no slot but these two changed
abbrev pub SameBut : Slot → Slot → (Slot → SlotState) → (Slot → SlotState) → Type 0
SameBut one two old new = (slot : Slot) → slot ≢ one → slot ≢ two → new slot ≡ old slot

-- no head of the STIL text shows within the limit, or this is the first fault of the files
abbrev pub IsRetargetingFault : Texts → List ℕ → Fault → Type 0
IsRetargetingFault t stil fault = ((head_len stil ≡ None) × (fault ≡ size_fault Stil)) ⊎ ((head_len stil ≢ None) × IsFirstFault (HoldsInRetargeting t stil) fault)

-- no head of the STIL text shows within the limit, or this is the first fault of the files before the patterns
abbrev pub IsFaultBefore : Texts → List ℕ → Fault → Type 0
IsFaultBefore t stil fault = ((head_len stil ≡ None) × (fault ≡ size_fault Stil)) ⊎ ((text : List ℕ) × IsHeadText stil text × IsFirstFault (HoldsInFiles (with_head t text)) fault)

-- the files have no fault before their patterns, and this is planned for them
pub record IsPlannedFor (goal : Goal) (t : Texts) (stil : List ℕ) (made : Made) (plan : PatternPlan) : Type 0 where
  pub text : List ℕ
  pub head_is : IsHeadText stil text
  pub denotes : DenotesHead text plan.head
  pub no_fault : (fault : Fault) → HoldsInFiles (with_head t text) fault → ⊥
  pub reordered : IsReorderedWith goal (with_head t text) made.verilog made.def made.figures (Some plan)

-- what the whole text says beside a head is that head, and then what is still to come
abbrev pub ComesBehind : List ℕ → PatternPlan → Streaming → SlotState → Type 0
ComesBehind stil plan s slot = (text : List ℕ) × (Some (told_whole plan.head stil) ≡ option_map (after (Head text ∷ [])) (coming plan.head s slot))

-- these bytes were appended, no call failed, and the slot is open
pub record IsPutOpen (bytes : List ℕ) (old new : SlotState) : Type 0 where
  pub appended : IsAppended bytes old new
  pub faults : new.faults ≡ old.faults
  pub open_still : IsOpen new

-- a prefix of these bytes was appended, and then a call on the slot failed
pub record HasFailedPutting (bytes : List ℕ) (old new : SlotState) : Type 0 where
  pub prefix : HoldsPrefix bytes old new
  pub risen : HasRisen old.faults new.faults

-- how a text is written whose head becomes these bytes, and whose scan calls are moved to the new chains
abbrev pub form_by : List ℕ → Progress → Form
form_by front p = record { head = λ text. front; statement = written_with p.head.chains (moved_call p.old_chains p.new_chains) }

-- bytes are some front, and behind it the written form of all that is told
abbrev pub IsAllOf : List ℕ → Progress → Told → List ℕ → Type 0
IsAllOf front p told bytes = bytes ≡ front ++ written_says (form_by front p) told.says

-- or they are the beginning of that
abbrev pub IsFrontOf : List ℕ → Progress → Told → List ℕ → Type 0
IsFrontOf front p told bytes = (more : List ℕ) × (front ++ written_says (form_by front p) told.says ≡ bytes ++ more)

-- writing stopped as the text was taken
abbrev pub put_input : StilStop → PutStop
put_input stop = stops.Input stop

-- for want of memory
abbrev pub put_no_memory : PutStop
put_no_memory = stops.Input NoMemory

-- at the output
abbrev pub put_output : PutStop
put_output = stops.Output

-- a statement's written form was put and counted; or memory ran out before it; or the output failed at it
abbrev pub HasPutStated : PatternStatement → Progress → Progress → SlotState → SlotState → Result (Unit {0}) PutStop → Type 0
HasPutStated s p q out out' (Ok done) = HasPut (written_with p.head.chains (moved_call p.old_chains p.new_chains) s) out out' × (q ≡ after_writing s p)
HasPutStated s p q out out' (Err (stops.Input (OfText fault))) = ⊥
HasPutStated s p q out out' (Err (stops.Input Read)) = ⊥
HasPutStated s p q out out' (Err (stops.Input NoMemory)) = out' ≡ out
HasPutStated s p q out out' (Err stops.Output) = HasPutAndFailed (written_with p.head.chains (moved_call p.old_chains p.new_chains) s) out out'

-- what stands ready is what was planned, and what is read on
pub record IsReadyWith (r : Reordered) (s : Streaming) (ready : Ready) : Type 0 where
  pub verilog : ready.made.verilog ≡ r.verilog
  pub def : ready.made.def ≡ r.def
  pub figures : ready.made.figures ≡ r.figures
  pub plan : r.patterns ≡ Some ready.plan
  pub input : ready.input ≡ s

-- What was written, a front and then the patterns that were still to come; why writing ended; and what it left at both STIL slots. Where the
-- slot that is read tells its bytes, what was put is their written form, all of it or its beginning.
abbrev pub HasPutOn : List ℕ → Progress → Streaming → SlotState → SlotState → SlotState → SlotState → Result PatternFigures PutStop → Type 0
HasPutOn front p s old new out out' (Ok figures) = (bytes : List ℕ) × IsPutOpen bytes out out' × HasDrawn old new × IsAtEnd new
    × IfSome (coming p.head s old) (λ told. (told.fault ≡ None) × IsAllOf front p told bytes × (figures ≡ (after_all (statements_in told.says) p).figures))
HasPutOn front p s old new out out' (Err (stops.Input (OfText fault))) = (bytes : List ℕ) × IsPutOpen bytes out out' × HasDrawn old new
    × IfSome (coming p.head s old) (λ told. IsToldFault told fault × IsAllOf front p told bytes)
HasPutOn front p s old new out out' (Err (stops.Input Read)) =
    (bytes : List ℕ) × IsPutOpen bytes out out' × HasDrawnAndFailed old new × IfSome (coming p.head s old) (λ told. IsFrontOf front p told bytes)
HasPutOn front p s old new out out' (Err (stops.Input NoMemory)) =
    (bytes : List ℕ) × IsPutOpen bytes out out' × HasDrawn old new × IfSome (coming p.head s old) (λ told. IsFrontOf front p told bytes)
HasPutOn front p s old new out out' (Err stops.Output) =
    (bytes : List ℕ) × HasFailedPutting bytes out out' × HasDrawn old new × IfSome (coming p.head s old) (λ told. IsFrontOf front p told bytes)

-- what planning answers, and what it leaves at the STIL slot, where that tells its bytes
abbrev pub HasPlanned : Goal → Texts → SlotState → SlotState → Result Ready StilStop → Type 0
HasPlanned goal t old new (Ok ready) = HasDrawn old new × Draws ready.input new × (ready.input.in_head ≡ false) × (bit_counts ready.plan.map.0 ≡ bits_of ready.plan.head.chains)
    × IfSome old.unread (λ stil. IsPlannedFor goal t stil ready.made ready.plan × ComesBehind stil ready.plan ready.input new)
HasPlanned goal t old new (Err (OfText fault)) = HasDrawn old new × IfSome old.unread (λ stil. IsFaultBefore t stil fault)
HasPlanned goal t old new (Err Read) = HasDrawnAndFailed old new
HasPlanned goal t old new (Err NoMemory) = HasDrawn old new
