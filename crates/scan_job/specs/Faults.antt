-- The fault that a run answers, and the line that says it.
use Rattle.std.specs.Prelude.{◌≡◌, ◌⊎◌, ℕ, Bool, true, false, List, [], ◌∷◌, ◌++◌, Option, Some, None, unwrap_or, codes}
use Rattle.std.specs.Fmt.{decimal}
use Rattle.base_types.specs.declared.fault.Fault.{Fault}
use Rattle.base_types.specs.declared.fault.FileKind.{FileKind}
use Rattle.base_types.specs.declared.fault.FileKind.TheVariants as kinds
use Rattle.base_types.specs.declared.fault.Spot.{Spot}
use Rattle.base_types.specs.declared.fault.Spot.TheVariants as spots
use Rattle.base_types.specs.declared.kind.Kind.{Kind}
use Rattle.base_types.specs.declared.kind.Kind.TheVariants.{FileSize}
use Rattle.base_types.specs.Faults.{kind_name, at_line}
use Rattle.base_types.specs.FirstFault.{IsFirstFault}
use Rattle.desk_io.specs.declared.slot.Slot.{Slot}
use Rattle.desk_io.specs.declared.slot.Slot.TheVariants.{Stil}
use Rattle.desk_io.specs.Ways.{way_of, IsLonger}
use Rattle.desk_io.specs.FileKinds.{file_of, slot_of}
use Rattle.desk_io.specs.Desk.{IsInput}
use Rattle.desk_io.specs.Names.{Names, name_at, IsNamed}
use Rattle.stil_parts.specs.Heads.{head_len}
use Rattle.scan_job.specs.Commands.{Files}
use Rattle.scan_job.specs.Requests.{Request, command_of, names_of}

-- the file of the slot has too many bytes
abbrev pub size_fault : Slot → Fault
size_fault slot = at_line FileSize (file_of slot) 0

-- The file of an input is too large: it has more bytes than its limit. Where the STIL file is read as it comes, its head alone has a
-- limit, within which its end is to show.
abbrev pub IsOverAt : Bool → Slot → List ℕ → Type 0
IsOverAt false slot text = IsLonger (way_of slot) text
IsOverAt true Stil text = head_len text ≡ None
IsOverAt true slot text = IsLonger (way_of slot) text

-- the file of an input is too large for the request
abbrev pub IsOver : Request → Slot → List ℕ → Type 0
IsOver request slot text = IsOverAt (command_of request).streams slot text

-- a file that the request names is too large, and this is the fault of it
pub record IsSizeFault (request : Request) (files : Files) (fault : Fault) : Type 0 where
  pub slot : Slot
  pub input : IsInput slot
  pub named : IsNamed (names_of request) slot
  pub over : IsOver request slot (files slot)
  pub is : fault ≡ size_fault slot

-- no file that the request names is too large
abbrev pub AreSmall : Request → Files → Type 0
AreSmall request files = (slot : Slot) → IsInput slot → IsNamed (names_of request) slot → IsOver request slot (files slot) → ⊥

-- a fault of the command's own in its files
abbrev pub HoldsInCommand : Request → Files → Fault → Type 0
HoldsInCommand request files = (command_of request).holds files

-- the first of them
abbrev pub IsCommandFault : Request → Files → Fault → Type 0
IsCommandFault request files fault = IsFirstFault (HoldsInCommand request files) fault

-- the files have no fault of the command
abbrev pub HasNoCommandFault : Request → Files → Type 0
HasNoCommandFault request files = (fault : Fault) → IsCommandFault request files fault → ⊥

-- The fault that a run answers: the first of the files that are too large, in the order in which they are taken, and where none
-- is, the command's own.
abbrev pub IsRunFault : Request → Files → Fault → Type 0
IsRunFault request files fault = IsFirstFault (IsSizeFault request files) fault ⊎ (AreSmall request files × IsCommandFault request files fault)

-- the files have no fault at all
abbrev pub HasNoFault : Request → Files → Type 0
HasNoFault request files = (fault : Fault) → IsRunFault request files fault → ⊥

-- there is at most one such fault
abbrev pub OneFaultLaw : Type 0
OneFaultLaw = (request : Request) (files : Files) (f g : Fault) → IsRunFault request files f → IsRunFault request files g → f ≡ g

-- the kinds of faults that a request finds only while it writes its STIL output: it judges all that it reads before
abbrev pub IsFoundWriting : Request → Kind → Type 0
IsFoundWriting request kind = (command_of request).found_writing kind

-- no fault but those that are found while the STIL output is written
abbrev pub HasNoFaultBefore : Request → Files → Type 0
HasNoFaultBefore request files = (fault : Fault) → IsRunFault request files fault → IsFoundWriting request fault.kind

-- the word of a file that the words don't name, and of the words themselves
abbrev pub own_word : FileKind → List ℕ
own_word kinds.Table = codes "table"
own_word kinds.Lef = codes "lef"
own_word kinds.Verilog = codes "verilog"
own_word kinds.Def = codes "def"
own_word kinds.Stil = codes "stil"
own_word kinds.NewVerilog = codes "new-verilog"
own_word kinds.NewStil = codes "new-stil"
own_word kinds.Log = codes "log"
own_word kinds.Words = codes "words"

-- the word of a file: the name of its slot, if it has one
abbrev pub word_at : FileKind → Names → Option Slot → List ℕ
word_at file names None = own_word file
word_at file names (Some slot) = unwrap_or (name_at names slot) (own_word file)

-- the word by which a fault names its file
abbrev pub file_word : Names → FileKind → List ℕ
file_word names file = word_at file names (slot_of file)

-- the place in the file: a line, a cell's name, or a hyphen
abbrev pub spot_text : Spot → List ℕ
spot_text (spots.Line line) = decimal line
spot_text (spots.Cell name) = name
spot_text spots.Nowhere = codes "-"

-- `file:spot: KIND` and a line feed
abbrev pub fault_text : Names → Fault → List ℕ
fault_text names fault =
    file_word names fault.file ++ codes ":" ++ spot_text fault.spot ++ codes ": " ++ kind_name fault.kind ++ 10 ∷ []
