-- What a play of the patterns that come from the STIL slot answers, and what it leaves there.
use Rattle.std.specs.Prelude.{◌≡◌, ◌≢◌, ◌⊎◌, ℕ, List, Some, None, IfSome, Result, Ok, Err}
use Rattle.base_types.specs.declared.fault.Fault.{Fault}
use Rattle.base_types.specs.FirstFault.{IsFirstFault}
use Rattle.desk_io.specs.declared.slot.Slot.TheVariants.{Stil}
use Rattle.desk_io.specs.Desk.{SlotState}
use Rattle.desk_io.specs.Prefixes.{IsAtEnd}
use Rattle.stil_parts.specs.Heads.{head_len}
use Rattle.stil_parts.specs.declared.part.PartFault.{PartFault}
use Rattle.stil_reader.specs.Sayings.{Told}
use Rattle.stil_stream.specs.Streams.{Streaming, fault_of}
use Rattle.stil_input.specs.declared.input.StilStop.{StilStop}
use Rattle.stil_input.specs.declared.input.StilStop.TheVariants.{Fault as OfText, Read, NoMemory}
use Rattle.stil_input.specs.Inputs.{coming, HasDrawn, HasDrawnAndFailed}
use Rattle.play_command.specs.declared.device.DeviceKind.{DeviceKind}
use Rattle.declared_chains.specs.Faults.{HoldsInPlay}
use Rattle.play_command.specs.Files.{IsPlayText}
use Rattle.play_command.specs.Progress.{Progress, after_sayings, finished}
use Rattle.scan_job.specs.Faults.{size_fault}

-- no head of the STIL text shows within the limit, or this is the first fault of the files
abbrev pub IsPlayFault : List ℕ → List ℕ → List ℕ → Fault → Type 0
IsPlayFault table verilog stil fault =
    ((head_len stil ≡ None) × (fault ≡ size_fault Stil)) ⊎ ((head_len stil ≢ None) × IsFirstFault (HoldsInPlay table verilog stil) fault)

-- the files have no fault, and this is what `play` says of them
pub record IsPlayed (table verilog stil : List ℕ) (device : DeviceKind) (said : List ℕ) : Type 0 where
  pub head : head_len stil ≢ None
  pub no_fault : (fault : Fault) → HoldsInPlay table verilog stil fault → ⊥
  pub is : IsPlayText table verilog stil device said

-- what was answered, and what is left of the text, where the slot tells it
abbrev pub HasPlayed : List ℕ → List ℕ → DeviceKind → SlotState → SlotState → Result (List ℕ) StilStop → Type 0
HasPlayed table verilog device old new (Ok said) =
    HasDrawn old new × IsAtEnd new × IfSome old.unread (λ stil. IsPlayed table verilog stil device said)
HasPlayed table verilog device old new (Err (OfText fault)) = HasDrawn old new × IfSome old.unread (λ stil. IsPlayFault table verilog stil fault)
HasPlayed table verilog device old new (Err Read) = HasDrawnAndFailed old new
HasPlayed table verilog device old new (Err NoMemory) = HasDrawn old new

-- all that was to come is played, and this is what is said at the end
pub record IsPlayedOut (p : Progress) (told : Told) (said : List ℕ) : Type 0 where
  pub sound : told.fault ≡ None
  pub is : said ≡ finished (after_sayings told.says p)

-- a fault was to come, which is answered
pub record IsToldFault (told : Told) (fault : Fault) : Type 0 where
  pub found : PartFault
  pub comes : told.fault ≡ Some found
  pub is : fault ≡ fault_of found

-- what a play of the patterns that are still to come answers, where the slot tells it
abbrev pub HasPlayedOn : Progress → Streaming → SlotState → SlotState → Result (List ℕ) StilStop → Type 0
HasPlayedOn p s old new (Ok said) = HasDrawn old new × IsAtEnd new × IfSome (coming p.head s old) (λ told. IsPlayedOut p told said)
HasPlayedOn p s old new (Err (OfText fault)) = HasDrawn old new × IfSome (coming p.head s old) (λ told. IsToldFault told fault)
HasPlayedOn p s old new (Err Read) = HasDrawnAndFailed old new
HasPlayedOn p s old new (Err NoMemory) = HasDrawn old new
