-- The outputs of a command, put one after another.
use Rattle.std.specs.Prelude.{◌≡◌, ◌<◌, ℕ, List, [], None}
use Rattle.desk_io.specs.declared.slot.Slot.{Slot}
use Rattle.desk_io.specs.declared.slot.Slot.TheVariants.{OutVerilog, OutDef, OutStil, OutSvg, Console}
use Rattle.desk_io.specs.declared.outputs.Outputs.{Outputs}
use Rattle.desk_io.specs.Desk.{SlotState, IsOutput, IsUnopened, SameElsewhere}
use Rattle.desk_io.specs.Causes.{HasRisen}
use Rattle.desk_io.specs.Prefixes.{HasPutFile, HoldsPrefix}
use Rattle.desk_io.specs.Ways.{way_of, turn_in}
use Rattle.desk_io.specs.Names.{Names, IsNamed}

-- the text that is to be put at a slot
abbrev pub output_at : Outputs → Slot → List ℕ
output_at outputs OutVerilog = outputs.verilog
output_at outputs OutDef = outputs.def
output_at outputs OutStil = outputs.stil
output_at outputs OutSvg = outputs.svg
output_at outputs Console = outputs.console
output_at outputs slot = []

-- the outputs of a command that says this, writes no file and has no note
abbrev pub saying : List ℕ → Outputs
saying text = record { verilog = []; def = []; stil = []; svg = []; console = text; note = None }

-- the place of an output in the order in which they are put
abbrev pub turn : Slot → ℕ
turn slot = turn_in (way_of slot)

-- none of the named outputs was opened yet
abbrev pub OutputsUnopened : Names → (Slot → SlotState) → Type 0
OutputsUnopened names slots = (slot : Slot) → IsOutput slot → IsNamed names slot → IsUnopened (slots slot)

-- the named outputs whose turn is below were put, and no other slot is changed
pub record HasPutOutputs (names : Names) (outputs : Outputs) (below : ℕ) (old new : Slot → SlotState) : Type 0 where
  pub put : (slot : Slot) → IsOutput slot → IsNamed names slot → turn slot < below → HasPutFile (output_at outputs slot) (old slot) (new slot)
  pub others : (slot : Slot) → (IsOutput slot → IsNamed names slot → turn slot < below → ⊥) → new slot ≡ old slot

-- the named outputs before one of them were put, and then a call on it failed: it holds a prefix of its text
pub record HasStoppedPutting (names : Names) (outputs : Outputs) (old new : Slot → SlotState) : Type 0 where
  pub slot : Slot
  pub output : IsOutput slot
  pub named : IsNamed names slot
  pub between : Slot → SlotState
  pub before : HasPutOutputs names outputs (turn slot) old between
  pub elsewhere : SameElsewhere slot between new
  pub prefix : HoldsPrefix (output_at outputs slot) (between slot) (new slot)
  pub risen : HasRisen (between slot).faults (new slot).faults
  pub unread : (new slot).unread ≡ (between slot).unread

-- each output holds, behind what stood there, a prefix of its text
abbrev pub HoldsPrefixes : Outputs → (Slot → SlotState) → (Slot → SlotState) → Type 0
HoldsPrefixes outputs old new = (slot : Slot) → IsOutput slot → HoldsPrefix (output_at outputs slot) (old slot) (new slot)
