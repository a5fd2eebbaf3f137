-- What a command is: all that the clauses of the top call ask of it. Each command's record stands in a file of its own.
use Rattle.std.specs.Prelude.{ℕ, Bool, List}
use Rattle.base_types.specs.declared.fault.Fault.{Fault}
use Rattle.base_types.specs.declared.kind.Kind.{Kind}
use Rattle.desk_io.specs.declared.slot.Slot.{Slot}
use Rattle.desk_io.specs.declared.outputs.Outputs.{Outputs}
use Rattle.desk_io.specs.Names.{Names}
use Rattle.scan_words.specs.declared.order.Order.{Order}
pub mod Rewire
pub mod Trace
pub mod Check
pub mod Reorder
pub mod Patterns
pub mod Play
pub mod Bound
pub mod Verify
pub mod Draw
pub mod Failmap
pub mod Bench

-- the texts of the inputs, by their slots
abbrev pub Files : Type 0
Files = Slot → List ℕ

-- a command with the values that the words give it
pub record Command : Type 1 where
  -- its words: those of its options' values stand in the order in which the table of commands lists the options
  pub order : Order
  -- what the values must be besides
  pub sound : Type 0
  -- the slots that it uses, each with its name, the console aside
  pub names : Names
  -- whether its STIL file is read as it comes, and not taken whole
  pub streams : Bool
  -- a fault of its own in its files
  pub holds : Files → Fault → Type 0
  -- the kinds of faults that it finds only while it writes its STIL output
  pub found_writing : Kind → Type 0
  -- its outputs
  pub texts : Files → Outputs → Type 0
  -- the written form of what stands before the statement that is refused, where that is found while the STIL output is written
  pub text_before : Files → Fault → List ℕ → Type 0
