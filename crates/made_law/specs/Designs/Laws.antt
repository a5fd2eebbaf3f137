-- What the made cell table, LEF and DEF denote, for every number of units that `make_design` takes.
use Rattle.std.specs.Prelude.{◌≡◌, ℕ, ◌≤◌, List}
use Rattle.base_types.specs.declared.fault.Fault.{Fault}
use Rattle.cell_table.specs.Cells.{Cells}
use Rattle.cell_table.specs.Entries.{DenotesCells, HoldsInTable}
use Rattle.cell_table.specs.Table.{small_cells}
use Rattle.design_maker.specs.MadeCells.{table_text, lef_text}
use Rattle.design_maker.specs.MadeDef.{def_text}
use Rattle.lef_pins.specs.Denoted.{DenotesMacros}
use Rattle.lef_pins.specs.Faults.{HoldsInLef}
use Rattle.def_layout.specs.Words.{texts}
use Rattle.def_reader.specs.Denoted.{DenotesDesign}
use Rattle.def_reader.specs.Faults.{HoldsInDesign}
use Rattle.made_law.specs.Designs.Places.{Places}
use Rattle.made_law.specs.Designs.MadeMacros.{made_macros}
use Rattle.made_law.specs.Designs.MadeStatements.{flat, made_statements}
use Rattle.made_law.specs.Designs.MadeDesign.{made_design}

-- the table denotes a flop, a latch and a buffer
abbrev pub TableLaw : Type 0
TableLaw = DenotesCells table_text small_cells

-- and nothing is wrong with it
abbrev pub NoTableFaultLaw : Type 0
NoTableFaultLaw = (fault : Fault) → HoldsInTable table_text fault → ⊥

-- the LEF denotes the macro of the flop
abbrev pub MacrosLaw : Type 0
MacrosLaw = DenotesMacros lef_text made_macros

-- and nothing is wrong with it
abbrev pub NoLefFaultLaw : Type 0
NoLefFaultLaw = (fault : Fault) → HoldsInLef lef_text fault → ⊥

-- the tokens of the DEF are the words of its statements
abbrev pub StatementsLaw : Type 0
StatementsLaw = (n : ℕ) → texts (def_text n) ≡ flat (made_statements n)

-- a text denotes the design of n units, whatever the table of cells: each pin of its chains is written
pub record DenotesMadeDesign (text : List ℕ) (n : ℕ) : Type 0 where
  -- where its statements stand
  pub at : Places
  pub denotes : (cells : Cells) → DenotesDesign text cells (made_design at n)

-- so does the DEF of n units
abbrev pub DesignLaw : Type 0
DesignLaw = (n : ℕ) → 8 ≤ n → n ≤ 16384 → DenotesMadeDesign (def_text n) n

-- and nothing is wrong with it by itself
abbrev pub NoDefFaultLaw : Type 0
NoDefFaultLaw = (n : ℕ) → 8 ≤ n → n ≤ 16384 → (fault : Fault) → HoldsInDesign (def_text n) fault → ⊥
