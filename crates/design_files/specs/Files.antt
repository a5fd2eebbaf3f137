-- The files of a placed design, beside which the head of its patterns may stand, and what they denote.
use Rattle.std.specs.Prelude.{ℕ, List, Option, Some, None}
use Rattle.netlist_core.specs.declared.netlist.Netlist.{Netlist}
use Rattle.verilog_reader.specs.Denoted.{DenotesNetlist}
use Rattle.cell_table.specs.Cells.{Cells}
use Rattle.cell_table.specs.Entries.{DenotesCells}
use Rattle.lef_pins.specs.Macros.{NamedMacros}
use Rattle.lef_pins.specs.Denoted.{DenotesMacros}
use Rattle.def_reader.specs.declared.design.Design.{Design}
use Rattle.def_reader.specs.Denoted.{DenotesDesign}
use Rattle.stil_types.specs.declared.head.StilHead.{StilHead}
use Rattle.stil_head.specs.Heads.{DenotesHead}

-- the texts of the files of a placed design, and where there are patterns that of their head
pub record Texts : Type 0 where
  pub table : List ℕ
  pub lef : List ℕ
  pub verilog : List ℕ
  pub def : List ℕ
  pub head : Option (List ℕ)

-- the texts of four files, and maybe that of a head
abbrev pub texts_with : List ℕ → List ℕ → List ℕ → List ℕ → Option (List ℕ) → Texts
texts_with table lef verilog def head = record { table = table; lef = lef; verilog = verilog; def = def; head = head }

-- the texts of four files, without patterns
abbrev pub texts_of : List ℕ → List ℕ → List ℕ → List ℕ → Texts
texts_of table lef verilog def = texts_with table lef verilog def None

-- the same with the text of a head
abbrev pub with_head : Texts → List ℕ → Texts
with_head t text = record t { head = Some text }

-- what the texts of the four files denote
pub record AreRead (t : Texts) (cells : Cells) (macros : NamedMacros) (n : Netlist) (d : Design) : Type 0 where
  pub cells_are : DenotesCells t.table cells
  pub macros_are : DenotesMacros t.lef macros
  pub netlist_is : DenotesNetlist t.verilog n
  pub design_is : DenotesDesign t.def cells d

-- the head that a text denotes, where there is a text
abbrev pub IsHeadIn : Option (List ℕ) → Option StilHead → Type 0
IsHeadIn None None = Unit {0}
IsHeadIn None (Some head) = ⊥
IsHeadIn (Some text) None = ⊥
IsHeadIn (Some text) (Some head) = DenotesHead text head
