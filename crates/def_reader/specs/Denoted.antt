-- The design that a DEF text without a fault denotes.
use Rattle.std.specs.Prelude.{◌≡◌, ℕ, List}
use Rattle.cell_table.specs.Cells.{Cells}
use Rattle.def_syntax.specs.Designs.{IsDesignText}
use Rattle.def_syntax.specs.declared.design.DesignText.{DesignText}
use Rattle.def_reader.specs.declared.design.Design.{Design}
use Rattle.def_reader.specs.Designs.{design_of}
use Rattle.def_reader.specs.Faults.{NumberAt, TwiceAt}

-- a text whose numbers are within their limits and of which nothing stands twice denotes the design that its statements make
pub record DenotesDesign (text : List ℕ) (cells : Cells) (d : Design) : Type 0 where
  pub statements : DesignText
  pub reads : IsDesignText text statements
  pub numbers : (line : ℕ) → NumberAt statements line → ⊥
  pub once : (line : ℕ) → TwiceAt text statements line → ⊥
  pub is : d ≡ design_of text cells statements
