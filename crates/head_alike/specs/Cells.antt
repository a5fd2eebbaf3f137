-- Cells one behind the other up to a ; (IEEE 1450-1999, ScanCells).
use Rattle.std.specs.Prelude.{◌≡◌, ℕ, ◌<◌, Bool, true, false, List, [], ◌∷◌, length, Option, Some}
use Rattle.token_forms.specs.Tokens.{Token}
use Rattle.stil_blocks.specs.declared.cells.Cell.{Cell}
use Rattle.stil_blocks.specs.declared.cells.CellList.{CellList}
use Rattle.stil_blocks.specs.Statements.{is_end}
use Rattle.stil_blocks.specs.Chains.{cell_at, put_cell, no_cells, cells_at}

-- cells stand in front of a ; one behind the other
pub record IsCellAt (cell : Cell) (ts : List Token) (More : List Token → Type 0) : Type 0 where
  pub rest : List Token
  pub is : cell_at ts ≡ Some (cell, rest)
  pub no_end : is_end ts ≡ false
  pub shorter : length rest < length ts
  pub more : More rest

-- these cells stand at the front of tokens, one behind the other, and then the last token
abbrev pub AreCells : Token → List Cell → List Token → Type 0
AreCells d [] ts = ts ≡ d ∷ []
AreCells d (c ∷ cs) ts = IsCellAt c ts (AreCells d cs)

-- all put to a list
abbrev pub put_cells : CellList → List Cell → CellList
put_cells list [] = list
put_cells list (c ∷ cs) = put_cells (put_cell list c) cs

-- they are read as themselves
abbrev pub CellsLaw : Type 0
CellsLaw = (d : Token) (cs : List Cell) (ts : List Token) → d.text ≡ 59 ∷ [] → AreCells d cs ts → cells_at ts ≡ Some (put_cells no_cells cs, d.start)
