-- A list of cells is read as it stands.
use Rattle.std.proofs.Common.{◌≡◌, ℕ, zero, suc, ◌<◌, ◌≤◌, Bool, true, false, cond, List, [], ◌∷◌, length, Option, Some, None, refl, sym, ap, ◌∙◌, subst, arith}
use Rattle.token_forms.specs.Tokens.{Token}
use Rattle.stil_tokens.specs.StilStatements.{is_only}
use Rattle.stil_blocks.specs.declared.cells.Cell.{Cell}
use Rattle.stil_blocks.specs.declared.cells.CellList.{CellList}
use Rattle.stil_blocks.specs.Statements.{start_of, is_end}
use Rattle.stil_blocks.specs.Chains.{cell_at, put_cell, no_cells, cells_within, cells_at}
use Rattle.head_alike.specs.Cells.{IsCellAt, AreCells, put_cells, CellsLaw}

cells_end : (n : ℕ) (list : CellList) (d : Token) → d.text ≡ 59 ∷ [] → cells_within (suc n) list (d ∷ []) ≡ Some (list, d.start)
unfolding cells_within
cells_end n list d e =
    ap (λ (b : Bool). cond b (Some (list, start_of (d ∷ []))) (elim (cell_at (d ∷ [])) [ None ↦ None | Some cell ↦ cells_within n (put_cell list cell.0) cell.1 ])) (ap (is_only 59) e)

cells_more : (n : ℕ) (list : CellList) (ts rest : List Token) (c : Cell) → is_end ts ≡ false → cell_at ts ≡ Some (c, rest) → cells_within (suc n) list ts ≡ cells_within n (put_cell list c) rest
unfolding cells_within
cells_more n list ts rest c e f =
    ap (λ (b : Bool). cond b (Some (list, start_of ts)) (elim (cell_at ts) [ None ↦ None | Some cell ↦ cells_within n (put_cell list cell.0) cell.1 ])) e
    ∙ ap (λ (o : Option (Cell × List Token)). elim o [ None ↦ None | Some cell ↦ cells_within n (put_cell list cell.0) cell.1 ]) f

cells_are : (cs : List Cell) (n : ℕ) (d : Token) (ts : List Token) (list : CellList) → length ts ≤ n → d.text ≡ 59 ∷ [] → AreCells d cs ts → cells_within n list ts ≡ Some (put_cells list cs, d.start)
cells_are [] zero d ts list short e are = absurd (let k : length ts ≡ 1 = ap length are in omega (arith, k))
cells_are [] (suc n) d ts list short e are = ap (cells_within (suc n) list) are ∙ cells_end n list d e
cells_are (c ∷ cs) zero d ts list short e are = absurd (let k = are.shorter in omega (arith, k))
cells_are (c ∷ cs) (suc n) d ts list short e are =
    let k = are.shorter in
    cells_more n list ts are.rest c are.no_end are.is ∙ cells_are cs n d are.rest (put_cell list c) (omega (arith, k)) e are.more

pub cells_law : CellsLaw
cells_law d cs ts e are = cells_are cs (length ts) d ts no_cells (omega arith) e are
