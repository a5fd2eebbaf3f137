-- What a table of cells holds.
use Rattle.std.specs.Prelude.{ℕ, false, true, List, [], ◌∷◌, codes, Option}
use Rattle.std.specs.Map.{lookup}
use Rattle.std.specs.Str.{bytes_eq}
use Rattle.cell_table.specs.Cells.{Cells}
use Rattle.cell_table.specs.declared.paths.ScanPath.{ScanPath}

-- the paths of the cell of a name
abbrev pub paths_at : List ℕ → List (List ℕ × List ScanPath) → Option (List ScanPath)
paths_at cell cells = lookup (bytes_eq cell) cells

-- a path of one bit and one out pin without inversion
abbrev pub one_path : List ℕ → List ℕ → ScanPath
one_path input out = record { input = input; bits = false ∷ []; outs = record { pin = out; inverted = false } ∷ [] }

-- the cells of the small table
abbrev pub small_cells : Cells
small_cells =
    (codes "BUF", record { input = codes "A"; bits = []; outs = record { pin = codes "Z"; inverted = false } ∷ [] } ∷ [])
    ∷ (codes "LK", record { input = codes "D"; bits = []; outs = record { pin = codes "Q"; inverted = false } ∷ [] } ∷ [])
    ∷ (codes "SDF", record { input = codes "SI"; bits = false ∷ []; outs = record { pin = codes "Q"; inverted = false } ∷ record { pin = codes "QN"; inverted = true } ∷ [] } ∷ [])
    ∷ []
