-- The small table of the tests, as it is defined.
use Rattle.std.proofs.Common.{◌≡◌, ℕ, List, codes, Ok, refl}
use Rattle.std.specs.Str.{is_utf8, chars}
use Rattle.toml.proofs.OnLiterals.{toml_on_literals}
use Rattle.cell_table.specs.Table.{small_cells}
use Rattle.cell_table.specs.Cells.{table_of, document_of, named_cells, cells_of, cell_of, path_of, out_of, bit_of, each_item, each_member, has_pin_twice, twice_behind}

abbrev pub small : List ℕ
small = codes "[[cell.SDF.path]]\nin = \"SI\"\nbits = [0]\nout = { Q = 0, QN = 1 }\n[[cell.LK.path]]\nin = \"D\"\nbits = []\nout = { Q = 0 }\n[[cell.BUF.path]]\nin = \"A\"\nbits = []\nout = { Z = 0 }\n"

pub small_table : table_of small ≡ Ok small_cells
unfolding toml_on_literals is_utf8 chars table_of document_of named_cells cells_of cell_of path_of out_of bit_of each_item each_member has_pin_twice twice_behind
small_table = refl
