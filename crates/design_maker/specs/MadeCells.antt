-- The cell table and the LEF.
use Rattle.std.specs.Prelude.{ℕ, List, codes}

-- a flop, a latch and a buffer
abbrev pub table_text : List ℕ
table_text = codes "[[cell.SDF.path]]\nin = \"SI\"\nbits = [0]\nout = { Q = 0, QN = 1 }\n[[cell.LK.path]]\nin = \"D\"\nbits = []\nout = { Q = 0 }\n[[cell.BUF.path]]\nin = \"A\"\nbits = []\nout = { Z = 0 }\n"

-- the flop alone
abbrev pub lef_text : List ℕ
lef_text = codes "MACRO SDF\n  SIZE 2 BY 2 ;\n  PIN SI PORT LAYER M1 ; RECT 0.9 0.9 1.1 1.1 ; END END SI\n  PIN Q PORT LAYER M1 ; RECT 0.9 0.9 1.1 1.1 ; END END Q\n  PIN QN PORT LAYER M1 ; RECT 0.9 0.9 1.1 1.1 ; END END QN\nEND SDF\nEND LIBRARY\n"
