-- Which names of a head stand a second time: a chain's, a port's among all ScanIn and ScanOut together, a procedure's or a macro's
-- (IEEE 1450-1999, ScanStructures, Procedures and MacroDefs). It is found where the later one stands.
use Rattle.std.specs.Prelude.{ℕ, List, [], ◌∷◌, ◌++◌, map, codes}
use Rattle.std.specs.List.{flat_map, list_any}
use Rattle.std.specs.Str.{bytes_eq}
use Rattle.stil_blocks.specs.declared.chain.ReadChain.{ReadChain}
use Rattle.stil_blocks.specs.declared.callee.ReadCallee.{ReadCallee}
use Rattle.list_laws.specs.Leasts.{place_if}
use Rattle.stil_blocks.specs.Chains.{chains_of}
use Rattle.stil_blocks.specs.Callees.{callees_of}

-- a name, and the place of the statement that gives it
abbrev pub Row : Type 0
Row = List ℕ × ℕ

-- the places of names that stand among these or further in front
abbrev pub again_in : List (List ℕ) → List Row → List ℕ
again_in before [] = []
again_in before (row ∷ rows) = place_if (list_any (bytes_eq row.0) before) row.1 ++ again_in (before ++ row.0 ∷ []) rows

-- a chain's name
abbrev pub chain_row : ReadChain → Row
chain_row c = (c.decl.name, c.place)

-- a chain's ports
abbrev pub port_rows : ReadChain → List Row
port_rows c = (c.decl.scan_in, c.place) ∷ (c.decl.scan_out, c.place) ∷ []

-- the name of a procedure or macro
abbrev pub callee_row : ReadCallee → Row
callee_row c = (c.callee.name, c.place)

-- in some chains, procedures and macros
abbrev pub twice_among : List ReadChain → List ReadCallee → List ReadCallee → List ℕ
twice_among chains procedures macros =
    again_in [] (map chain_row chains) ++ (again_in [] (flat_map port_rows chains) ++ (again_in [] (map callee_row procedures) ++ again_in [] (map callee_row macros)))

-- in a head
abbrev pub twice_places : List ℕ → List ℕ
twice_places text = twice_among (chains_of text) (callees_of (codes "Procedures") text) (callees_of (codes "MacroDefs") text)
