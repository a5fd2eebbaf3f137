-- How scan cells are written in a TOML document, entry by entry: the key `cell` alone, a table of one or more cells; each cell
-- has the key `path` alone, an array of one or more paths; each path has exactly the keys `in`, `bits` and `out`.
use Rattle.std.specs.Prelude.{◌≡◌, ◌≢◌, ◌<◌, ◌≤◌, ℕ, pos, Bool, true, false, List, [], ◌∷◌, length, codes, Some, None}
use Rattle.std.specs.List.{AllByRecursion as Each}
use Rattle.base_types.specs.declared.fault.Fault.{Fault}
use Rattle.base_types.specs.declared.kind.Kind.TheVariants.{TableSyntax, TableShape}
use Rattle.base_types.specs.declared.fault.FileKind.TheVariants.{Table as in_table}
use Rattle.base_types.specs.declared.fault.Spot.TheVariants.{Nowhere}
use Rattle.base_types.specs.Faults.{of_cell}
use Rattle.base_types.specs.Names.{plain_name}
use Rattle.std.specs.Cmp.Lexicographic.{slice_cmp}
use Rattle.std.specs.Ordering.{nat_cmp}
use Rattle.std.specs.declared.cmp.Ordering.TheVariants.{Less}
use Rattle.toml.specs.Data.{Data, Items, no_items, item, Members, no_members, member, as_integer, as_table, get_member}
use Rattle.cell_table.specs.declared.paths.OutPin.{OutPin}
use Rattle.cell_table.specs.declared.paths.ScanPath.{ScanPath}
use Rattle.cell_table.specs.Cells.{◌>>=◌, Cells, document_at, has_keys, members_len, text_at, array_at, table_at, pins_of}
use Rattle.cell_table.specs.Table.{one_path}

-- the integer 0 or 1
abbrev pub IsBit : Data → Bool → Type 0
IsBit d false = as_integer d ≡ Some (pos 0)
IsBit d true = as_integer d ≡ Some (pos 1)

-- the values of an array, one by one
abbrev pub AreItems : {X : Type 0} → (Data → X → Type 0) → Items → List X → Type 0
AreItems P no_items [] = Unit {0}
AreItems P no_items (x ∷ xs) = ⊥
AreItems P (item d ds) [] = ⊥
AreItems P (item d ds) (x ∷ xs) = P d x × AreItems P ds xs

-- the entries of a table, one by one in the order of their keys
abbrev pub AreMembers : {X : Type 0} → (List ℕ → Data → X → Type 0) → Members → List X → Type 0
AreMembers P no_members [] = Unit {0}
AreMembers P no_members (x ∷ xs) = ⊥
AreMembers P (member k d ms) [] = ⊥
AreMembers P (member k d ms) (x ∷ xs) = P k d x × AreMembers P ms xs

-- an out pin and its inversion
pub record IsOut (pin : List ℕ) (d : Data) (out : OutPin) : Type 0 where
  pub named : out.pin ≡ pin
  pub inverted : IsBit d out.inverted

-- a scan path: an in pin, at most 1024 bits, one or more out pins
pub record IsPath (d : Data) (path : ScanPath) : Type 0 where
  pub bits : Items
  pub outs : Members
  pub keys : has_keys 3 d ≡ true
  pub input_at : text_at (codes "in") d ≡ Some path.input
  pub bits_at : array_at (codes "bits") d ≡ Some bits
  pub outs_at : table_at (codes "out") d ≡ Some outs
  pub named : 0 < length path.input
  pub few : length path.bits ≤ 1024
  pub some : 0 < length path.outs
  pub bits_are : AreItems IsBit bits path.bits
  pub outs_are : AreMembers IsOut outs path.outs

-- no name stands twice
abbrev pub AreDistinct : List (List ℕ) → Type 0
AreDistinct [] = Unit {0}
AreDistinct (n ∷ ns) = Each (λ m. m ≢ n) ns × AreDistinct ns

-- a cell: one or more paths in which each pin stands once
pub record IsCell (d : Data) (paths : List ScanPath) : Type 0 where
  pub values : Items
  pub keys : has_keys 1 d ≡ true
  pub at : array_at (codes "path") d ≡ Some values
  pub some : 0 < length paths
  pub are : AreItems IsPath values paths
  pub once : AreDistinct (pins_of paths)

-- the entry of this name is this cell
pub record IsNamedCell (name : List ℕ) (d : Data) (cell : List ℕ × List ScanPath) : Type 0 where
  pub named : cell.0 ≡ name
  pub is : IsCell d cell.1

-- the document has the one key `cell`, with one or more entries
pub record HasCells (document entries : Members) : Type 0 where
  pub keys : members_len document ≡ 1
  pub at : (get_member (codes "cell") document >>= as_table) ≡ Some entries
  pub some : 0 < members_len entries

-- the text is a TOML document that holds these cells, and nothing else
pub record DenotesCells (text : List ℕ) (cells : Cells) : Type 0 where
  pub document : Members
  pub entries : Members
  pub is : document_at text ≡ Some document
  pub has : HasCells document entries
  pub are : AreMembers IsNamedCell entries cells

-- the entry of a name is no cell, and those of all lesser names, by their bytes, are
pub record IsLeastBad (entries : Members) (name : List ℕ) : Type 0 where
  pub entry : Data
  pub there : get_member name entries ≡ Some entry
  pub bad : (paths : List ScanPath) → IsCell entry paths → ⊥
  pub least : (other : List ℕ) (d : Data) → get_member other entries ≡ Some d → slice_cmp nat_cmp other name ≡ Less → (paths : List ScanPath) × IsCell d paths

-- what may be wrong with the text of a table
pub data HoldsInTable (text : List ℕ) : Fault → Type 0 where
  -- it is no TOML document
  Syntax : document_at text ≡ None → HoldsInTable text (record { kind = TableSyntax; file = in_table; spot = Nowhere })
  -- the document has something else than cells, or none
  Top : (document : Members) → document_at text ≡ Some document → ((entries : Members) → HasCells document entries → ⊥) → HoldsInTable text (of_cell TableShape [])
  -- the entry of a cell isn't of the form; it is said by its plain name
  Cell : (document entries : Members) (name : List ℕ) → document_at text ≡ Some document → HasCells document entries → IsLeastBad entries name → HoldsInTable text (of_cell TableShape (plain_name name))

-- a text denotes the cells of one table at most, and then it has no fault
abbrev pub OneTableLaw : Type 0
OneTableLaw = (text : List ℕ) (cells others : Cells) → DenotesCells text cells → DenotesCells text others → cells ≡ others

-- a text that denotes a table has no fault
abbrev pub NoFaultLaw : Type 0
NoFaultLaw = (text : List ℕ) (cells : Cells) (f : Fault) → DenotesCells text cells → HoldsInTable text f → ⊥

-- in each cell each pin stands once, over all its paths
abbrev pub HaveEachPinOnce : Cells → Type 0
HaveEachPinOnce cells = Each (λ cell. AreDistinct (pins_of cell.1)) cells

-- so it is in the cells that a text denotes, and in a table of one cell whose in pin isn't its out pin
abbrev pub PinsLaw : Type 0
PinsLaw = (text : List ℕ) (cells : Cells) → DenotesCells text cells → HaveEachPinOnce cells

-- the table of one cell has each pin once, where the in pin isn't the out pin
abbrev pub OneCellPinsLaw : Type 0
OneCellPinsLaw = (cell input out : List ℕ) → input ≢ out → HaveEachPinOnce ((cell, one_path input out ∷ []) ∷ [])
