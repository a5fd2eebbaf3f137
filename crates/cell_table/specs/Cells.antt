-- The cells that a TOML document holds.
use Rattle.std.specs.Prelude.{◌≡◌, ℕ, suc, ℤ, pos, nat_le, Bool, true, false, ◌&&◌, ◌||◌, not, ◌==◌, if◌then◌else◌, List, [], ◌∷◌, ◌++◌, length, map, codes, Option, Some, None, option_and_then, Result, Ok, Err}
use Rattle.std.specs.List.{list_any, flat_map}
use Rattle.std.specs.Ordering.{int_eq}
use Rattle.std.specs.Str.{bytes_eq, is_utf8}
use Rattle.base_types.specs.declared.fault.Fault.{Fault}
use Rattle.base_types.specs.declared.fault.FileKind.TheVariants.{Table as in_table}
use Rattle.base_types.specs.declared.kind.Kind.TheVariants.{TableSyntax, TableShape}
use Rattle.base_types.specs.declared.fault.Spot.TheVariants.{Nowhere}
use Rattle.base_types.specs.Faults.{of_cell}
use Rattle.base_types.specs.Names.{plain_name}
use Rattle.toml.specs.Data.{Data, Items, no_items, item, Members, no_members, member, get, as_str, as_integer, as_array, as_table, get_member}
use Rattle.toml.specs.Parse.{parse_document}
use Rattle.cell_table.specs.declared.paths.OutPin.{OutPin}
use Rattle.cell_table.specs.declared.paths.ScanPath.{ScanPath}
use Rattle.base_types.specs.declared.stop.Stop.{Stop}
use Rattle.base_types.specs.declared.stop.Stop.TheVariants as stops

-- what a value leads to, if there is one
infixl 10 ◌>>=◌
abbrev pub ◌>>=◌ : {A B : Type 0} → Option A → (A → Option B) → Option B
o >>= f = option_and_then f o

-- a value, if the test holds
abbrev pub only_if : Bool → Option (Unit {0})
only_if true = Some tt
only_if false = None

-- what a function of the code gives: the value, or that the entry isn't of the form, unless memory runs out
abbrev pub Gives : {X : Type 0} → Result X Stop → Option X → Type 0
Gives (Ok x) read = read ≡ Some x
Gives (Err stops.NoForm) read = read ≡ None
Gives (Err stops.NoMemory) read = Unit {0}

-- how many items an array has
abbrev pub items_len : Items → ℕ
items_len no_items = 0
items_len (item d ds) = suc (items_len ds)

-- how many entries a table has
abbrev pub members_len : Members → ℕ
members_len no_members = 0
members_len (member k d ms) = suc (members_len ms)

-- what stands at a key of a table, if it is of the type
abbrev pub text_at : List ℕ → Data → Option (List ℕ)
text_at key d = get key d >>= as_str

-- the array at a key
abbrev pub array_at : List ℕ → Data → Option Items
array_at key d = get key d >>= as_array

-- the table at a key
abbrev pub table_at : List ℕ → Data → Option Members
table_at key d = get key d >>= as_table

-- there is a table, of so many keys
abbrev pub is_of_len : ℕ → Option Members → Bool
is_of_len count None = false
is_of_len count (Some ms) = members_len ms == count

-- a table of so many keys
abbrev pub has_keys : ℕ → Data → Bool
has_keys count d = is_of_len count (as_table d)

-- the bit that an integer writes
abbrev pub bit_at : ℤ → Option Bool
bit_at z = if int_eq z (pos 0) then Some false else if int_eq z (pos 1) then Some true else None

-- the bit that a value writes
unfoldable pub bit_of : Data → Option Bool
bit_of d = as_integer d >>= bit_at

-- a value for each of the items, in order
unfoldable pub each_item : {X : Type 0} → (Data → Option X) → Items → Option (List X)
each_item f no_items = Some []
each_item f (item d ds) = do
  x ← f d
  xs ← each_item f ds
  Some (x ∷ xs)

-- a value for each of the members, in order
unfoldable pub each_member : {X : Type 0} → (List ℕ → Data → Option X) → Members → Option (List X)
each_member f no_members = Some []
each_member f (member k d ms) = do
  x ← f k d
  xs ← each_member f ms
  Some (x ∷ xs)

-- the bits that an array writes
abbrev pub bits_of : Items → Option (List Bool)
bits_of = each_item bit_of

-- the out pin that an entry writes
unfoldable pub out_of : List ℕ → Data → Option OutPin
out_of pin d = do
  inverted ← bit_of d
  Some (record { pin = pin; inverted = inverted })

-- the out pins that a table writes, in the order of their names
abbrev pub outs_of : Members → Option (List OutPin)
outs_of = each_member out_of

-- the in pin has a name, there are at most 1024 bits, and one out pin or more
abbrev pub are_sized : List ℕ → Items → Members → Bool
are_sized input bits outs = not (length input == 0) && nat_le (items_len bits) 1024 && not (members_len outs == 0)

-- exactly `in`, a text that isn't empty, `bits`, at most 1024 bits, and `out`, one or more pins with a bit each
unfoldable pub path_of : Data → Option ScanPath
path_of d = do
  only ← only_if (has_keys 3 d)
  input ← text_at (codes "in") d
  bits ← array_at (codes "bits") d
  outs ← table_at (codes "out") d
  sizes ← only_if (are_sized input bits outs)
  bits ← bits_of bits
  outs ← outs_of outs
  Some (record { input = input; bits = bits; outs = outs })

-- the scan paths that an array writes
abbrev pub paths_of : Items → Option (List ScanPath)
paths_of = each_item path_of

-- the pins of some paths, each in pin before its out pins
abbrev pub path_pins : ScanPath → List (List ℕ)
path_pins path = path.input ∷ map (λ out. out.pin) path.outs

-- the pins of some paths, in order
abbrev pub pins_of : List ScanPath → List (List ℕ)
pins_of paths = flat_map path_pins paths

-- some name stands behind one that is the same
unfoldable pub twice_behind : List (List ℕ) → List (List ℕ) → Bool
twice_behind before [] = false
twice_behind before (n ∷ ns) = list_any (λ m. bytes_eq m n) before || twice_behind (before ++ n ∷ []) ns

-- some name stands twice
abbrev pub has_twice : List (List ℕ) → Bool
has_twice names = twice_behind [] names

-- some pin stands twice in the paths
unfoldable pub has_pin_twice : List ScanPath → Bool
has_pin_twice paths = has_twice (pins_of paths)

-- exactly `path`, one or more paths in which each pin stands once
unfoldable pub cell_of : Data → Option (List ScanPath)
cell_of d = do
  only ← only_if (has_keys 1 d)
  values ← array_at (codes "path") d
  some ← only_if (not (items_len values == 0))
  paths ← paths_of values
  once ← only_if (not (has_pin_twice paths))
  Some paths

-- the cells of a table, each with its scan paths
abbrev pub Cells : Type 0
Cells = List (List ℕ × List ScanPath)

-- said by the cell's plain name
abbrev pub shape_fault : List ℕ → Fault
shape_fault cell = of_cell TableShape (plain_name cell)

-- one cell before the others, or its fault before theirs
abbrev pub with_cell : List ℕ → Option (List ScanPath) → Result Cells Fault → Result Cells Fault
with_cell name None others = Err (shape_fault name)
with_cell name (Some paths) (Ok cells) = Ok ((name, paths) ∷ cells)
with_cell name (Some paths) (Err fault) = Err fault

-- each cell with its paths, in the order of the names, or the fault of the first that has none
unfoldable pub cells_of : Members → Result Cells Fault
cells_of no_members = Ok []
cells_of (member name d ms) = with_cell name (cell_of d) (cells_of ms)

-- exactly `cell`, one or more cells
unfoldable pub named_cells : Members → Option Members
named_cells document = do
  cells ← get_member (codes "cell") document >>= as_table
  sizes ← only_if (members_len document == 1 && not (members_len cells == 0))
  Some cells

-- the cells of the entries, where the document has some
abbrev pub cells_in : Option Members → Result Cells Fault
cells_in None = Err (shape_fault [])
cells_in (Some cells) = cells_of cells

-- the cells of a document, or its first fault
unfoldable pub document_of : Members → Result Cells Fault
document_of document = cells_in (named_cells document)

-- the document that a text is, if it is UTF-8 and toml takes it
abbrev pub document_at : List ℕ → Option Members
document_at text = if is_utf8 text then parse_document text else None

-- the cells of a document, where the text is one
abbrev pub cells_at : Option Members → Result Cells Fault
cells_at None = Err (record { kind = TableSyntax; file = in_table; spot = Nowhere })
cells_at (Some document) = document_of document

-- the cells of a text, or its first fault
unfoldable pub table_of : List ℕ → Result Cells Fault
table_of text = cells_at (document_at text)
