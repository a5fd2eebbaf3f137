-- What the checks know on their way over the statements: which numbers are small, and what was declared so far.
use Rattle.std.specs.Prelude.{◌≡◌, ℕ, ◌<◌, Bool, true, false, ◌&&◌, ◌||◌, not, if◌then◌else◌, List, [], ◌++◌}
use Rattle.std.specs.List.{list_any, list_all}
use Rattle.std.specs.HashSet.{HashSet, contains_by}
use Rattle.std.specs.Borrow.{Bor}
use Rattle.std.specs.Str.{bytes_eq}
use Rattle.verilog_syntax.specs.declared.statement.Statement.{Statement}
use Rattle.verilog_syntax.specs.declared.statement.Statement.TheVariants as statements
use Rattle.verilog_syntax.specs.declared.reading.Placed.{Placed}
use Rattle.verilog_names.specs.declared.declared.First.{First}
use Rattle.verilog_checks.specs.declared.number.Vectors.{Vectors}
use Rattle.verilog_checks.specs.declared.select.Known.{Known}
use Rattle.verilog_names.specs.Values.{unescaped}
use Rattle.verilog_names.specs.Declarations.{Declaration, is_named, items_in, is_port_kind, declarations, has, header_ports}
use Rattle.verilog_names.specs.NameTables.{known_bounds}
use Rattle.verilog_checks.specs.Faults.{is_bad_number, is_bad_range, range_in, is_vector, vector_bits, is_bad_select, differ_in_width, has_direction}

-- a number of the statement itself passes its limit
abbrev pub has_bad_number : Statement → Bool
has_bad_number statement = is_bad_range (range_in statement) || list_any is_bad_number (items_in statement)

-- no number of the statements does, as the number check finds out
abbrev pub are_small : List Placed → Bool
are_small ps = list_all (λ p. not (has_bad_number p.statement)) ps

-- the names of the code are those of the vectors that are declared, and the bits are theirs together
pub record AreCounted (vectors : Vectors) (ds : List Declaration) : Type 0 where
  pub names : (q : List ℕ) → contains_by (λ k. bytes_eq q k.now) vectors.names ≡ list_any (λ d. is_named q d && is_vector d) ds
  pub bits : vectors.bits ≡ vector_bits ds

-- these declarations were counted too, or are too many
abbrev pub Counts : Bool → Vectors → Vectors → List Declaration → Type 0
Counts true old new more = (ds : List Declaration) → AreCounted old ds → AreCounted new (ds ++ more)
Counts false old new more = (ds : List Declaration) → AreCounted old ds → 16777216 < vector_bits (ds ++ more)

-- a set of the code has a name
abbrev pub has_key : {S : Type 0} → HashSet (Bor (List ℕ)) S → List ℕ → Bool
has_key set name = contains_by (λ k. bytes_eq name k.now) set

-- the names that the header lists, as they are written
abbrev pub listed_in : Statement → List (List ℕ)
listed_in (statements.Module name ports) = ports
listed_in (statements.Declare kind range names) = []
listed_in (statements.Assign left right) = []
listed_in (statements.Instance cell name connections) = []

-- the names that a statement gives a direction
abbrev pub directed_in : Statement → List (List ℕ)
directed_in (statements.Module name ports) = []
directed_in (statements.Declare kind range names) = if is_port_kind kind then names else []
directed_in (statements.Assign left right) = []
directed_in (statements.Instance cell name connections) = []

-- what the code keeps of the ports is so
pub record IsGathered (known : Known) (ps : List Placed) : Type 0 where
  pub ports : (name : List ℕ) → has_key known.ports name ≡ has (header_ports ps) name
  pub directed : (name : List ℕ) → has_key known.directed name ≡ has_direction (declarations ps) name

-- the statement is bad by what the code keeps
abbrev pub is_bad_beside : List (List ℕ × First) → Known → Statement → Bool
is_bad_beside names known statement =
    list_any (is_bad_select (known_bounds names)) (items_in statement)
    || differ_in_width (known_bounds names) statement
    || list_any (λ name. not (has_key known.directed (unescaped name))) (listed_in statement)
    || list_any (λ name. not (has_key known.ports (unescaped name))) (directed_in statement)
