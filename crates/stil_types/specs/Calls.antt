-- What makes a scan call well formed, and which calls are refused, by how many bits each chain has, in the order of the chains (IEEE 1450-1999, Shift).
use Rattle.std.specs.Prelude.{◌≡◌, ℕ, ◌<◌, ◌≤◌, ◌==◌, ◌||◌, ⊤, Bool, IsTrue, max, List, [], ◌∷◌, length, slice_index_or, All, Option, None, Some}
use Rattle.std.specs.List.{AllPass}
use Rattle.stil_types.specs.declared.statement.ScanCall.{ScanCall}

-- the length of a string, and 0 where none is given
abbrev pub string_length : Option (List ℕ) → ℕ
string_length None = 0
string_length (Some text) = length text

-- how many characters the longest string has
abbrev pub longest_string : List (Option (List ℕ)) → ℕ
longest_string [] = 0
longest_string (string ∷ strings) = max (string_length string) (longest_string strings)

-- 0, 1 or N (48, 49, 78)
abbrev pub is_load_character : ℕ → Bool
is_load_character character = character == 48 || character == 49 || character == 78

-- L, H or X (76, 72, 88)
abbrev pub is_compare_character : ℕ → Bool
is_compare_character character = character == 76 || character == 72 || character == 88

-- each character of a string passes a test
abbrev pub IsStringOf : (ℕ → Bool) → Option (List ℕ) → Type 0
IsStringOf test None = ⊤
IsStringOf test (Some text) = AllPass test text

-- a call gives each chain at most one string of each kind, and shifts as often as its longest string asks for
pub record IsCallOn (bits : List ℕ) (call : ScanCall) : Type 0 where
  pub loads : length call.loads ≡ length bits
  pub compares : length call.compares ≡ length bits
  pub load_characters : All (IsStringOf is_load_character) call.loads
  pub compare_characters : All (IsStringOf is_compare_character) call.compares
  pub shifts : call.shifts ≡ max (longest_string call.loads) (longest_string call.compares)

-- the bits of the longest chain
abbrev pub most_bits : List ℕ → ℕ
most_bits [] = 0
most_bits (bits ∷ others) = max bits (most_bits others)

-- the character of a compare at an index; X (88) where there is none
abbrev pub compare_character : Option (List ℕ) → ℕ → ℕ
compare_character None index = 88
compare_character (Some text) index = slice_index_or text index 88

-- what a call compares a chain's output with in a shift
abbrev pub compare_at : ScanCall → ℕ → ℕ → ℕ
compare_at call chain index = compare_character (slice_index_or call.compares chain None) index

-- L or H (76, 72)
abbrev pub is_expectation : ℕ → Bool
is_expectation character = character == 76 || character == 72

-- the call shifts at least once and fewer times than the longest chain has bits
pub record IsShortLoadOn (bits : List ℕ) (call : ScanCall) : Type 0 where
  pub shifts : 0 < call.shifts
  pub short : call.shifts < most_bits bits

-- an L or H stands at an index that isn't below its chain's bits
pub record IsLongCompareOn (bits : List ℕ) (call : ScanCall) : Type 0 where
  pub chain : ℕ
  pub index : ℕ
  pub is_chain : chain < length bits
  pub beyond : slice_index_or bits chain 0 ≤ index
  pub stands : IsTrue (is_expectation (compare_at call chain index))

-- neither holds
pub record IsAcceptedOn (bits : List ℕ) (call : ScanCall) : Type 0 where
  pub not_short : ¬ IsShortLoadOn bits call
  pub not_long : ¬ IsLongCompareOn bits call
