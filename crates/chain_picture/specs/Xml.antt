-- Texts of XML 1.0 that hold printable ASCII and line feeds alone.
use Rattle.std.specs.Prelude.{ℕ, ◌+◌, ◌/◌, ◌%◌, ◌≤◌, ◌⊎◌, ◌≡◌, not, Bool, true, false, ◌&&◌, ◌==◌, nat_lt, if◌then◌else◌, ℤ, List, [], ◌∷◌, ◌++◌, slice_index_or, codes, decimal}
use Rattle.std.specs.Fmt.{signed_decimal}

-- a line feed, or printable ASCII
abbrev pub IsPlainByte : ℕ → Type 0
IsPlainByte b = (b ≡ 10) ⊎ ((32 ≤ b) × (b ≤ 126))

-- one of the sixteen digits
abbrev pub digit : ℕ → ℕ
digit n = slice_index_or (codes "0123456789ABCDEF") n 48

-- how a byte of a name is written: a mark of XML as its entity, other printable ASCII but `\` as itself, and every other byte as `\xHH`
abbrev pub escaped_byte : ℕ → List ℕ
escaped_byte b =
    if b == 38 then codes "&amp;" else
    if b == 60 then codes "&lt;" else
    if b == 62 then codes "&gt;" else
    if b == 34 then codes "&quot;" else
    if nat_lt 31 b && nat_lt b 127 && not (b == 92) then b ∷ [] else
    92 ∷ 120 ∷ digit (b / 16) ∷ digit (b % 16) ∷ []

-- how a name is written
abbrev pub escaped : List ℕ → List ℕ
escaped [] = []
escaped (b ∷ bs) = escaped_byte b ++ escaped bs

-- an attribute, behind a blank
unfoldable pub attribute : List ℕ → List ℕ → List ℕ
attribute name value = codes " " ++ name ++ codes "=\"" ++ value ++ codes "\""

-- one whose value is a size
unfoldable pub size : List ℕ → ℕ → List ℕ
size name n = attribute name (decimal n)

-- one whose value is a place
unfoldable pub place : List ℕ → ℤ → List ℕ
place name z = attribute name (signed_decimal z)

-- an element without content
abbrev pub leaf : List ℕ → List ℕ → List ℕ
leaf name attributes = codes "<" ++ name ++ attributes ++ codes "/>\n"

-- an element with content
abbrev pub element : List ℕ → List ℕ → List ℕ → List ℕ
element name attributes content = codes "<" ++ name ++ attributes ++ codes ">" ++ content ++ codes "</" ++ name ++ codes ">\n"

-- the text begins with this word
abbrev pub begins_with : List ℕ → List ℕ → Bool
begins_with [] text = true
begins_with (w ∷ ws) [] = false
begins_with (w ∷ ws) (b ∷ bs) = (w == b) && begins_with ws bs

-- at how many places of a text a word stands
abbrev pub count_of : List ℕ → List ℕ → ℕ
count_of word [] = 0
count_of word (b ∷ bs) = if begins_with word (b ∷ bs) then 1 + count_of word bs else count_of word bs
