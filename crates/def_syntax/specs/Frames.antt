-- How the statements of a DEF text are cut into sections.
use Rattle.std.specs.Prelude.{◌≡◌, ℕ, Bool, true, false, ◌&&◌, if◌then◌else◌, List, [], ◌∷◌, ◌++◌, Option, Some, None, codes}
use Rattle.std.specs.List.{flat_map, AllByRecursion as Each}
use Rattle.std.specs.Str.{bytes_eq}
use Rattle.token_forms.specs.Tokens.{Token, place_of}
use Rattle.def_syntax.specs.declared.frame.SectionKind.{SectionKind}
use Rattle.def_syntax.specs.declared.frame.SectionKind.TheVariants.{Components, Pins, Nets, ScanChains}

-- the word that opens a section and stands behind its END
abbrev pub word_of : SectionKind → List ℕ
word_of Components = codes "COMPONENTS"
word_of Pins = codes "PINS"
word_of Nets = codes "NETS"
word_of ScanChains = codes "SCANCHAINS"

-- the section that a word opens
unfoldable pub section_named : List ℕ → Option SectionKind
section_named word =
    if bytes_eq word (codes "COMPONENTS") then Some Components
    else (if bytes_eq word (codes "PINS") then Some Pins
    else (if bytes_eq word (codes "NETS") then Some Nets
    else (if bytes_eq word (codes "SCANCHAINS") then Some ScanChains
    else None)))

-- the section that a statement opens by its first token, whatever follows
abbrev pub opened_by : List Token → Option SectionKind
opened_by [] = None
opened_by (t ∷ ts) = section_named t.text

-- the statement is END and this word
abbrev pub is_end : List ℕ → List Token → Bool
is_end word [] = false
is_end word (t ∷ []) = false
is_end word (t ∷ u ∷ []) = bytes_eq t.text (codes "END") && bytes_eq u.text word
is_end word (t ∷ u ∷ v ∷ ts) = false

-- the statement is a word, any token and a semicolon
abbrev pub is_head : List Token → Bool
is_head [] = false
is_head (t ∷ []) = false
is_head (t ∷ u ∷ []) = false
is_head (t ∷ u ∷ v ∷ []) = bytes_eq v.text (codes ";")
is_head (t ∷ u ∷ v ∷ w ∷ ts) = false

-- a statement outside sections; or a section: its first statement, those within, and its END
pub data Block : Type 0 where
  Outside : List Token → Block
  Section : SectionKind → List Token → List (List Token) → List Token → Block

-- a section that isn't closed: its first statement and those behind it
pub record Begun : Type 0 where
  pub kind : SectionKind
  pub first : List Token
  pub inner : List (List Token)

-- statements as blocks, behind which a section may stand that isn't closed
pub record Frame : Type 0 where
  pub blocks : List Block
  pub begun : Option Begun

-- none of the statements is the section's END
abbrev pub NoneEnds : SectionKind → List (List Token) → Type 0
NoneEnds kind ss = Each (λ s. is_end (word_of kind) s ≡ false) ss

-- a statement outside opens no section; a section goes from the statement that opens it to its first END
abbrev pub IsBlock : Block → Type 0
IsBlock (Outside s) = opened_by s ≡ None
IsBlock (Section kind first inner last) = (opened_by first ≡ Some kind) × NoneEnds kind inner × (is_end (word_of kind) last ≡ true)

-- the section that isn't closed was opened by its first statement, and none of those behind it is its END
abbrev pub IsBegun : Option Begun → Type 0
IsBegun None = Unit {0}
IsBegun (Some b) = (opened_by b.first ≡ Some b.kind) × NoneEnds b.kind b.inner

-- the statements of a block
abbrev pub statements_in : Block → List (List Token)
statements_in (Outside s) = s ∷ []
statements_in (Section kind first inner last) = first ∷ (inner ++ last ∷ [])

-- its statements; none without such a section
abbrev pub begun_statements : Option Begun → List (List Token)
begun_statements None = []
begun_statements (Some b) = b.first ∷ b.inner

-- these are the blocks of the statements
pub record IsFrame (f : Frame) (ss : List (List Token)) : Type 0 where
  pub blocks : Each IsBlock f.blocks
  pub begun : IsBegun f.begun
  pub is : ss ≡ flat_map statements_in f.blocks ++ begun_statements f.begun

-- the statements outside sections
abbrev pub outside_of : Block → List (List Token)
outside_of (Outside s) = s ∷ []
outside_of (Section kind first inner last) = []

-- the same of all blocks
abbrev pub outside : List Block → List (List Token)
outside blocks = flat_map outside_of blocks

-- the statements within the sections of a kind
abbrev pub within_block : SectionKind → Block → List (List Token)
within_block kind (Outside s) = []
within_block kind (Section k first inner last) = if bytes_eq (word_of kind) (word_of k) then inner else []

-- the same of all blocks
abbrev pub within : SectionKind → List Block → List (List Token)
within kind blocks = flat_map (within_block kind) blocks

-- where a statement begins
abbrev pub start_of : List Token → ℕ
start_of s = (place_of s).start
