-- What may be wrong with the head of a STIL text (IEEE 1450-1999, in this profile), and where it stands: at the first token of the
-- statement concerned, what is wrong in a ScanChain at the ScanChain, and what is missing at the text's beginning.
use Rattle.std.specs.Prelude.{ℕ, Bool, false, ◌&&◌, ◌||◌, not, if◌then◌else◌, List, [], ◌∷◌, ◌++◌, codes, is_some, Contains}
use Rattle.std.specs.List.{flat_map, list_any}
use Rattle.std.specs.Str.{bytes_eq}
use Rattle.base_types.specs.Faults.{at_line}
use Rattle.base_types.specs.Lines.{line_at}
use Rattle.base_types.specs.declared.fault.Fault.{Fault}
use Rattle.base_types.specs.declared.fault.FileKind.TheVariants.{Stil}
use Rattle.base_types.specs.declared.kind.Kind.TheVariants.{StilSyntax, StilTwice, Unsupported}
use Rattle.token_forms.specs.Tokens.{Token}
use Rattle.stil_tokens.specs.StilStatements.{is_only}
use Rattle.stil_syntax.specs.Shapes.{behind_labels}
use Rattle.stil_head.specs.Ends.{head_text}
use Rattle.list_laws.specs.Leasts.{place_if}
use Rattle.stil_blocks.specs.Statements.{statements_of, start_of, is_whole, is_worded, has_word, behind_word, opens_maybe_named, statements_in}
use Rattle.stil_blocks.specs.Chains.{chain_at}
use Rattle.stil_blocks.specs.Callees.{callee_at}
use Rattle.stil_head.specs.Twice.{twice_places}
use Rattle.stil_head.specs.Unsupported.{unsupported_places}

-- StilSyntax: a statement matches no form, or ScanStructures is missing

-- ; or a block
abbrev pub ends_or_opens : List ℕ → Bool
ends_or_opens text = is_only 59 text || is_only 123 text

-- STIL 1.0 ;    STIL 1.0 { ..
abbrev pub begins_stil : List Token → Bool
begins_stil [] = false
begins_stil (t ∷ []) = false
begins_stil (t ∷ u ∷ []) = false
begins_stil (t ∷ u ∷ v ∷ ts) = bytes_eq t.text (codes "STIL") && (bytes_eq u.text (codes "1.0") && ends_or_opens v.text)

-- a statement is STIL 1.0
unfoldable pub is_stil : List Token → Bool
is_stil s = begins_stil (behind_labels s)

-- a statement that hasn't its end or a word
unfoldable pub is_unread : List Token → Bool
is_unread s = not (is_whole s && is_worded s)

-- the first statement is another
abbrev pub first_places : List (List Token) → List ℕ
first_places [] = []
first_places (s ∷ ss) = place_if (not (is_stil s)) (start_of s)

-- in ScanStructures: a statement without its end, or a ScanChain of no form
unfoldable pub is_bad_item : List ℕ → List Token → Bool
is_bad_item text s = not (is_whole s) || (has_word (codes "ScanChain") s && not (is_some (chain_at text s)))

-- the statements without their end in the block of a statement
abbrev pub open_places : List (List Token) → List ℕ
open_places ss = flat_map (λ s. place_if (not (is_whole s)) (start_of s)) ss

-- in Procedures or MacroDefs: a statement that defines none, or in one that does a statement without its end
unfoldable pub callee_faults : List Token → List ℕ
callee_faults s = if is_some (callee_at s) then open_places (statements_in s) else start_of s ∷ []

-- in ScanStructures
abbrev pub item_places : List ℕ → List (List Token) → List ℕ
item_places text ss = flat_map (λ s. place_if (is_bad_item text s) (start_of s)) ss

-- in the block of a statement by its word
unfoldable pub block_faults : List ℕ → List Token → List ℕ
block_faults text s =
    if has_word (codes "ScanStructures") s then item_places text (statements_in s)
    else (if has_word (codes "Procedures") s || has_word (codes "MacroDefs") s then flat_map callee_faults (statements_in s) else [])

-- a statement with a block that is read
unfoldable pub is_read : List Token → Bool
is_read s = has_word (codes "ScanStructures") s || (has_word (codes "Procedures") s || has_word (codes "MacroDefs") s)

-- a statement of the head matches no form: it hasn't its end or a word, or it is read and hasn't a block behind its word or name
unfoldable pub is_bad : List Token → Bool
is_bad s = is_unread s || (is_read s && not (opens_maybe_named (behind_word s)))

-- in a statement of the head
unfoldable pub statement_faults : List ℕ → List Token → List ℕ
statement_faults text s = if is_bad s then start_of s ∷ [] else block_faults text s

-- in the statements of a head
abbrev pub syntax_in : List ℕ → List (List Token) → List ℕ
syntax_in text ss =
    first_places ss ++ (flat_map (statement_faults text) ss ++ place_if (not (list_any (has_word (codes "ScanStructures")) ss)) 0)

-- in a head
abbrev pub syntax_places : List ℕ → List ℕ
syntax_places text = syntax_in text (statements_of text)

-- what may be wrong with a head by its text
pub data HoldsInText (text : List ℕ) : Fault → Type 0 where
  Syntax : (place : ℕ) → Contains (syntax_places text) place → HoldsInText text (at_line StilSyntax Stil (line_at text place))
  Twice : (place : ℕ) → Contains (twice_places text) place → HoldsInText text (at_line StilTwice Stil (line_at text place))
  Barred : (place : ℕ) → Contains (unsupported_places text) place → HoldsInText text (at_line Unsupported Stil (line_at text place))

-- what may be wrong with the head of a STIL text
abbrev pub HoldsInHead : List ℕ → Fault → Type 0
HoldsInHead bytes fault = HoldsInText (head_text bytes) fault
