-- The procedures and macros of a head, and the words in UserKeywords (IEEE 1450-1999, Procedures, MacroDefs and UserKeywords, in
-- this profile).
use Rattle.std.specs.Prelude.{ℕ, zero, suc, Bool, true, false, ◌&&◌, ◌||◌, if◌then◌else◌, List, [], ◌∷◌, length, drop, codes, Option, Some, None}
use Rattle.std.specs.List.{flat_map}
use Rattle.base_types.specs.Names.{plain_name}
use Rattle.token_forms.specs.Tokens.{Token}
use Rattle.stil_syntax.specs.Names.{name_at}
use Rattle.stil_syntax.specs.Shapes.{behind_labels, in_block, begins_behind}
use Rattle.stil_blocks.specs.declared.callee.ReadCallee.{ReadCallee}
use Rattle.stil_blocks.specs.Statements.{statements_of, start_of, is_whole, has_word, behind_word, opens, statements_in}
use Rattle.stil_blocks.specs.Chains.{listed}

-- Shift { .. }
unfoldable pub begins_shift : List Token → Bool
begins_shift ts = has_word (codes "Shift") ts && opens (behind_word ts)

-- at some depth a statement begins that passes a test; begins tells whether one begins at the first of the tokens
abbrev pub holds : (List Token → Bool) → Bool → List Token → Bool
holds test begins [] = false
holds test begins (t ∷ ts) = (begins && test (t ∷ ts)) || holds test (begins_behind t.text) ts

-- the statements of a block hold a Shift, at whatever depth
abbrev pub holds_shift : List Token → Bool
holds_shift body = holds begins_shift true body

-- name { .. } by its name, which is plain
abbrev pub named_callee : List Token → Option (List ℕ × List Token) → Option ReadCallee
named_callee s None = None
named_callee s (Some n) =
    if opens n.1 then Some (record { place = start_of s; callee = record { name = plain_name n.0; scan = holds_shift (in_block s) } }) else None

-- the procedure or macro that a statement defines, if it is of its form
unfoldable pub callee_at : List Token → Option ReadCallee
callee_at s = if is_whole s then named_callee s (name_at (behind_labels s)) else None

-- the procedures or macros of a statement of the head with this word
unfoldable pub block_callees : List ℕ → List Token → List ReadCallee
block_callees word s = if has_word word s then flat_map (λ p. listed (callee_at p)) (statements_in s) else []

-- those that a head defines under this word, in order
abbrev pub callees_of : List ℕ → List ℕ → List ReadCallee
callees_of word text = flat_map (block_callees word) (statements_of text)

-- the names among tokens, of which there are no more than so many, as plain names
unfoldable pub names_within : ℕ → List Token → List (List ℕ)
names_within zero ts = []
names_within (suc n) ts = elim (name_at ts) [ None ↦ names_within n (drop 1 ts) | Some name ↦ plain_name name.0 ∷ names_within n name.1 ]

-- the names in a UserKeywords statement
unfoldable pub statement_keywords : List Token → List (List ℕ)
statement_keywords s = if has_word (codes "UserKeywords") s then names_within (length (behind_word s)) (behind_word s) else []

-- the names in the UserKeywords statements of a head
abbrev pub keywords_of : List ℕ → List (List ℕ)
keywords_of text = flat_map statement_keywords (statements_of text)
