-- The blocks of a LEF, step by step as the reader takes them from the front. Meaning: Blocks and Outside; that both agree is lef_law.
use Rattle.std.specs.Prelude.{◌≡◌, ℕ, zero, suc, ◌+◌, Bool, true, false, not, if◌then◌else◌, min, List, [], ◌∷◌, ◌++◌, length, take, drop, codes}
use Rattle.std.specs.List.{flat_map, AllByRecursion}
use Rattle.std.specs.Str.{bytes_eq}
use Rattle.token_forms.specs.Tokens.{Token}
use Rattle.def_tokens.specs.DefStatements.{count_with}
use Rattle.lef_pins.specs.Outside.{Piece, IsPiece, piece_tokens, End, IsEnd, end_tokens}
use Rattle.lef_pins.specs.Blocks.{name_of, is_no_name, inner_len, Block, PinItem, Port, OfPin, MacroItem, Pin, Shapes, OfMacro, FileItem, Macro, Passed, is_port, is_shapes, ends_shapes, ends_named, ends_never, IsLef}

-- the first token says this name
abbrev pub begins_with_name : List ℕ → List Token → Bool
begins_with_name name [] = false
begins_with_name name (t ∷ ts) = bytes_eq (name_of t) name

-- a token stands first that is a name
abbrev pub begins_with_any_name : List Token → Bool
begins_with_any_name [] = false
begins_with_any_name (t ∷ ts) = not (is_no_name t)

-- behind PROPERTYDEFINITIONS: the tokens up to and with an END and the token behind it
abbrev pub definitions_len : List Token → ℕ
definitions_len ts = min (count_with (codes "END") ts + 1) (length ts)

-- whether an extension goes on behind a token, where one goes on before it or not
abbrev pub extended_behind : Bool → List ℕ → Bool
extended_behind extended w = if extended then not (bytes_eq w (codes "ENDEXT")) else bytes_eq w (codes "BEGINEXT")

-- outside macros: how many tokens pass over together, in an extension or not. They go up to and with the first semicolon, the
-- first END and the token behind it, or the END of property definitions and the token behind it, outside extensions; all where
-- there is none
unfoldable pub passing_len : Bool → List Token → ℕ
passing_len extended [] = 0
passing_len true (t ∷ ts) = 1 + passing_len (extended_behind true t.text) ts
passing_len false (t ∷ ts) =
    if bytes_eq t.text (codes ";") then 1
    else (if bytes_eq t.text (codes "END") then min 2 (1 + length ts)
    else (if bytes_eq t.text (codes "PROPERTYDEFINITIONS") then 1 + definitions_len ts else 1 + passing_len (extended_behind false t.text) ts))

-- the tokens that pass over together where a macro might begin and doesn't
abbrev pub outer_len : List Token → ℕ
outer_len ts = passing_len false ts

-- pieces and an end pass over together, whatever stands behind them
abbrev pub OuterLaw : Type 0
OuterLaw = (pieces : List Piece) (end : End) (behind : List Token) → AllByRecursion IsPiece pieces → IsEnd end
    → outer_len (flat_map piece_tokens pieces ++ (end_tokens end ++ behind)) ≡ length (flat_map piece_tokens pieces ++ end_tokens end)

-- pieces alone pass over up to the text's end
abbrev pub OpenLaw : Type 0
OpenLaw = (pieces : List Piece) → AllByRecursion IsPiece pieces → outer_len (flat_map piece_tokens pieces) ≡ length (flat_map piece_tokens pieces)

-- an item and the tokens behind it
abbrev pub Taken : Type 0 → Type 0
Taken I = I × List Token

-- the items up to a block's END, of which there are no more than so many, and the tokens from the END on
unfoldable pub items_within : {I : Type 0} → ℕ → (List Token → Bool) → (List Token → Taken I) → List Token → Taken (List I)
items_within zero ends item ts = ([], ts)
items_within (suc n) ends item [] = ([], [])
items_within (suc n) ends item (t ∷ ts) =
    if ends (t ∷ ts) then ([], t ∷ ts)
    else ((item (t ∷ ts)).0 ∷ (items_within n ends item (item (t ∷ ts)).1).0, (items_within n ends item (item (t ∷ ts)).1).1)

-- all items up to a block's END
abbrev pub found_at : {I : Type 0} → (List Token → Bool) → (List Token → Taken I) → List Token → Taken (List I)
found_at ends item ts = items_within (length ts) ends item ts

-- the END that stands first, of n tokens; no tokens where none does
abbrev pub end_at : (List Token → Bool) → ℕ → List Token → List Token
end_at ends n ts = if ends ts then take n ts else []

-- the block behind its mark
abbrev pub block_at : {I : Type 0} → (List Token → Bool) → ℕ → (List Token → Taken I) → Token → List Token → Taken (Block I)
block_at ends n item mark ts =
    let found = found_at ends item ts in
    (record { mark = mark; items = found.0; end = end_at ends n found.1 }, drop n found.1)

-- the statement at the front
abbrev pub inner_at : List Token → Taken (List Token)
inner_at ts = (take (inner_len ts) ts, drop (inner_len ts) ts)

-- the item of a pin at the front
unfoldable pub pin_item_at : List Token → Taken PinItem
pin_item_at [] = (OfPin [], [])
pin_item_at (t ∷ ts) =
    let shapes = block_at ends_shapes 1 inner_at t ts in
    let s = inner_at (t ∷ ts) in
    if is_port t.text then (Port shapes.0, shapes.1) else (OfPin s.0, s.1)

-- the pin behind its word and its name, or a statement
abbrev pub pin_at : Token → List Token → Taken MacroItem
pin_at t [] = (OfMacro (inner_at (t ∷ [])).0, (inner_at (t ∷ [])).1)
pin_at t (n ∷ ts) =
    let pin = block_at (ends_named (name_of n)) 2 pin_item_at t ts in
    let s = inner_at (t ∷ n ∷ ts) in
    if is_no_name n then (OfMacro s.0, s.1) else (Pin n pin.0, pin.1)

-- the item of a macro at the front
unfoldable pub macro_item_at : List Token → Taken MacroItem
macro_item_at [] = (OfMacro [], [])
macro_item_at (t ∷ ts) =
    let shapes = block_at ends_shapes 1 inner_at t ts in
    let s = inner_at (t ∷ ts) in
    if bytes_eq t.text (codes "PIN") then pin_at t ts else (if is_shapes t.text then (Shapes shapes.0, shapes.1) else (OfMacro s.0, s.1))

-- the macro behind its word and its name, or tokens that are passed over
abbrev pub macro_at : Token → List Token → Taken FileItem
macro_at t [] = (Passed (take (outer_len (t ∷ [])) (t ∷ [])), drop (outer_len (t ∷ [])) (t ∷ []))
macro_at t (n ∷ ts) =
    let m = block_at (ends_named (name_of n)) 2 macro_item_at t ts in
    if is_no_name n then (Passed (take (outer_len (t ∷ n ∷ ts)) (t ∷ n ∷ ts)), drop (outer_len (t ∷ n ∷ ts)) (t ∷ n ∷ ts)) else (Macro n m.0, m.1)

-- the item of a LEF at the front
unfoldable pub file_item_at : List Token → Taken FileItem
file_item_at [] = (Passed [], [])
file_item_at (t ∷ ts) = if bytes_eq t.text (codes "MACRO") then macro_at t ts else (Passed (take (outer_len (t ∷ ts)) (t ∷ ts)), drop (outer_len (t ∷ ts)) (t ∷ ts))

-- the items of a LEF
abbrev pub lef_at : List Token → List FileItem
lef_at ts = (found_at ends_never file_item_at ts).0

-- these are its items, and no others are
abbrev pub LefLaw : Type 0
LefLaw = (ts : List Token) → IsLef ts (lef_at ts)

-- no other items are
abbrev pub OnlyLefLaw : Type 0
OnlyLefLaw = (ts : List Token) (items : List FileItem) → IsLef ts items → items ≡ lef_at ts
