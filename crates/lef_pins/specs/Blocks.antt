-- The blocks of a LEF (LEF 5.8): its macros, their pins and ports, and the statements in them, with all else passed over. The tokens of
-- a LEF are those of its items, one item's behind the other's, and each item goes as far as its form says. The reader's steps to them:
-- BlockReading.
use Rattle.std.specs.Prelude.{◌≡◌, ℕ, ◌+◌, ◌<◌, Bool, true, false, ◌&&◌, ◌||◌, not, if◌then◌else◌, ◌==◌, min, List, [], ◌∷◌, ◌++◌, length, codes, ◌⊎◌}
use Rattle.std.specs.List.{flat_map}
use Rattle.std.specs.Str.{bytes_eq}
use Rattle.base_types.specs.Names.{plain_name}
use Rattle.token_forms.specs.Tokens.{Token}
use Rattle.def_tokens.specs.DefStatements.{statement_len}
use Rattle.lef_pins.specs.Outside.{IsPassed}

-- a block: its first token, what stands in it, and its END: no tokens, where the text ends before
pub record Block (I : Type 0) : Type 0 where
  pub mark : Token
  pub items : List I
  pub end : List Token

-- what stands in a pin: a port with its statements, or a statement
pub data PinItem : Type 0 where
  Port : Block (List Token) → PinItem
  OfPin : List Token → PinItem

-- what stands in a macro: a pin with its name, an OBS or DENSITY with its statements, or a statement
pub data MacroItem : Type 0 where
  Pin : Token → Block PinItem → MacroItem
  Shapes : Block (List Token) → MacroItem
  OfMacro : List Token → MacroItem

-- what stands in a LEF: a macro with its name, or tokens that are passed over
pub data FileItem : Type 0 where
  Macro : Token → Block MacroItem → FileItem
  Passed : List Token → FileItem

-- the block has its END
abbrev pub is_closed : {I : Type 0} → Block I → Bool
is_closed b = not (length b.end == 0)

-- the tokens behind a block's first ones
abbrev pub tokens_within : {I : Type 0} → (I → List Token) → Block I → List Token
tokens_within tokens b = flat_map tokens b.items ++ b.end

-- the tokens of an item of a pin
abbrev pub pin_tokens : PinItem → List Token
pin_tokens (Port b) = b.mark ∷ tokens_within (λ s. s) b
pin_tokens (OfPin s) = s

-- the tokens of an item of a macro
abbrev pub macro_tokens : MacroItem → List Token
macro_tokens (Pin name b) = b.mark ∷ name ∷ tokens_within pin_tokens b
macro_tokens (Shapes b) = b.mark ∷ tokens_within (λ s. s) b
macro_tokens (OfMacro s) = s

-- the tokens of an item of the file
abbrev pub file_tokens : FileItem → List Token
file_tokens (Macro name b) = b.mark ∷ name ∷ tokens_within macro_tokens b
file_tokens (Passed s) = s

-- the first token has this text
abbrev pub begins_with : List ℕ → List Token → Bool
begins_with w [] = false
begins_with w (t ∷ ts) = bytes_eq t.text w

-- the name that a token says
abbrev pub name_of : Token → List ℕ
name_of t = plain_name t.text

-- a semicolon is no name
abbrev pub is_no_name : Token → Bool
is_no_name t = bytes_eq t.text (codes ";")

-- an END closes a port, an OBS or a DENSITY
abbrev pub ends_shapes : List Token → Bool
ends_shapes ts = begins_with (codes "END") ts

-- END and the name close a pin or a macro
abbrev pub ends_named : List ℕ → List Token → Bool
ends_named name [] = false
ends_named name (t ∷ []) = false
ends_named name (t ∷ n ∷ ts) = bytes_eq t.text (codes "END") && bytes_eq (name_of n) name

-- the word of a port
abbrev pub is_port : List ℕ → Bool
is_port w = bytes_eq w (codes "PORT")

-- the words of other shapes
abbrev pub is_shapes : List ℕ → Bool
is_shapes w = bytes_eq w (codes "OBS") || bytes_eq w (codes "DENSITY")

-- OBS or DENSITY stands first
abbrev pub begins_shapes : List Token → Bool
begins_shapes [] = false
begins_shapes (t ∷ ts) = is_shapes t.text

-- a word and a name
abbrev pub begins_named : List ℕ → List Token → Bool
begins_named w [] = false
begins_named w (t ∷ []) = false
begins_named w (t ∷ n ∷ ts) = bytes_eq t.text w && not (is_no_name n)

-- in a macro: how many tokens a statement has. MACRO and PIN take a name, PORT, OBS and DENSITY stand by themselves, and the
-- others are cut as in DEF
unfoldable pub inner_len : List Token → ℕ
inner_len [] = 0
inner_len (t ∷ ts) =
    if bytes_eq t.text (codes "MACRO") || bytes_eq t.text (codes "PIN") then min 2 (1 + length ts)
    else (if bytes_eq t.text (codes "PORT") || (bytes_eq t.text (codes "OBS") || bytes_eq t.text (codes "DENSITY")) then 1
    else statement_len (t ∷ ts))

-- a kind of items: which tokens one is made of, and whether it is one before these tokens
pub record Kind (I : Type 0) : Type 1 where
  pub tokens : I → List Token
  pub Is : I → List Token → Type 0

-- items of a kind, one behind the other, before some tokens; the block's END begins none of them
abbrev pub AreItems : {I : Type 0} → Kind I → (List Token → Bool) → List I → List Token → Type 0
AreItems kind ends [] behind = Unit {0}
AreItems kind ends (i ∷ is) behind =
    let rest = flat_map kind.tokens is ++ behind in
    kind.Is i rest × (ends (kind.tokens i ++ rest) ≡ false) × AreItems kind ends is behind

-- a block of such items before some tokens: its END of n tokens stands behind them, or the text ends there
pub record IsBlock {I : Type 0} (kind : Kind I) (ends : List Token → Bool) (n : ℕ) (b : Block I) (behind : List Token) : Type 0 where
  pub items : AreItems kind ends b.items (b.end ++ behind)
  pub closed : ((ends b.end ≡ true) × (length b.end ≡ n)) ⊎ ((b.end ≡ []) × (behind ≡ []))

-- a statement in a macro, as long as one is where it stands
abbrev pub IsInner : List Token → List Token → Type 0
IsInner s behind = (0 < length s) × (inner_len (s ++ behind) ≡ length s)

-- the statements of a port, an OBS or a DENSITY
abbrev pub statements : Kind (List Token)
statements = record { tokens = λ s. s; Is = IsInner }

-- an item of a pin: PORT and statements up to END, or a statement
abbrev pub IsPinItem : PinItem → List Token → Type 0
IsPinItem (Port b) behind = (is_port b.mark.text ≡ true) × IsBlock statements ends_shapes 1 b behind
IsPinItem (OfPin s) behind = (begins_with (codes "PORT") s ≡ false) × IsInner s behind

-- the items of a pin
abbrev pub pin_items : Kind PinItem
pin_items = record { tokens = pin_tokens; Is = IsPinItem }

-- an item of a macro: PIN, a name and items up to END and the name; OBS or DENSITY and statements up to END; or a statement
abbrev pub IsMacroItem : MacroItem → List Token → Type 0
IsMacroItem (Pin name b) behind = (begins_named (codes "PIN") (b.mark ∷ name ∷ []) ≡ true) × IsBlock pin_items (ends_named (name_of name)) 2 b behind
IsMacroItem (Shapes b) behind = (is_shapes b.mark.text ≡ true) × IsBlock statements ends_shapes 1 b behind
IsMacroItem (OfMacro s) behind = (begins_named (codes "PIN") (s ++ behind) ≡ false) × (begins_shapes s ≡ false) × IsInner s behind

-- the items of a macro
abbrev pub macro_items : Kind MacroItem
macro_items = record { tokens = macro_tokens; Is = IsMacroItem }

-- an item of the file: MACRO, a name and items up to END and the name; or what passes over, where no macro begins
abbrev pub IsFileItem : FileItem → List Token → Type 0
IsFileItem (Macro name b) behind = (begins_named (codes "MACRO") (b.mark ∷ name ∷ []) ≡ true) × IsBlock macro_items (ends_named (name_of name)) 2 b behind
IsFileItem (Passed s) behind = (begins_named (codes "MACRO") (s ++ behind) ≡ false) × (0 < length s) × IsPassed s behind

-- the items of the file
abbrev pub file_items : Kind FileItem
file_items = record { tokens = file_tokens; Is = IsFileItem }

-- nothing but the text's end ends the file
abbrev pub ends_never : List Token → Bool
ends_never ts = false

-- these are the items of the tokens of a LEF
pub record IsLef (ts : List Token) (items : List FileItem) : Type 0 where
  pub is : ts ≡ flat_map file_tokens items
  pub are : AreItems file_items ends_never items []

-- each list of tokens has such items, and no others
abbrev pub OneLefLaw : Type 0
OneLefLaw = (ts : List Token) → (items : List FileItem) × IsLef ts items × ((other : List FileItem) → IsLef ts other → other ≡ items)
