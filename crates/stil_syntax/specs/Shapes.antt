-- What form a statement of a Pattern has, by its tokens and by the head (IEEE 1450-1999, Pattern statements, in this profile).
use Rattle.std.specs.Prelude.{ℕ, zero, suc, ◌-◌, Bool, true, false, ◌&&◌, ◌||◌, not, ◌==◌, nat_le, if◌then◌else◌, List, [], ◌∷◌, length, take, filter, codes, Option, Some, None}
use Rattle.std.specs.List.{list_any, list_all}
use Rattle.std.specs.Str.{bytes_eq}
use Rattle.base_types.specs.Names.{plain_name}
use Rattle.token_forms.specs.Tokens.{Token}
use Rattle.token_forms.specs.Classes.{is_among}
use Rattle.stil_tokens.specs.StilStatements.{is_only, is_note, is_closed, depth_behind, stil_statements}
use Rattle.stil_types.specs.declared.head.StilHead.{StilHead}
use Rattle.stil_types.specs.declared.head.Callee.{Callee}
use Rattle.stil_types.specs.Callees.{is_known, scan_of}
use Rattle.stil_syntax.specs.declared.item.Item.{Item}
use Rattle.stil_syntax.specs.declared.shape.Shape.{Shape}
use Rattle.stil_syntax.specs.declared.shape.Shape.TheVariants.{NoForm, Unsupported, Other, Scan, Loop}
use Rattle.stil_syntax.specs.Digits.{is_digit, count_from}
use Rattle.stil_syntax.specs.Names.{is_word, name_at}
use Rattle.stil_syntax.specs.Grammar.{call_end}

-- what is left behind a colon
abbrev pub colon_at : List Token → Option (List Token)
colon_at [] = None
colon_at (t ∷ ts) = if bytes_eq t.text (codes ":") then Some ts else None

-- what is left behind a label: a name and a colon
abbrev pub label_by : Option (List ℕ × List Token) → Option (List Token)
label_by None = None
label_by (Some n) = colon_at n.1

-- the same by all tokens
unfoldable pub label_at : List Token → Option (List Token)
label_at ts = label_by (name_at ts)

-- what is left behind so many labels at most
unfoldable pub behind_within : ℕ → List Token → List Token
behind_within zero ts = ts
behind_within (suc n) ts = elim (label_at ts) [ None ↦ ts | Some rest ↦ behind_within n rest ]

-- what is left behind the labels
abbrev pub behind_labels : List Token → List Token
behind_labels ts = behind_within (length ts) ts

-- a } stands where no block is open
abbrev pub closes_nothing : ℕ → List Token → Bool
closes_nothing depth [] = false
closes_nothing depth (t ∷ ts) = (is_only 125 t.text && depth == 0) || closes_nothing (depth_behind depth t.text) ts

-- Call and Macro
abbrev pub is_call : List ℕ → Bool
is_call word = bytes_eq word (codes "Call") || bytes_eq word (codes "Macro")

-- whether the procedure or macro of a name is a scan procedure, by plain names; None where none has the name
abbrev pub scans_by : List Callee → List ℕ → Option Bool
scans_by callees name = scan_of callees (plain_name name)

-- what a Call or a Macro can name
abbrev pub callees : StilHead → List ℕ → List Callee
callees head word = if bytes_eq word (codes "Call") then head.procedures else head.macros

-- it is there, and true
abbrev pub is_yes : Option Bool → Bool
is_yes None = false
is_yes (Some b) = b

-- the name behind a Call or a Macro is that of a scan procedure
abbrev pub names_scan : StilHead → List ℕ → Option (List ℕ × List Token) → Bool
names_scan head word None = false
names_scan head word (Some n) = is_yes (scans_by (callees head word) n.0)

-- a word and what stands behind it are a Call or a Macro of a scan procedure
abbrev pub calls_scan : StilHead → List Token → Bool
calls_scan head [] = false
calls_scan head (t ∷ ts) = is_call t.text && names_scan head t.text (name_at ts)

-- a statement is a scan call: behind its labels stands a Call or a Macro of a scan procedure
abbrev pub is_scan_call : StilHead → List Token → Bool
is_scan_call head ts = calls_scan head (behind_labels ts)

-- in a block a statement begins behind the token: it opens or closes a block, or ends a statement
abbrev pub begins_behind : List ℕ → Bool
begins_behind text = is_only 123 text || (is_only 125 text || (is_only 59 text || is_note text))

-- in the blocks of a statement stands a scan call; begins tells whether a statement begins at the first of the tokens
abbrev pub holds_scan : StilHead → Bool → List Token → Bool
holds_scan head begins [] = false
holds_scan head begins (t ∷ ts) = (begins && is_scan_call head (t ∷ ts)) || holds_scan head (begins_behind t.text) ts

-- the words of the statements that pass unread
abbrev pub other_words : List (List ℕ)
other_words =
    codes "W" ∷ codes "WaveformTable" ∷ codes "V" ∷ codes "Vector" ∷ codes "C" ∷ codes "Condition" ∷ codes "F" ∷ codes "Fixed"
    ∷ codes "Ann" ∷ codes "IddqTestPoint" ∷ codes "IDDQTestPoint" ∷ codes "BreakPoint" ∷ codes "Stop" ∷ []

-- a word of these, or one listed in a UserKeywords statement, by plain names
abbrev pub passes_unread : StilHead → List ℕ → Bool
passes_unread head word = is_among other_words word || is_known head.keywords (plain_name word)

-- what passes unread holds no scan call
abbrev pub other_shape : StilHead → List Token → Shape
other_shape head ts = if holds_scan head false ts then Unsupported else Other

-- a scan call by what stands behind its name, all of it
abbrev pub scan_shape : Option (List Item × List Token) → Shape
scan_shape None = NoForm
scan_shape (Some (items, rest)) = if length rest == 0 then Scan items else NoForm

-- a Call or a Macro by what it names, and the tokens behind the name
abbrev pub callee_shape : StilHead → List Token → Option Bool → Shape
callee_shape head ts None = Unsupported
callee_shape head ts (Some true) = scan_shape (call_end.reads ts)
callee_shape head ts (Some false) = other_shape head ts

-- a Call or a Macro
abbrev pub call_shape : StilHead → List ℕ → Option (List ℕ × List Token) → Shape
call_shape head word None = NoForm
call_shape head word (Some n) = callee_shape head n.1 (scans_by (callees head word) n.0)

-- the tokens before the first {
abbrev pub before_block : List Token → List Token
before_block [] = []
before_block (t ∷ ts) = if is_only 123 t.text then [] else t ∷ before_block ts

-- the tokens behind it
abbrev pub behind_brace : List Token → List Token
behind_brace [] = []
behind_brace (t ∷ ts) = if is_only 123 t.text then ts else behind_brace ts

-- the tokens in the block: all but the } that ends it
abbrev pub in_block : List Token → List Token
in_block ts = take (length (behind_brace ts) - 1) (behind_brace ts)

-- the statement is a lone ;
abbrev pub is_empty : List Token → Bool
is_empty [] = true
is_empty (t ∷ ts) = is_only 59 t.text

-- the statements in a block, of which the empty ones don't count
abbrev pub body_statements : List Token → List (List Token)
body_statements ts = filter (λ s. not (is_empty s)) (stil_statements ts)

-- how often a Loop may run
abbrev pub is_times : ℕ → Bool
is_times n = nat_le 1 n && nat_le n 1000000

-- the number of a Loop, where the text is digits that write one
abbrev pub times_of : List ℕ → Option ℕ
times_of text = if list_all is_digit text && is_times (count_from 0 text) then Some (count_from 0 text) else None

-- the number between the word and the block, where one stands there alone
abbrev pub loop_times : List Token → Option ℕ
loop_times [] = None
loop_times (t ∷ []) = times_of t.text
loop_times (t ∷ u ∷ ts) = None

-- a Loop by its number and its block
abbrev pub loop_by : Option ℕ → List Token → Shape
loop_by None body = Unsupported
loop_by (Some times) body = Loop times body

-- what stands behind the word Loop, outside a Loop: one whose block holds a scan call directly is read
abbrev pub loop_shape : StilHead → List Token → Shape
loop_shape head ts =
    if list_any (is_scan_call head) (stil_statements (in_block ts)) then loop_by (loop_times (before_block ts)) (in_block ts)
    else other_shape head ts

-- a statement by its word and what stands behind it
abbrev pub word_shape : StilHead → Bool → List ℕ → List Token → Shape
word_shape head inside word ts =
    if is_call word then call_shape head word (name_at ts)
    else (if bytes_eq word (codes "Loop") then (if inside then other_shape head ts else loop_shape head ts)
    else (if passes_unread head word then other_shape head ts else Unsupported))

-- a statement by what stands behind its labels
abbrev pub unlabelled_shape : StilHead → Bool → List Token → Shape
unlabelled_shape head inside [] = NoForm
unlabelled_shape head inside (t ∷ ts) = if is_word t.text then word_shape head inside t.text ts else NoForm

-- the form of a statement; inside tells whether it stands in the block of a Loop
unfoldable pub shape_of : StilHead → Bool → List Token → Shape
shape_of head inside ts =
    if not (is_closed ts) || closes_nothing 0 ts then NoForm else unlabelled_shape head inside (behind_labels ts)
