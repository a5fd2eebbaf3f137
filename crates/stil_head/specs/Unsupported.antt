-- What a head may not have in this profile of IEEE 1450-1999, and where it stands: a word at the top that isn't listed, a second
-- ScanStructures, ScanOutLength, and in procedures and macros what would make scan calls nest or shift data elsewhere than in one
-- Shift.
use Rattle.std.specs.Prelude.{ℕ, ◌+◌, ◌-◌, Bool, true, false, ◌&&◌, ◌||◌, not, ◌==◌, nat_le, if◌then◌else◌, List, [], ◌∷◌, ◌++◌, map, filter, drop, codes, Option, Some, None}
use Rattle.std.specs.List.{flat_map, list_any, count_by}
use Rattle.std.specs.Str.{bytes_eq}
use Rattle.base_types.specs.Names.{plain_name}
use Rattle.token_forms.specs.Tokens.{Token}
use Rattle.token_forms.specs.Classes.{is_among}
use Rattle.stil_tokens.specs.StilStatements.{is_only}
use Rattle.stil_syntax.specs.Names.{is_word, name_at}
use Rattle.stil_syntax.specs.Shapes.{behind_labels, in_block, begins_behind, body_statements}
use Rattle.stil_blocks.specs.declared.chain.ReadChain.{ReadChain}
use Rattle.stil_blocks.specs.declared.callee.ReadCallee.{ReadCallee}
use Rattle.stil_head.specs.declared.shift.InShift.{InShift}
use Rattle.stil_head.specs.declared.shift.InShift.TheVariants.{Outside, Before, Inside}
use Rattle.list_laws.specs.Leasts.{place_if}
use Rattle.stil_blocks.specs.Statements.{statements_of, start_of, has_word, behind_word, statements_in}
use Rattle.stil_blocks.specs.Chains.{chains_of}
use Rattle.stil_blocks.specs.Callees.{begins_shift, holds_shift, callees_of}

-- the words at the top
abbrev pub top_words : List (List ℕ)
top_words =
    codes "Header" ∷ codes "Signals" ∷ codes "SignalGroups" ∷ codes "ScanStructures" ∷ codes "Spec" ∷ codes "Selector" ∷ codes "Timing"
    ∷ codes "PatternBurst" ∷ codes "PatternExec" ∷ codes "Procedures" ∷ codes "MacroDefs" ∷ codes "UserKeywords" ∷ codes "UserFunctions"
    ∷ codes "DCLevels" ∷ codes "DCSets" ∷ codes "Environment" ∷ codes "Variables" ∷ codes "Ann" ∷ codes "Pattern" ∷ []

-- another word stands first
abbrev pub begins_unlisted : List Token → Bool
begins_unlisted [] = false
begins_unlisted (t ∷ ts) = is_word t.text && not (is_among top_words t.text)

-- a statement has another word
unfoldable pub is_unlisted : List Token → Bool
is_unlisted s = begins_unlisted (behind_labels s)

-- the statements with another word
abbrev pub unlisted_in : List (List Token) → List ℕ
unlisted_in ss = flat_map (λ s. place_if (is_unlisted s) (start_of s)) ss

-- those behind the first statement, STIL
abbrev pub unlisted_places : List (List Token) → List ℕ
unlisted_places ss = unlisted_in (drop 1 ss)

-- the statements that pass a test but for the first of them; seen tells whether one stood further in front
abbrev pub later_places : (List Token → Bool) → Bool → List (List Token) → List ℕ
later_places test seen [] = []
later_places test seen (s ∷ ss) = place_if (seen && test s) (start_of s) ++ later_places test (seen || test s) ss

-- a second ScanStructures
abbrev pub structures_again : List (List Token) → List ℕ
structures_again ss = later_places (has_word (codes "ScanStructures")) false ss

-- a ScanOutLength, at its ScanChain
abbrev pub out_length_places : List ReadChain → List ℕ
out_length_places chains = flat_map (λ c. place_if c.out_length c.place) chains

-- the names of the scan procedures, or of the scan macros
abbrev pub scan_names : List ReadCallee → List (List ℕ)
scan_names callees = map (λ c. c.callee.name) (filter (λ c. c.callee.scan) callees)

-- the name is one of these
abbrev pub is_name_of : List (List ℕ) → List ℕ → Bool
is_name_of names name = list_any (bytes_eq name) names

-- the name in front passes a test, as a plain name
abbrev pub name_passes : (List ℕ → Bool) → Option (List ℕ × List Token) → Bool
name_passes test None = false
name_passes test (Some n) = test (plain_name n.0)

-- the same by all tokens
abbrev pub names_one : (List ℕ → Bool) → List Token → Bool
names_one test ts = name_passes test (name_at ts)

-- a Call of a scan procedure, or a Macro of a scan macro
unfoldable pub calls_scan : (List ℕ → Bool) → (List ℕ → Bool) → List Token → Bool
calls_scan procedures macros ts =
    (has_word (codes "Call") ts && names_one procedures (behind_word ts))
    || (has_word (codes "Macro") ts && names_one macros (behind_word ts))

-- what no procedure and no macro may hold; and ScanChain in a scan procedure
unfoldable pub is_barred : (List ℕ → Bool) → (List ℕ → Bool) → Bool → List Token → Bool
is_barred procedures macros scan ts =
    has_word (codes "MatchLoop") ts || (has_word (codes "Goto") ts || ((scan && has_word (codes "ScanChain") ts) || calls_scan procedures macros ts))

-- at whatever depth: the statements that pass a test; begins tells whether one begins at the first of the tokens
abbrev pub places_at : (List Token → Bool) → Bool → List Token → List ℕ
places_at test begins [] = []
places_at test begins (t ∷ ts) = place_if (begins && test (t ∷ ts)) t.start ++ places_at test (begins_behind t.text) ts

-- at whatever depth: the Shifts but for the first
abbrev pub later_shifts : Bool → Bool → List Token → List ℕ
later_shifts seen begins [] = []
later_shifts seen begins (t ∷ ts) =
    place_if (seen && (begins && begins_shift (t ∷ ts))) t.start ++ later_shifts (seen || (begins && begins_shift (t ∷ ts))) (begins_behind t.text) ts

-- the Shifts in the blocks of some statements
abbrev pub inner_shifts : List (List Token) → List ℕ
inner_shifts ss = flat_map (λ s. places_at begins_shift false s) ss

-- whether a = stands behind the last ; or brace, behind a token
abbrev pub assigns_behind : Bool → List ℕ → Bool
assigns_behind assigns text = if is_only 61 text then true else assigns && not (is_only 59 text || (is_only 123 text || is_only 125 text))

-- a run with a #
abbrev pub is_mark : List ℕ → Bool
is_mark text = is_word text && list_any (λ b. b == 35) text

-- a # stands in a run behind a =
abbrev pub has_mark : Bool → List Token → Bool
has_mark assigns [] = false
has_mark assigns (t ∷ ts) = (assigns && is_mark t.text) || has_mark (assigns_behind assigns t.text) ts

-- where tokens stand that may begin a Shift
abbrev pub shift_at : InShift → Bool → List Token → InShift
shift_at Outside begins ts = if begins && begins_shift ts then Before else Outside
shift_at Before begins ts = Before
shift_at (Inside depth) begins ts = Inside depth

-- where the next token stands; the number is that of open blocks
abbrev pub shift_behind : InShift → List ℕ → InShift
shift_behind Outside text = Outside
shift_behind Before text = if is_only 123 text then Inside 1 else Before
shift_behind (Inside depth) text =
    if is_only 123 text then Inside (depth + 1) else (if is_only 125 text then (if nat_le depth 1 then Outside else Inside (depth - 1)) else Inside depth)

-- no Shift is open
abbrev pub is_outside : InShift → Bool
is_outside Outside = true
is_outside Before = false
is_outside (Inside depth) = false

-- how many blocks are open in it
abbrev pub shift_depth : InShift → ℕ
shift_depth Outside = 0
shift_depth Before = 0
shift_depth (Inside depth) = depth

-- a # stands in a run behind a =, outside every Shift
abbrev pub has_outer_mark : InShift → Bool → Bool → List Token → Bool
has_outer_mark place begins assigns [] = false
has_outer_mark place begins assigns (t ∷ ts) =
    (is_outside (shift_at place begins (t ∷ ts)) && (assigns && is_mark t.text))
    || has_outer_mark (shift_behind (shift_at place begins (t ∷ ts)) t.text) (begins_behind t.text) (assigns_behind assigns t.text) ts

-- a # outside Shift, at the statement that stands directly in the procedure
abbrev pub outer_marks : List (List Token) → List ℕ
outer_marks ss = flat_map (λ s. place_if (has_outer_mark Outside true false s) (start_of s)) ss

-- a Shift in which not exactly one statement has a #
unfoldable pub is_odd_shift : List Token → Bool
is_odd_shift s = begins_shift s && not (count_by (has_mark false) (statements_in s) == 1)

-- the Shifts directly in a procedure that are so
abbrev pub odd_shifts : List (List Token) → List ℕ
odd_shifts ss = flat_map (λ s. place_if (is_odd_shift s) (start_of s)) ss

-- what a scan procedure may not have besides, by the tokens in its block
abbrev pub scan_places : List Token → List ℕ
scan_places body =
    later_shifts false true body ++ (inner_shifts (body_statements body) ++ (outer_marks (body_statements body) ++ odd_shifts (body_statements body)))

-- in the block of a procedure or macro
unfoldable pub body_places : (List ℕ → Bool) → (List ℕ → Bool) → List Token → List ℕ
body_places procedures macros body =
    places_at (is_barred procedures macros (holds_shift body)) true body ++ (if holds_shift body then scan_places body else [])

-- in the procedures or macros of a block
abbrev pub bodies_places : (List ℕ → Bool) → (List ℕ → Bool) → List (List Token) → List ℕ
bodies_places procedures macros ss = flat_map (λ p. body_places procedures macros (in_block p)) ss

-- in the procedures or macros of a statement of the head
unfoldable pub callee_places : (List ℕ → Bool) → (List ℕ → Bool) → List Token → List ℕ
callee_places procedures macros s =
    if has_word (codes "Procedures") s || has_word (codes "MacroDefs") s then bodies_places procedures macros (statements_in s) else []

-- in some statements, where these names are those of the scan procedures and of the scan macros
abbrev pub places_in : (List ℕ → Bool) → (List ℕ → Bool) → List (List Token) → List ℕ
places_in procedures macros ss =
    unlisted_places ss ++ (structures_again ss ++ flat_map (callee_places procedures macros) ss)

-- in some statements, with the chains, the procedures and the macros in them
abbrev pub unsupported_in : List ReadChain → List ReadCallee → List ReadCallee → List (List Token) → List ℕ
unsupported_in chains procedures macros ss =
    out_length_places chains ++ places_in (is_name_of (scan_names procedures)) (is_name_of (scan_names macros)) ss

-- in a head
abbrev pub unsupported_places : List ℕ → List ℕ
unsupported_places text =
    unsupported_in (chains_of text) (callees_of (codes "Procedures") text) (callees_of (codes "MacroDefs") text) (statements_of text)
