-- What is wrong with a statement of a Pattern: each kind of fault as a predicate of its own, and which comes first.
use Rattle.std.specs.Prelude.{ℕ, ◌+◌, Bool, true, false, ◌&&◌, ◌==◌, if◌then◌else◌, List, [], ◌∷◌, take, count_by, Option, Some, None}
use Rattle.token_forms.specs.Tokens.{Token, place_of}
use Rattle.base_types.specs.declared.kind.Kind.{Kind}
use Rattle.base_types.specs.declared.kind.Kind.TheVariants as kinds
use Rattle.stil_tokens.specs.StilTokens.{tokens_in}
use Rattle.stil_parts.specs.declared.part.PartFault.{PartFault}
use Rattle.stil_parts.specs.Coming.{fault_at}
use Rattle.stil_types.specs.declared.head.ScanChainDecl.{ScanChainDecl}
use Rattle.stil_types.specs.declared.head.StilHead.{StilHead}
use Rattle.stil_syntax.specs.declared.item.Item.{Item}
use Rattle.stil_syntax.specs.declared.shape.Shape.{Shape}
use Rattle.stil_syntax.specs.declared.shape.Shape.TheVariants.{NoForm, Unsupported, Scan, Loop}
use Rattle.stil_syntax.specs.Shapes.{shape_of, body_statements}
use Rattle.stil_calls.specs.declared.judging.Judging.{Judging}
use Rattle.stil_calls.specs.declared.judging.Judging.TheVariants.{Form, Lengths}
use Rattle.stil_calls.specs.Scans.{gives_twice, has_unsound, is_foreign, is_short, is_long, is_vast}

-- the statement matches no form, or a scan call gives one name twice
abbrev pub is_pattern_syntax : Shape → Bool
is_pattern_syntax NoForm = true
is_pattern_syntax (Scan items) = gives_twice items
is_pattern_syntax shape = false

-- a form that isn't supported in a Pattern
abbrev pub is_pattern_unsupported : Shape → Bool
is_pattern_unsupported Unsupported = true
is_pattern_unsupported shape = false

-- scan data hold another character or escape than their alphabet and \r n c
abbrev pub is_scan_character : StilHead → Shape → Bool
is_scan_character head (Scan items) = has_unsound head.chains items
is_scan_character head shape = false

-- a scan call gives data to a name that is no chain's ScanIn or ScanOut
abbrev pub is_foreign_data : StilHead → Shape → Bool
is_foreign_data head (Scan items) = is_foreign head.chains items
is_foreign_data head shape = false

-- the call shifts at least once and fewer times than the longest chain has bits
abbrev pub is_short_load : StilHead → Shape → Bool
is_short_load head (Scan items) = is_short head.chains items
is_short_load head shape = false

-- an L or H stands at an index that isn't below its chain's bits
abbrev pub is_long_compare : StilHead → Shape → Bool
is_long_compare head (Scan items) = is_long head.chains items
is_long_compare head shape = false

-- a string of a scan call is longer than 524288
abbrev pub is_too_many_shifts : StilHead → Shape → Bool
is_too_many_shifts head (Scan items) = is_vast head.chains items
is_too_many_shifts head shape = false

-- scan calls are judged by the lengths of the chains too
abbrev pub by_lengths : Judging → Bool
by_lengths Form = false
by_lengths Lengths = true

-- the least kind that holds of how much a scan call gives, and counts
abbrev pub size_kind : Judging → List ScanChainDecl → List Item → Option Kind
size_kind judging chains items =
    if by_lengths judging && is_short chains items then Some kinds.ShortLoad
    else (if by_lengths judging && is_long chains items then Some kinds.LongCompare
    else (if is_vast chains items then Some kinds.TooManyShifts
    else None))

-- the least kind that holds of a statement and counts
abbrev pub kind_of : Judging → StilHead → Shape → Option Kind
kind_of judging head shape =
    if is_pattern_syntax shape then Some kinds.PatternSyntax
    else (if is_pattern_unsupported shape then Some kinds.PatternUnsupported
    else (if is_scan_character head shape then Some kinds.ScanCharacter
    else (if is_foreign_data head shape then Some kinds.ForeignData
    else (if by_lengths judging && is_short_load head shape then Some kinds.ShortLoad
    else (if by_lengths judging && is_long_compare head shape then Some kinds.LongCompare
    else (if is_too_many_shifts head shape then Some kinds.TooManyShifts
    else None))))))

-- the line of a place of a text whose first line is this one
abbrev pub line_in : ℕ → List ℕ → ℕ → ℕ
line_in line text at = line + count_by (λ b. b == 10) (take at text)

-- a fault of this kind, or what comes behind
abbrev pub fault_or : Option Kind → ℕ → Option PartFault → Option PartFault
fault_or None line more = more
fault_or (Some kind) line more = Some (fault_at kind line)

-- the first fault of some statements in the block of a Loop
abbrev pub body_fault : Judging → StilHead → ℕ → List ℕ → List (List Token) → Option PartFault
body_fault judging head line text [] = None
body_fault judging head line text (s ∷ ss) =
    fault_or (kind_of judging head (shape_of head true s)) (line_in line text (place_of s).start) (body_fault judging head line text ss)

-- the first fault in the block of a statement: that of a Loop is read
abbrev pub inner_fault : Judging → StilHead → ℕ → List ℕ → Shape → Option PartFault
inner_fault judging head line text (Loop times body) = body_fault judging head line text (body_statements body)
inner_fault judging head line text shape = None

-- the first fault of a statement of this form: its own, and then those in its block
abbrev pub shape_fault : Judging → StilHead → ℕ → List ℕ → Shape → Option PartFault
shape_fault judging head line text shape = fault_or (kind_of judging head shape) line (inner_fault judging head line text shape)

-- the first fault of a statement of these bytes, whose first line is this one
unfoldable pub fault_by : Judging → StilHead → ℕ → List ℕ → Option PartFault
fault_by judging head line text = shape_fault judging head line text (shape_of head false (tokens_in text))

-- the same where all kinds count
abbrev pub fault_in : StilHead → ℕ → List ℕ → Option PartFault
fault_in head line text = fault_by Lengths head line text
