-- What a text denotes from a point on: the bytes that belong to no statement, where the Patterns open, the statements, and
-- then the fault, if there is one. What is a statement's form isn't said here: a judge tells of each part, by its bytes and
-- the point at which it stands, what is wrong with it, if anything is.
use Rattle.std.specs.Prelude.{◌≡◌, ℕ, zero, suc, ◌+◌, ◌-◌, ◌≤◌, Bool, true, false, ◌&&◌, ◌==◌, nat_lt, if◌then◌else◌, List, [], ◌∷◌, ◌++◌, length, take, drop, map, count_by, Option, Some, None}
use Rattle.base_types.specs.declared.kind.Kind.{Kind}
use Rattle.base_types.specs.declared.kind.Kind.TheVariants.{PatternSyntax, StatementSize, PatternSize}
use Rattle.stil_parts.specs.declared.gap.Place.{Place}
use Rattle.stil_parts.specs.declared.gap.Place.TheVariants.{Top, Pattern}
use Rattle.stil_parts.specs.declared.gap.Comment.{Comment}
use Rattle.stil_parts.specs.declared.gap.Comment.TheVariants.{Outside}
use Rattle.stil_parts.specs.declared.gap.Gap.{Gap}
use Rattle.stil_parts.specs.declared.gap.Point.{Point}
use Rattle.stil_parts.specs.declared.part.PartFault.{PartFault}
use Rattle.stil_parts.specs.declared.part.Part.{Part}
use Rattle.stil_parts.specs.declared.part.Part.TheVariants.{Passes, Opens, Whole}
use Rattle.stil_parts.specs.Gaps.{gap_at}
use Rattle.stil_parts.specs.Parts.{part_at, part_len}

-- the bytes of a part at most
abbrev pub largest : ℕ
largest = 67108864

-- the bytes of a text at most
abbrev pub most : ℕ
most = 4294967296

-- a byte of a gap; a Pattern opens, with its bytes up to and with the brace, and the point of the first of them; a statement
-- in a Pattern, and the point of its first byte
pub data Event : Type 0 where
  Byte : ℕ → Event
  Opened : List ℕ → Point → Event
  Statement : List ℕ → Point → Event

-- what is wrong with a part of these bytes at this point, if anything is
abbrev pub Judge : Type 0
Judge = Point → Part → List ℕ → Option PartFault

-- events in order, and the fault behind them
pub record Coming : Type 0 where
  pub events : List Event
  pub fault : Option PartFault

-- some events, and then what comes
abbrev pub before : List Event → Coming → Coming
before es c = record { events = es ++ c.events; fault = c.fault }

-- a fault of a kind at a line
abbrev pub fault_at : Kind → ℕ → PartFault
fault_at kind line = record { kind = kind; line = line }

-- a fault comes
abbrev pub stopped : PartFault → Coming
stopped f = record { events = []; fault = Some f }

-- the text ends here
abbrev pub nothing : Coming
nothing = record { events = []; fault = None }

-- where the text ends: a Pattern that is still open is refused
abbrev pub ending : Place → Coming
ending Top = nothing
ending (Pattern line) = stopped (fault_at PatternSyntax line)

-- the point behind some bytes
abbrev pub moved : Point → List ℕ → Place → Comment → Point
moved p text place comment = record {
  given = p.given + length text;
  line = p.line + count_by (λ b. b == 10) text;
  opened = p.opened;
  place = place;
  comment = comment;
}

-- the first that comes: a fault, or so many bytes with what they say, and the point behind them
pub data Turn : Type 0 where
  Refused : PartFault → Turn
  Taken : ℕ → List Event → Point → Turn

-- a gap comes next, where the text may have its bytes
abbrev pub gap_turn : Point → List ℕ → Gap → Turn
gap_turn p bs g =
    if nat_lt most (p.given + g.len) then Refused (fault_at PatternSize p.line)
    else Taken g.len (map Byte (take g.len bs)) (moved p (take g.len bs) g.place g.comment)

-- the size of a part is judged before the part
abbrev pub sized : Point → ℕ → Turn → Turn
sized p n turn =
    if nat_lt largest n then Refused (fault_at StatementSize p.line)
    else (if nat_lt most (p.given + n) then Refused (fault_at PatternSize p.line) else turn)

-- what a part says
abbrev pub part_events : Point → Part → List ℕ → List Event
part_events p (Passes n) text = map Byte text
part_events p (Opens n) text = map Byte text ++ Opened text p ∷ []
part_events p (Whole n) text = Statement text p ∷ []

-- the point behind a part; behind one that opens a Pattern, in one Pattern more
abbrev pub point_behind : Point → Part → List ℕ → Point
point_behind p (Passes n) text = moved p text Top Outside
point_behind p (Opens n) text = record {
  given = p.given + length text;
  line = p.line + count_by (λ b. b == 10) text;
  opened = p.opened + 1;
  place = Pattern p.line;
  comment = Outside;
}
point_behind p (Whole n) text = moved p text p.place Outside

-- what the judge finds comes in its place
abbrev pub judged : Option PartFault → ℕ → List Event → Point → Turn
judged None n es q = Taken n es q
judged (Some f) n es q = Refused f

-- a part comes next, by its size and then by the judge
abbrev pub part_turn : Judge → Point → List ℕ → Part → Turn
part_turn judge p bs part =
    let n = part_len part in
    let text = take n bs in
    sized p n (judged (judge p part text) n (part_events p part text) (point_behind p part text))

-- a part that isn't whole: it is too large; or the text ends in it; or nothing is shown yet
abbrev pub open_turn : Bool → Point → List ℕ → Option Turn
open_turn last p bs =
    if nat_lt largest (length bs) then Some (Refused (fault_at StatementSize p.line))
    else (if last && nat_lt 0 (length bs) then Some (sized p (length bs) (Refused (fault_at PatternSyntax p.line))) else None)

-- the turn at what no gap stands before
abbrev pub turn_in : Judge → Bool → Point → List ℕ → Option Part → Option Turn
turn_in judge last p bs None = open_turn last p bs
turn_in judge last p bs (Some part) = Some (part_turn judge p bs part)

-- what the bytes at a point show first; last tells whether the text goes no further
unfoldable pub next_turn : Judge → Bool → Point → List ℕ → Option Turn
next_turn judge last p bs =
    let g = gap_at p.place p.comment bs in
    if nat_lt 0 g.len then Some (gap_turn p bs g) else turn_in judge last p bs (part_at last p.place bs)

-- what a text denotes from a point on, after so many bytes that were taken before
unfoldable pub to_come : Judge → Point → ℕ → List ℕ → Coming
to_come judge p inside [] = ending p.place
to_come judge p (suc inside) (b ∷ bs) = to_come judge p inside bs
to_come judge p zero (b ∷ bs) = elim (next_turn judge true p (b ∷ bs)) [
  | None ↦ ending p.place
  | Some turn ↦ elim turn [ Refused f ↦ stopped f | Taken n es q ↦ before es (to_come judge q (n - 1) bs) ]
]

-- a point that the text may reach
pub record IsEarly (p : Point) : Type 0 where
  pub given : p.given ≤ most
  pub line : p.line ≤ p.given + 1
  pub opened : p.opened ≤ p.given

-- the first bytes belong to no statement, whatever follows
abbrev pub GapsCome : Point → List ℕ → ℕ → Place → Comment → Type 0
GapsCome p bs n place comment =
    (judge : Judge) (more : List ℕ) → to_come judge p 0 (bs ++ more) ≡ before (map Byte (take n bs)) (to_come judge (moved p (take n bs) place comment) 0 (drop n bs ++ more))
