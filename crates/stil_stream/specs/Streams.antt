-- A STIL text that comes in pieces, as its callers see it, and what each call answers.
use Rattle.std.specs.Prelude.{◌≡◌, ℕ, ◌+◌, ◌<◌, ◌≤◌, Bool, true, false, ◌||◌, nat_lt, if◌then◌else◌, ◌⊎◌, List, [], ◌∷◌, ◌++◌, length, take, drop, map, Option, Some, None, is_some, Result, Ok, Err}
use Rattle.base_types.specs.declared.fault.FileKind.TheVariants.{Stil}
use Rattle.base_types.specs.declared.fault.Fault.{Fault}
use Rattle.base_types.specs.declared.fault.ReadFault.{ReadFault}
use Rattle.base_types.specs.declared.fault.ReadFault.TheVariants as faults
use Rattle.base_types.specs.Faults.{at_line}
use Rattle.stil_types.specs.declared.head.StilHead.{StilHead}
use Rattle.stil_types.specs.Statements.{IsPlaced}
use Rattle.stil_parts.specs.declared.gap.Place.TheVariants.{Top}
use Rattle.stil_parts.specs.declared.gap.Comment.TheVariants.{Outside}
use Rattle.stil_parts.specs.declared.gap.Point.{Point}
use Rattle.stil_parts.specs.declared.part.PartFault.{PartFault}
use Rattle.stil_parts.specs.Gaps.{gap_at}
use Rattle.stil_parts.specs.Parts.{part_at}
use Rattle.stil_parts.specs.Coming.{Byte, Judge, largest, IsEarly}
use Rattle.stil_parts.specs.Heads.{head_end}
use Rattle.stil_parts.specs.Deciding.{Follows, Takes}
use Rattle.stil_calls.specs.Statements.{AreAccepted}
use Rattle.stil_stream.specs.declared.next.HeadNext.{HeadNext}
use Rattle.stil_stream.specs.declared.next.HeadNext.TheVariants as heads
use Rattle.stil_stream.specs.declared.next.Next.{Next}
use Rattle.stil_stream.specs.declared.next.Next.TheVariants as nexts
use Rattle.stil_reader.specs.Sayings.{Saying, Head, GapByte, Stated, Told, after, refusal, named, beginning, told_from, text_of}

-- the bytes fed and not handed out; whether the input is ended; whether a piece may be fed; whether the head is still to come;
-- the point at which the first kept byte stands; the fault that was answered
pub record Streaming : Type 0 where
  pub kept : List ℕ
  pub ended : Bool
  pub hungry : Bool
  pub in_head : Bool
  pub point : Point
  pub fault : Option PartFault

-- no bytes, at the beginning of a text
abbrev pub fresh : Streaming
fresh = record { kept = []; ended = false; hungry = true; in_head = true; point = beginning; fault = None }

-- one more piece is kept
abbrev pub fed : Streaming → List ℕ → Streaming
fed s piece = record s { kept = s.kept ++ piece; hungry = false }

-- no more is fed
abbrev pub ended : Streaming → Streaming
ended s = record s { ended = true }

-- a piece may be fed again
abbrev pub hungry_again : Streaming → Streaming
hungry_again s = record s { hungry = true }

-- this fault was answered
abbrev pub refused : PartFault → Streaming → Streaming
refused f s = record s { fault = Some f }

-- so many bytes were handed out, and the text goes on at a point behind the head
abbrev pub handed_out : ℕ → Point → Streaming → Streaming
handed_out n p s = record s { kept = drop n s.kept; in_head = false; point = p }

-- the bytes of a piece at most
abbrev pub largest_piece : ℕ
largest_piece = 65536

-- the bytes that are kept at most: those of a part, or of a head, and a piece
abbrev pub largest_kept : ℕ
largest_kept = 67174400

-- the bytes show the head's end, or that it isn't within its limit
abbrev pub shows_head : List ℕ → Bool
shows_head kept = nat_lt largest (length kept) || is_some (head_end false Outside 0 kept)

-- the bytes at a point show something: a gap begins, or they hold a whole part, or they are more than a part may have
abbrev pub shows_part : Point → List ℕ → Bool
shows_part p kept = nat_lt 0 (gap_at p.place p.comment kept).len || (is_some (part_at false p.place kept) || nat_lt largest (length kept))

-- the bytes kept show what comes next; where the input is ended they always do
abbrev pub is_shown : Streaming → Bool
is_shown s = s.ended || (if s.in_head then shows_head s.kept else shows_part s.point s.kept)

-- what is still to come beside a head, if these bytes follow those that were fed
abbrev pub told_of : StilHead → Streaming → List ℕ → Told
told_of head s more = told_from head s.in_head s.point (s.kept ++ more)

-- more is wanted
pub record Wants (old new : Streaming) : Type 0 where
  pub sound : old.fault ≡ None
  pub nothing_shown : is_shown old ≡ false
  pub same : new ≡ hungry_again old

-- a text is handed out, which says this beside the head: what was to come is this, and then what is to come; the point counts its bytes
pub record HandsOut (head : StilHead) (old new : Streaming) (text : List ℕ) (says : List Saying) : Type 0 where
  pub sound : old.fault ≡ None
  pub shown : is_shown old ≡ true
  pub kept : old.kept ≡ text ++ new.kept
  pub given : new.point.given ≡ old.point.given + length text
  pub early : IsEarly new.point
  pub comes : (more : List ℕ) → Follows old.ended more → told_of head old more ≡ after says (told_of head new more)
  pub rest : new ≡ record old { kept = new.kept; in_head = false; point = new.point }

-- the text ended, outside a Pattern
pub record HasEnded (old new : Streaming) : Type 0 where
  pub sound : old.fault ≡ None
  pub ended : old.ended ≡ true
  pub nothing_left : old.kept ≡ []
  pub at_top : old.point.place ≡ Top
  pub same : new ≡ old

-- a fault that was answered is answered again
pub record IsAgain (old new : Streaming) (f : PartFault) : Type 0 where
  pub stored : old.fault ≡ Some f
  pub same : new ≡ old

-- a fault comes next, whatever follows
pub record IsFirst (head : StilHead) (old new : Streaming) (f : PartFault) : Type 0 where
  pub sound : old.fault ≡ None
  pub shown : is_shown old ≡ true
  pub comes : (more : List ℕ) → Follows old.ended more → told_of head old more ≡ refusal f
  pub stored : new ≡ refused f old

-- the printed form of a fault of a STIL text
abbrev pub fault_of : PartFault → Fault
fault_of f = at_line f.kind Stil f.line

-- a fault of a STIL text
abbrev pub IsOfStil : Fault → Type 0
IsOfStil fault = (f : PartFault) × (fault ≡ fault_of f)

-- what a call for the head answers; beside any head that is read from it
abbrev pub HeadAnswers : Streaming → Streaming → Result HeadNext ReadFault → Type 0
HeadAnswers old new (Ok heads.Want) = Wants old new
HeadAnswers old new (Ok (heads.Head text)) = (head : StilHead) → HandsOut head old new text (Head text ∷ [])
HeadAnswers old new (Err (faults.Fault fault)) = (f : PartFault) × (fault ≡ fault_of f) × (IsAgain old new f ⊎ ((head : StilHead) → IsFirst head old new f))
HeadAnswers old new (Err faults.NoMemory) = new ≡ old

-- a head has no more bytes than its limit
abbrev pub IsShort : HeadNext → Type 0
IsShort heads.Want = Unit {0}
IsShort (heads.Head text) = length text ≤ largest

-- what a call behind the head answers
abbrev pub Answers : StilHead → Streaming → Streaming → Result Next ReadFault → Type 0
Answers head old new (Ok nexts.Want) = Wants old new
Answers head old new (Ok (nexts.Gap text pattern)) = (0 < length text) × HandsOut head old new text (map GapByte text ++ named pattern)
Answers head old new (Ok (nexts.Statement statement)) = (0 < length (text_of statement)) × HandsOut head old new (text_of statement) (Stated statement ∷ [])
Answers head old new (Ok nexts.End) = HasEnded old new
Answers head old new (Err (faults.Fault fault)) = (f : PartFault) × (fault ≡ fault_of f) × (IsAgain old new f ⊎ IsFirst head old new f)
Answers head old new (Err faults.NoMemory) = new ≡ old

-- each call of a statement that is answered neither shifts too seldom nor compares too much, and the statements in the block of a Loop stand in its text
abbrev pub IsAccepted : StilHead → Result Next ReadFault → Type 0
IsAccepted head (Ok nexts.Want) = Unit {0}
IsAccepted head (Ok (nexts.Gap text pattern)) = Unit {0}
IsAccepted head (Ok (nexts.Statement statement)) = AreAccepted head statement × IsPlaced statement
IsAccepted head (Ok nexts.End) = Unit {0}
IsAccepted head (Err fault) = Unit {0}

-- the first n bytes belong to no statement, whatever the head is and whatever follows
pub record AreGaps (last : Bool) (p : Point) (kept : List ℕ) (n : ℕ) (q : Point) : Type 0 where
  pub within : n ≤ length kept
  pub early : IsEarly q
  pub takes : (judge : Judge) → Takes judge last p kept n (map Byte (take n kept)) q

-- an answer that doesn't hang on the head
abbrev pub AnswersAny : Streaming → Streaming → Result Next ReadFault → Type 0
AnswersAny old new result = (head : StilHead) → Answers head old new result × IsAccepted head result
