-- What a statement of a Pattern denotes beside the head.
use Rattle.std.specs.Prelude.{◌≡◌, ℕ, Bool, true, false, List, map, All, Option, Some, None}
use Rattle.token_forms.specs.Tokens.{Token, place_of}
use Rattle.base_types.specs.Faults.{at_line}
use Rattle.base_types.specs.declared.fault.FileKind.TheVariants.{Stil}
use Rattle.base_types.specs.declared.fault.Fault.{Fault}
use Rattle.stil_tokens.specs.StilTokens.{tokens_in}
use Rattle.stil_parts.specs.declared.part.PartFault.{PartFault}
use Rattle.stil_types.specs.declared.head.StilHead.{StilHead}
use Rattle.stil_types.specs.declared.statement.ScanCall.{ScanCall}
use Rattle.stil_syntax.specs.declared.shape.Shape.{Shape}
use Rattle.stil_syntax.specs.declared.shape.Shape.TheVariants.{NoForm, Unsupported, Other, Scan, Loop}
use Rattle.stil_types.specs.declared.statement.PatternStatement.{PatternStatement}
use Rattle.stil_types.specs.declared.statement.PatternStatement.TheVariants as statements
use Rattle.stil_types.specs.declared.statement.BodyStatement.{BodyStatement}
use Rattle.stil_syntax.specs.Shapes.{shape_of, body_statements}
use Rattle.stil_calls.specs.Scans.{call_of, bits_of}
use Rattle.stil_types.specs.Calls.{IsCallOn, IsAcceptedOn}
use Rattle.stil_calls.specs.declared.judging.Judging.{Judging}
use Rattle.stil_calls.specs.declared.judging.Judging.TheVariants.{Form, Lengths}
use Rattle.stil_calls.specs.Faults.{line_in, fault_by}

-- the call of a Scan
abbrev pub call_in : StilHead → Shape → Option ScanCall
call_in head (Scan items) = Some (call_of head.chains items)
call_in head shape = None

-- a statement in the block of a Loop, with its place in the Loop's text
abbrev pub body_of : StilHead → ℕ → List ℕ → List Token → BodyStatement
body_of head line text s = record {
  start = (place_of s).start;
  end = (place_of s).end;
  line = line_in line text (place_of s).start;
  call = call_in head (shape_of head true s);
}

-- a form that is read, or that passes unread
abbrev pub is_read : Shape → Bool
is_read NoForm = false
is_read Unsupported = false
is_read Other = true
is_read (Scan items) = true
is_read (Loop times body) = true

-- what a statement of a form denotes; one of no form, or of one that isn't supported, denotes nothing
abbrev pub statement_of : StilHead → ℕ → ℕ → List ℕ → Shape → Option PatternStatement
statement_of head pattern line text (Scan items) = Some (statements.Scan pattern text (call_of head.chains items) line)
statement_of head pattern line text Other = Some (statements.Other pattern text)
statement_of head pattern line text (Loop times body) = Some (statements.Loop pattern text times (map (body_of head line text) (body_statements body)) line)
statement_of head pattern line text NoForm = None
statement_of head pattern line text Unsupported = None

-- the bytes have no fault that counts, and are this statement
pub record DenotesBy (judging : Judging) (head : StilHead) (pattern line : ℕ) (text : List ℕ) (statement : PatternStatement) : Type 0 where
  pub sound : fault_by judging head line text ≡ None
  pub is : statement_of head pattern line text (shape_of head false (tokens_in text)) ≡ Some statement

-- the same where all kinds count
abbrev pub DenotesStatement : StilHead → ℕ → ℕ → List ℕ → PatternStatement → Type 0
DenotesStatement head pattern line text statement = DenotesBy Lengths head pattern line text statement

-- a fault of a STIL text is this one
abbrev pub IsFaultOf : Option PartFault → Fault → Type 0
IsFaultOf found fault = (f : PartFault) × (found ≡ Some f) × (fault ≡ at_line f.kind Stil f.line)

-- the bytes have this first fault of those that count
abbrev pub HoldsBy : Judging → StilHead → ℕ → List ℕ → Fault → Type 0
HoldsBy judging head line text fault = IsFaultOf (fault_by judging head line text) fault

-- the same where all kinds count
abbrev pub HoldsInStatement : StilHead → ℕ → List ℕ → Fault → Type 0
HoldsInStatement head line text fault = HoldsBy Lengths head line text fault

-- a call is well formed beside the chains of the head; where their lengths count, it neither shifts too seldom nor compares too much
abbrev pub IsAcceptedBy : Judging → StilHead → ScanCall → Type 0
IsAcceptedBy Form head call = IsCallOn (bits_of head.chains) call
IsAcceptedBy Lengths head call = IsCallOn (bits_of head.chains) call × IsAcceptedOn (bits_of head.chains) call

-- where there is a call it is so
abbrev pub IsAcceptedIn : Judging → StilHead → Option ScanCall → Type 0
IsAcceptedIn judging head None = Unit {0}
IsAcceptedIn judging head (Some call) = IsAcceptedBy judging head call

-- each call of a statement is so
abbrev pub AreAcceptedBy : Judging → StilHead → PatternStatement → Type 0
AreAcceptedBy judging head (statements.Scan pattern text call line) = IsAcceptedBy judging head call
AreAcceptedBy judging head (statements.Other pattern text) = Unit {0}
AreAcceptedBy judging head (statements.Loop pattern text times body line) = All (λ s. IsAcceptedIn judging head s.call) body

-- the same where the lengths of the chains count
abbrev pub AreAccepted : StilHead → PatternStatement → Type 0
AreAccepted head statement = AreAcceptedBy Lengths head statement
