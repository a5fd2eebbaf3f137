-- Laws of the definitions, which know nothing of the code.
use Rattle.std.specs.Prelude.{◌≡◌, ◌<◌, ◌≤◌, ⊤, ℕ, ◌+◌, Bool, true, List, [], ◌∷◌, length, map, Option, Some, None}
use Rattle.std.specs.List.{AllByRecursion as Each}
use Rattle.token_forms.specs.Tokens.{Token}
use Rattle.stil_tokens.specs.StilTokens.{tokens_in}
use Rattle.stil_types.specs.declared.head.ScanChainDecl.{ScanChainDecl}
use Rattle.stil_types.specs.declared.head.StilHead.{StilHead}
use Rattle.stil_types.specs.declared.statement.ScanCall.{ScanCall}
use Rattle.stil_types.specs.declared.statement.BodyStatement.{BodyStatement}
use Rattle.stil_types.specs.declared.statement.PatternStatement.{PatternStatement}
use Rattle.stil_types.specs.declared.statement.PatternStatement.TheVariants as statements
use Rattle.stil_parts.specs.declared.gap.Comment.TheVariants.{Outside}
use Rattle.stil_parts.specs.declared.gap.Place.TheVariants.{Top}
use Rattle.stil_parts.specs.declared.gap.Point.{Point}
use Rattle.stil_syntax.specs.declared.item.Item.{Item}
use Rattle.stil_syntax.specs.declared.shape.Shape.TheVariants.{Scan}
use Rattle.stil_syntax.specs.Shapes.{shape_of}
use Rattle.stil_calls.specs.declared.judging.Judging.TheVariants.{Lengths}
use Rattle.stil_calls.specs.Scans.{call_of}
use Rattle.stil_calls.specs.Statements.{IsAcceptedBy}
use Rattle.stil_head.specs.Heads.{DenotesHead}
use Rattle.stil_tester.specs.declared.chains.Chains.{Chains}
use Rattle.stil_tester.specs.Meaning.{ShowSame}
use Rattle.stil_tester.specs.Runs.{all_events}
use Rattle.stil_written.specs.Readings.{heading_of}
use Rattle.stil_written.specs.Unbounded.{says_free}
use Rattle.stil_written.specs.Written.{written_says, with_chains, IsStated, IsRewritten, AreTogether}
use Rattle.stil_written.specs.Laws.{IsKept, HasMeaning, IsFront}
use Rattle.stil_writer.specs.Calls.{brace_end, written_scan, ArePorts}
use Rattle.stil_writer.specs.Loops.{written_loop, calls_moved, written_with}
use Rattle.stil_writer.specs.Laws.{IsWritable, SameFront}
use Rattle.pattern_laws.specs.Sums.{summed, sum_of}

-- texts with the same tokens up to the first { have the same heading
abbrev pub HeadingLaw : Type 0
HeadingLaw = (text new : List ℕ) → SameFront text new → heading_of text ≡ heading_of new

-- a scan call with a block, written for other chains with data that show the same there, may stand for the read one
abbrev pub ScanLaw : Type 0
ScanLaw = (head : StilHead) (chains : List ScanChainDecl) (marks : Bool) (end : ℕ) (old new : Chains) (pattern line brace : ℕ) (text : List ℕ) (call written : ScanCall)
    → IsStated Lengths head (statements.Scan pattern text call line) → brace_end (tokens_in text) ≡ Some brace → 0 < written.shifts → IsWritable (with_chains head chains marks end) written
    → ShowSame old new call written
    → IsRewritten Lengths (with_chains head chains marks end) (IsKept old new) (statements.Scan pattern text call line) (written_scan chains text written)

-- a scan call that shifts has a block
abbrev pub BlockLaw : Type 0
BlockLaw = (head : StilHead) (inside : Bool) (ts : List Token) (items : List Item) → shape_of head inside ts ≡ Scan items → 0 < (call_of head.chains items).shifts → (brace : ℕ) × (brace_end ts ≡ Some brace)

-- the declarations have the same ports, one after the other
abbrev pub SamePorts : List ScanChainDecl → List ScanChainDecl → Type 0
SamePorts [] [] = ⊤
SamePorts [] (d ∷ ds) = ⊥
SamePorts (c ∷ cs) [] = ⊥
SamePorts (c ∷ cs) (d ∷ ds) = (d.scan_in ≡ c.scan_in) × (d.scan_out ≡ c.scan_out) × SamePorts cs ds

-- a scan call that doesn't shift may stand as it was
abbrev pub StillLaw : Type 0
StillLaw = (head : StilHead) (chains : List ScanChainDecl) (marks : Bool) (end : ℕ) (old new : Chains) (pattern line : ℕ) (text : List ℕ) (call : ScanCall)
    → IsStated Lengths head (statements.Scan pattern text call line) → call.shifts ≡ 0 → SamePorts head.chains chains → ShowSame old new call call
    → IsRewritten Lengths (with_chains head chains marks end) (IsKept old new) (statements.Scan pattern text call line) text

-- what each accepted call becomes shows the same on the new chains, and can be written; one that doesn't shift stays
pub record IsMove (head other : StilHead) (old new : Chains) (move : ScanCall → ScanCall) : Type 0 where
  pub moves : (call : ScanCall) → IsAcceptedBy Lengths head call → 0 < call.shifts → (0 < (move call).shifts) × IsWritable other (move call) × ShowSame old new call (move call)
  pub stays : (call : ScanCall) → call.shifts ≡ 0 → (move call ≡ call) × ShowSame old new call call

-- a token so many bytes further on
abbrev pub token_on : ℕ → Token → Token
token_on k t = record { text = t.text; start = k + t.start; end = k + t.end }

-- tokens so many bytes further on
abbrev pub tokens_on : ℕ → List Token → List Token
tokens_on k ts = map (token_on k) ts

-- the form of a statement in the block of a Loop doesn't hang on its place
abbrev pub ShiftLaw : Type 0
ShiftLaw = (k : ℕ) (head : StilHead) (ts : List Token) → shape_of head true (tokens_on k ts) ≡ shape_of head true ts

-- a Loop whose calls are moved to other chains of the same ports is written so that it may stand for the read one
abbrev pub LoopLaw : Type 0
LoopLaw = (head : StilHead) (chains : List ScanChainDecl) (marks : Bool) (end : ℕ) (old new : Chains) (move : ScanCall → ScanCall) (pattern times line : ℕ) (text : List ℕ) (body : List BodyStatement)
    → IsStated Lengths head (statements.Loop pattern text times body line) → SamePorts head.chains chains → IsMove head (with_chains head chains marks end) old new move
    → IsRewritten Lengths (with_chains head chains marks end) (IsKept old new) (statements.Loop pattern text times body line) (written_loop chains text body (calls_moved move body))

-- a text of patterns without fault, whose calls are moved to other chains of the same ports and cells, is written so that it is read without
-- fault, with the same names, and runs alike on both chains, whatever the cells and the answers
abbrev pub AllLaw : Type 0
AllLaw = (head : StilHead) (chains : List ScanChainDecl) (marks : Bool) (end : ℕ) (old new : Chains) (move : ScanCall → ScanCall) (head_form : List ℕ → List ℕ) (p q : Point) (bytes : List ℕ)
    → AreTogether p q → (says_free Lengths head p bytes).fault ≡ None → old.cells ≡ new.cells → SamePorts head.chains chains → IsMove head (with_chains head chains marks end) old new move
    → HasMeaning old new (says_free Lengths head p bytes).says
    (says_free Lengths (with_chains head chains marks end) q (written_says (record { head = head_form; statement = written_with chains move }) (says_free Lengths head p bytes).says))

-- and behind a head it begins as it did, as far as the head's end looks
abbrev pub MovedFrontLaw : Type 0
MovedFrontLaw = (head : StilHead) (chains : List ScanChainDecl) (marks : Bool) (end : ℕ) (old new : Chains) (move : ScanCall → ScanCall) (head_form : List ℕ → List ℕ) (p : Point) (bytes : List ℕ)
    → p.place ≡ Top → p.comment ≡ Outside → (says_free Lengths head p bytes).fault ≡ None → SamePorts head.chains chains → IsMove head (with_chains head chains marks end) old new move
    → IsFront bytes → IsFront (written_says (record { head = head_form; statement = written_with chains move }) (says_free Lengths head p bytes).says)

-- the statements of a block stand in order between two places, none in another
abbrev pub AreRisingIn : ℕ → ℕ → List BodyStatement → Type 0
AreRisingIn at end [] = at ≤ end
AreRisingIn at end (b ∷ bs) = (at ≤ b.start) × (b.start ≤ b.end) × AreRisingIn b.end end bs

-- those of a Loop do
abbrev pub RisingLaw : Type 0
RisingLaw = (head : StilHead) (pattern times line : ℕ) (text : List ℕ) (body : List BodyStatement) → IsStated Lengths head (statements.Loop pattern text times body line) → AreRisingIn 0 (length text) body

-- no call of the block shifts
abbrev pub IsStillCall : Option ScanCall → Type 0
IsStillCall None = ⊤
IsStillCall (Some call) = call.shifts ≡ 0

-- a Loop without a call that shifts stays as it was
abbrev pub StillLoopLaw : Type 0
StillLoopLaw = (head : StilHead) (chains : List ScanChainDecl) (move : ScanCall → ScanCall) (pattern times line : ℕ) (text : List ℕ) (body : List BodyStatement) → IsStated Lengths head (statements.Loop pattern text times body line)
    → ((call : ScanCall) → call.shifts ≡ 0 → move call ≡ call) → Each (λ b. IsStillCall b.call) body → written_loop chains text body (calls_moved move body) ≡ text

-- what is summed up over a run is the sum over its statements, a Loop's as often as its number says
abbrev pub SumsLaw : Type 0
SumsLaw = (f : ScanCall → ℕ) (ss : List PatternStatement) → summed f (all_events ss) ≡ sum_of f ss

-- the ports of a head that is read can be written
abbrev pub PortsLaw : Type 0
PortsLaw = (bytes : List ℕ) (head : StilHead) → DenotesHead bytes head → ArePorts head.chains

-- and so can those of other chains of the same ports
abbrev pub SamePortsLaw : Type 0
SamePortsLaw = (cs ds : List ScanChainDecl) → SamePorts cs ds → ArePorts cs → ArePorts ds
