-- Laws of the definitions, which know nothing of the code.
use Rattle.std.specs.Prelude.{◌≡◌, ◌≤◌, ℕ, Bool, List, None}
use Rattle.stil_types.specs.declared.head.ScanChainDecl.{ScanChainDecl}
use Rattle.stil_types.specs.declared.head.StilHead.{StilHead}
use Rattle.stil_parts.specs.declared.gap.Comment.TheVariants.{Outside}
use Rattle.stil_parts.specs.declared.gap.Place.TheVariants.{Top}
use Rattle.stil_parts.specs.declared.gap.Point.{Point}
use Rattle.stil_calls.specs.declared.judging.Judging.TheVariants.{Lengths}
use Rattle.stil_calls.specs.Scans.{bits_of, most_characters}
use Rattle.stil_head.specs.Heads.{DenotesHead}
use Rattle.stil_tester.specs.declared.chains.Chains.{Chains}
use Rattle.stil_tester.specs.Shifting.{bit_counts}
use Rattle.stil_written.specs.Unbounded.{says_free}
use Rattle.stil_written.specs.Written.{Form, written_says, with_chains, AreTogether}
use Rattle.stil_written.specs.Laws.{HasMeaning, IsFront}
use Rattle.stil_writer.specs.Calls.{ArePorts}
use Rattle.stil_writer.specs.Loops.{written_with}
use Rattle.pattern_laws.specs.Laws.{SamePorts, IsMove}
use Rattle.retarget.specs.Places.{longest}
use Rattle.retarget.specs.Retargeting.{HaveSameCells}
use Rattle.retarget.specs.Moved.{moved_call}

-- a head's chains and those that are written in their place, beside the scan chains that they declare: the same ports and cells, as many
-- bits as ScanLength says, and none has more than a string may have characters
pub record AreDeclared (head : StilHead) (chains : List ScanChainDecl) (old new : Chains) : Type 0 where
  pub cells : HaveSameCells old new
  pub ports : SamePorts head.chains chains
  pub read : bits_of head.chains ≡ bit_counts old
  pub written : bits_of chains ≡ bit_counts new
  pub few : longest new ≤ most_characters

-- how a text is written whose calls are retargeted
abbrev pub retargeted_form : List ScanChainDecl → Chains → Chains → (List ℕ → List ℕ) → Form
retargeted_form chains old new head_form = record { head = head_form; statement = written_with chains (moved_call old new) }

-- to retarget a call is to move it
abbrev pub MovesLaw : Type 0
MovesLaw = (head : StilHead) (chains : List ScanChainDecl) (marks : Bool) (end : ℕ) (old new : Chains) → AreDeclared head chains old new → ArePorts head.chains
    → IsMove head (with_chains head chains marks end) old new (moved_call old new)

-- patterns behind a head that is read, without fault, whose calls are retargeted to other chains, are written so that they are read without
-- fault, with the same names, and run alike on both chains, whatever the cells and the answers
abbrev pub MeaningLaw : Type 0
MeaningLaw = (text : List ℕ) (head : StilHead) (chains : List ScanChainDecl) (marks : Bool) (end : ℕ) (old new : Chains) (head_form : List ℕ → List ℕ) (p q : Point) (bytes : List ℕ)
    → DenotesHead text head → AreDeclared head chains old new → AreTogether p q → (says_free Lengths head p bytes).fault ≡ None
    → HasMeaning old new (says_free Lengths head p bytes).says
    (says_free Lengths (with_chains head chains marks end) q (written_says (retargeted_form chains old new head_form) (says_free Lengths head p bytes).says))

-- and behind a head they begin as they did, as far as the head's end looks
abbrev pub FrontLaw : Type 0
FrontLaw = (text : List ℕ) (head : StilHead) (chains : List ScanChainDecl) (old new : Chains) (head_form : List ℕ → List ℕ) (p : Point) (bytes : List ℕ)
    → DenotesHead text head → AreDeclared head chains old new → p.place ≡ Top → p.comment ≡ Outside → (says_free Lengths head p bytes).fault ≡ None
    → IsFront bytes → IsFront (written_says (retargeted_form chains old new head_form) (says_free Lengths head p bytes).says)
