-- A whole text whose scan calls are moved, Loops and all.
use Rattle.std.proofs.Common.{◌≡◌, ℕ, Bool, List, [], ◌∷◌, take}
use Rattle.std.specs.List.{AllByRecursion as Each}
use Rattle.stil_types.specs.declared.head.ScanChainDecl.{ScanChainDecl}
use Rattle.stil_types.specs.declared.head.StilHead.{StilHead}
use Rattle.stil_types.specs.declared.statement.ScanCall.{ScanCall}
use Rattle.stil_types.specs.declared.statement.PatternStatement.{PatternStatement}
use Rattle.stil_types.specs.declared.statement.PatternStatement.TheVariants as statements
use Rattle.stil_calls.specs.declared.judging.Judging.TheVariants.{Lengths}
use Rattle.stil_reader.specs.Sayings.{text_of}
use Rattle.stil_reader.specs.Patterns.{statements_in}
use Rattle.stil_tester.specs.declared.chains.Chains.{Chains}
use Rattle.stil_written.specs.Unbounded.{says_free}
use Rattle.stil_written.specs.Written.{with_chains, IsStated, IsRewritten}
use Rattle.stil_written.specs.Laws.{IsKept}
use Rattle.stil_written.proofs.Fronts.{front_law}
use Rattle.stil_written.proofs.Meanings.{whole_law}
use Rattle.stil_written.proofs.Others.{other_law}
use Rattle.pattern_laws.specs.Laws.{SamePorts, IsMove, AllLaw, MovedFrontLaw}
use Rattle.pattern_laws.proofs.Moves.{scan_as, none_or_some}
use Rattle.stil_writer.specs.Loops.{written_with}
use Rattle.pattern_laws.proofs.Loops.{loop_law}

module _ (head : StilHead) (chains : List ScanChainDecl) (marks : Bool) (end : ℕ) (old new : Chains) (move : ScanCall → ScanCall) (ports : SamePorts head.chains chains)
    (moving : IsMove head (with_chains head chains marks end) old new move) where
  one : (s : PatternStatement) → IsStated Lengths head s → IsRewritten Lengths (with_chains head chains marks end) (IsKept old new) s (written_with chains move s)
  one (statements.Scan pattern text call line) s = scan_as head chains marks end old new move ports moving pattern line text call s (none_or_some call.shifts)
  one (statements.Other pattern text) s = other_law Lengths head chains marks end old new pattern text s
  one (statements.Loop pattern text times body line) s = loop_law head chains marks end old new move pattern times line text body s ports moving

  each : (ss : List PatternStatement) → Each (λ s. IsStated Lengths head s → IsRewritten Lengths (with_chains head chains marks end) (IsKept old new) s (written_with chains move s)) ss
  each [] = tt
  each (s ∷ ss) = (one s, each ss)

  begun : (ss : List PatternStatement) → Each (λ s. IsStated Lengths head s → take 2 (text_of s) ≡ take 2 (written_with chains move s)) ss
  begun [] = tt
  begun (s ∷ ss) = (λ is. (one s is).begins, begun ss)

pub all_law : AllLaw
all_law head chains marks end old new move head_form p q bytes together sound cells ports moving =
    whole_law (record { head = head_form; statement = written_with chains move }) Lengths head (with_chains head chains marks end) old new p q bytes together sound cells
    (each head chains marks end old new move ports moving (statements_in (says_free Lengths head p bytes).says))

pub moved_front_law : MovedFrontLaw
moved_front_law head chains marks end old new move head_form p bytes top outside sound ports moving front =
    front_law (record { head = head_form; statement = written_with chains move }) Lengths head p bytes top outside sound
    (begun head chains marks end old new move ports moving (statements_in (says_free Lengths head p bytes).says)) front
