-- At most one value is denoted, and at most one fault is the first.
use Rattle.std.proofs.Common.{◌≡◌, ℕ, List, ◌++◌, take, Some, None, sym, ap, subst, ◌∙◌, inl}
use Rattle.std.proofs.lemmas.Option.{same_Some}
use Rattle.std.proofs.lemmas.List.{take-append-drop}
use Rattle.base_types.specs.declared.fault.Fault.{Fault}
use Rattle.base_types.specs.declared.fault.FileKind.TheVariants.{Stil}
use Rattle.base_types.specs.Faults.{at_line}
use Rattle.base_types.specs.FirstFault.{IsFirstFault, ComesBefore}
use Rattle.base_types.proofs.FirstFaults.{first_of}
use Rattle.stil_types.specs.declared.head.StilHead.{StilHead}
use Rattle.stil_types.specs.declared.statement.PatternStatement.{PatternStatement}
use Rattle.stil_parts.specs.declared.part.PartFault.{PartFault}
use Rattle.stil_calls.specs.declared.judging.Judging.{Judging}
use Rattle.stil_calls.specs.declared.judging.Judging.TheVariants.{Form, Lengths}
use Rattle.stil_head.specs.Faults.{HoldsInHead}
use Rattle.stil_head.specs.Heads.{DenotesHead}
use Rattle.stil_head.proofs.Texts.{only_head}
use Rattle.stil_reader.specs.declared.stil.Stil.{Stil as read_stil}
use Rattle.stil_reader.specs.declared.stil.Judged.{Judged}
use Rattle.stil_reader.specs.Patterns.{patterns_told, SaysPatterns, DenotesStil, IsJudged, MakesUp, HoldsBehind, HoldsInStil, InHead, InPatterns}
use Rattle.stil_reader.specs.Reading.{IsReadBy}
use Rattle.stil_reader.proofs.Heads.{no_head_fault}

-- what is said is one
stil_of : StilHead → List (List ℕ) → List PatternStatement → read_stil
stil_of head patterns statements = record { head = head; patterns = patterns; statements = statements }

same_stil : (a b : read_stil) → a.head ≡ b.head → a.patterns ≡ b.patterns → a.statements ≡ b.statements → a ≡ b
unfolding stil_of
same_stil a b h p s =
    ap (λ (x : StilHead). stil_of x a.patterns a.statements) h ∙ ap (λ (x : List (List ℕ)). stil_of b.head x a.statements) p ∙ ap (λ (x : List PatternStatement). stil_of b.head b.patterns x) s

one_stil : (judging : Judging) (bytes : List ℕ) (head : StilHead) (a b : read_stil) → SaysPatterns judging bytes head a → SaysPatterns judging bytes head b → a ≡ b
one_stil judging bytes head a b p q = same_stil a b (p.head_is ∙ sym q.head_is) (p.patterns ∙ sym q.patterns) (p.statements ∙ sym q.statements)

judged_of : read_stil → List (List ℕ) → Judged
judged_of stil gaps = record { stil = stil; gaps = gaps }

same_judged : (a b : Judged) → a.stil ≡ b.stil → a.gaps ≡ b.gaps → a ≡ b
unfolding judged_of
same_judged a b s g = ap (λ (x : read_stil). judged_of x a.gaps) s ∙ ap (λ (x : List (List ℕ)). judged_of b.stil x) g

-- beside a head
module _ (bytes : List ℕ) (head : StilHead) (judged : Judged) (r : IsReadBy Lengths bytes head judged) where
  pub only_judged : (other : Judged) → IsJudged bytes head other → other ≡ judged
  only_judged other o = same_judged other judged (one_stil Lengths bytes head other.stil judged.stil o.says r.says) (o.gaps ∙ sym r.gaps)

-- with its head
module _ (bytes : List ℕ) (head : StilHead) (d : DenotesHead bytes head) where
  module _ (judged : Judged) (r : IsReadBy Form bytes head judged) where
    pub only_stil : (other : read_stil) → DenotesStil bytes other → other ≡ judged.stil
    only_stil other o = one_stil Form bytes head other judged.stil (subst (λ (x : StilHead). SaysPatterns Form bytes x other) (only_head bytes head other.head d o.head) o.says) r.says

  others : (fault : Fault) → HoldsBehind Form bytes head fault → (g : Fault) → HoldsInStil bytes g → g ≡ fault
  others fault h g (InHead k) = absurd (no_head_fault bytes head d g k)
  others fault h g (InPatterns other o k) =
      let same = only_head bytes head other d o in
      let here : (patterns_told Form head bytes).fault ≡ Some k.0 = ap (λ (x : StilHead). (patterns_told Form x bytes).fault) (sym same) ∙ k.1 in
      k.2 ∙ ap (λ (p : PartFault). at_line p.kind Stil p.line) (same_Some _ _ (sym here ∙ h.1)) ∙ sym h.2

  pub first_in_patterns : (fault : Fault) → HoldsBehind Form bytes head fault → IsFirstFault (HoldsInStil bytes) fault
  first_in_patterns fault h = first_of (HoldsInStil bytes) fault (InPatterns head d h) (λ g k. inl (others fault h g k))

-- a fault of the head is the first
later_than : (bytes : List ℕ) (fault : Fault) → IsFirstFault (HoldsInHead bytes) fault → (g : Fault) → HoldsInStil bytes g → ComesBefore g fault → ⊥
later_than bytes fault first g (InHead k) before = first.least g k before
later_than bytes fault first g (InPatterns head d k) before = no_head_fault bytes head d fault first.holds

pub first_in_head : (bytes : List ℕ) (fault : Fault) → IsFirstFault (HoldsInHead bytes) fault → IsFirstFault (HoldsInStil bytes) fault
first_in_head bytes fault first = record { holds = InHead first.holds; least = later_than bytes fault first }

-- the fault behind a head is the only one
pub first_behind : (judging : Judging) (bytes : List ℕ) (head : StilHead) (fault : Fault) → HoldsBehind judging bytes head fault → IsFirstFault (HoldsBehind judging bytes head) fault
first_behind judging bytes head fault h =
    first_of (HoldsBehind judging bytes head) fault h (λ g k. inl (k.2 ∙ ap (λ (p : PartFault). at_line p.kind Stil p.line) (same_Some _ _ (sym k.1 ∙ h.1)) ∙ sym h.2))

-- where the patterns behind a head are read, nothing is wrong with them
pub no_fault_behind : (judging : Judging) (bytes : List ℕ) (head : StilHead) (judged : Judged) → IsReadBy judging bytes head judged → (fault : Fault) → HoldsBehind judging bytes head fault → ⊥
no_fault_behind judging bytes head judged r fault h = let e : None ≡ Some h.0 = sym r.says.sound ∙ h.1 in absurd cc

-- they are what is judged, and make up the text
module _ (bytes : List ℕ) (head : StilHead) (judged : Judged) (r : IsReadBy Lengths bytes head judged) where
  pub is_judged : IsJudged bytes head judged
  is_judged = record { says = r.says; gaps = r.gaps }

  pub makes_up : MakesUp bytes head judged
  makes_up = record { count = r.count; whole = ap (λ (l : List ℕ). take head.end bytes ++ l) r.pieces ∙ take-append-drop head.end bytes }

-- and nothing is wrong with the text
pub no_stil_fault : (bytes : List ℕ) (head : StilHead) → DenotesHead bytes head → (judged : Judged) → IsReadBy Form bytes head judged → (fault : Fault) → HoldsInStil bytes fault → ⊥
no_stil_fault bytes head d judged r fault (InHead k) = no_head_fault bytes head d fault k
no_stil_fault bytes head d judged r fault (InPatterns other o k) =
    no_fault_behind Form bytes head judged r fault (subst (λ (x : StilHead). HoldsBehind Form bytes x fault) (only_head bytes head other d o) k)
