-- What the made STIL denotes, for every number of units that `make_design` takes.
use Rattle.std.specs.Prelude.{◌≡◌, ℕ, ◌≤◌, List, length, take, Some, None}
use Rattle.base_types.specs.declared.fault.Fault.{Fault}
use Rattle.stil_types.specs.declared.head.StilHead.{StilHead}
use Rattle.stil_parts.specs.Heads.{head_len}
use Rattle.stil_head.specs.Heads.{DenotesHead}
use Rattle.stil_head.specs.Faults.{HoldsInHead}
use Rattle.stil_calls.specs.declared.judging.Judging.TheVariants.{Lengths}
use Rattle.stil_reader.specs.Sayings.{told_whole}
use Rattle.stil_reader.specs.Patterns.{SaysPatterns}
use Rattle.design_maker.specs.MadeStil.{stil_text}
use Rattle.made_law.specs.Patterns.MadeHead.{BlockPlace, head_bytes, made_head}
use Rattle.made_law.specs.Patterns.MadePatterns.{made_stil}

-- a text denotes the head of n units
pub record DenotesMadeHead (text : List ℕ) (n : ℕ) : Type 0 where
  -- where its blocks stand
  pub at : ℕ → BlockPlace
  pub denotes : DenotesHead text (made_head at n)

-- the head's bytes are shown within the limit, and end where the first Pattern begins
pub record IsMadeHeadText (n : ℕ) : Type 0 where
  pub shown : head_len (stil_text n) ≡ Some (length (head_bytes n))
  pub are : take (length (head_bytes n)) (stil_text n) ≡ head_bytes n

-- so they are
abbrev pub HeadTextLaw : Type 0
HeadTextLaw = (n : ℕ) → 8 ≤ n → n ≤ 16384 → IsMadeHeadText n

-- the made STIL denotes the head of n units
abbrev pub WholeHeadLaw : Type 0
WholeHeadLaw = (n : ℕ) → 8 ≤ n → n ≤ 16384 → DenotesMadeHead (stil_text n) n

-- and so do its head's bytes alone
abbrev pub HeadLaw : Type 0
HeadLaw = (n : ℕ) → 8 ≤ n → n ≤ 16384 → DenotesMadeHead (head_bytes n) n

-- nothing is wrong with the head of the whole text
abbrev pub NoWholeHeadFaultLaw : Type 0
NoWholeHeadFaultLaw = (n : ℕ) → 8 ≤ n → n ≤ 16384 → (fault : Fault) → HoldsInHead (stil_text n) fault → ⊥

-- nor with its bytes alone
abbrev pub NoHeadFaultLaw : Type 0
NoHeadFaultLaw = (n : ℕ) → 8 ≤ n → n ≤ 16384 → (fault : Fault) → HoldsInHead (head_bytes n) fault → ⊥

-- beside the head, wherever its blocks stand, the made STIL says its sixteen calls
abbrev pub PatternsLaw : Type 0
PatternsLaw = (n : ℕ) (at : ℕ → BlockPlace) → 8 ≤ n → n ≤ 16384 → SaysPatterns Lengths (stil_text n) (made_head at n) (made_stil at n)

-- and nothing is wrong with them
abbrev pub NoPatternFaultLaw : Type 0
NoPatternFaultLaw = (n : ℕ) (head : StilHead) → 8 ≤ n → n ≤ 16384 → DenotesHead (head_bytes n) head → (told_whole head (stil_text n)).fault ≡ None
