-- Nothing is wrong with a made design and its patterns.
use Rattle.std.specs.Prelude.{ℕ, ◌≤◌, List}
use Rattle.base_types.specs.declared.fault.Fault.{Fault}
use Rattle.design_files.specs.Files.{with_head}
use Rattle.design_files.specs.Faults.{HoldsInFiles}
use Rattle.declared_chains.specs.Files.{IsHeadText}
use Rattle.declared_chains.specs.Faults.{IsPatternFault}
use Rattle.design_maker.specs.MadeStil.{stil_text}
use Rattle.made_law.specs.Files.Laws.{made_texts}

-- with its files beside the head of its patterns, which is the text before the first Pattern
abbrev pub BesideHeadLaw : Type 0
BesideHeadLaw = (n : ℕ) (text : List ℕ) → 8 ≤ n → n ≤ 16384 → IsHeadText (stil_text n) text → (fault : Fault) → HoldsInFiles (with_head (made_texts n) text) fault → ⊥

-- and with its patterns
abbrev pub PatternsLaw : Type 0
PatternsLaw = (n : ℕ) (text : List ℕ) → 8 ≤ n → n ≤ 16384 → IsHeadText (stil_text n) text → (fault : Fault) → IsPatternFault (stil_text n) text fault → ⊥
