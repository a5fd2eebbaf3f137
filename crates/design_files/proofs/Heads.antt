-- What the reader of a head gives makes it known.
use Rattle.std.proofs.Common.{◌≡◌, ℕ, List, Option, Some, None, ap}
use Rattle.base_types.specs.declared.fault.Fault.{Fault}
use Rattle.stil_types.specs.declared.head.StilHead.{StilHead}
use Rattle.stil_head.specs.Heads.{DenotesHead}
use Rattle.stil_head.specs.Faults.{HoldsInHead}
use Rattle.design_files.specs.Files.{IsHeadIn}
use Rattle.design_files.specs.Stages.{IsHeadKnown}

pub known_some : (text : List ℕ) (head : StilHead) → DenotesHead text head → ((other : StilHead) → DenotesHead text other → other ≡ head) → ((f : Fault) → HoldsInHead text f → ⊥)
    → IsHeadKnown (Some text) (Some head)
known_some text head is only none = record { is = is; only = some_is; no_head = none } where
  some_is : (other : Option StilHead) → IsHeadIn (Some text) other → other ≡ Some head
  some_is None is = absurd is
  some_is (Some other) is = ap (λ (h : StilHead). Some h) (only other is)
