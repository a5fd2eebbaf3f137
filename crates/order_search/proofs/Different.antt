-- Units of which no two are the same.
use Rattle.std.proofs.Common.{◌≡◌, ℕ, ◌<◌, ◌≤◌, List, length, get_or, arith, eqb, ◌∙◌}
use Rattle.std.proofs.lemmas.Bool.{eqb-true}
use Rattle.std.proofs.lemmas.List.{get_or_default}
use Rattle.std.proofs.lemmas.Map.Views.{Contains-from_any}
use Rattle.std.proofs.lemmas.Map.Steps.{length-le_from_distinct_below}
use Rattle.std.specs.List.{Contains, IsDistinct}
use Rattle.wire_cost.specs.Lengths.{AreWithin}

below : (us : List ℕ) (n q : ℕ) → AreWithin us n → Contains us q → q < n
below us n q w t = let e : get_or us t.0 0 ≡ q = get_or_default us t.0 0 q t.1 ∙ t.2 in let l : get_or us t.0 0 < n = w t.0 t.1 in omega arith

pub few_different : (us : List ℕ) (n : ℕ) → IsDistinct eqb us → AreWithin us n → length us ≤ n
few_different us n d w = length-le_from_distinct_below us n d (λ q h. below us n q w (Contains-from_any eqb-true q us h))
