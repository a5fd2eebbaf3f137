-- What is found by a look-up.
use Rattle.std.proofs.Common.{◌≡◌, ℕ, ◌<◌, List, [], length, Option, sym, ap, ◌∙◌}
use Rattle.std.specs.Prelude.{option_and_then, slice_get}
use Rattle.std.specs.List.{HoldsAt}
use Rattle.std.proofs.lemmas.Option.{slice_get-get_or}
use Rattle.netlist_core.specs.declared.netlist.NetId.{NetId}
use Rattle.netlist_core.specs.declared.netlist.Instance.{Instance}

-- an instance to stand where a list has none
blank : Instance
blank = record { name = []; cell = []; connections = []; line = 0 }

pub held : (f : Instance → Option NetId) (xs : List Instance) (k : ℕ) (r : Option NetId) → k < length xs → HoldsAt (λ i. r ≡ f i) xs k → r ≡ option_and_then f (slice_get xs k)
held f xs k r lt holds = holds blank ∙ sym (ap (option_and_then f) (slice_get-get_or xs k blank lt))
