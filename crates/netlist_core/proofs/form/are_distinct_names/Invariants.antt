use Rattle.std.proofs.Common.{◌≡◌, List, ℕ, take, Bor}
use Rattle.std.specs.Str.{bytes_eq}
use Rattle.std.specs.List.{list_any}
use Rattle.std.specs.HashSet.{contains}
use Rattle.netlist_core.proofs.form.are_distinct_names.Given as goal

abbrev pub invariant-loop-name : goal.invariant-loop-name
invariant-loop-name l = (q : Bor (List ℕ)) → contains (λ x y. bytes_eq x.now y.now) l.set q ≡ list_any (λ x. bytes_eq q.now x.now) (take l.name-index l.names)
