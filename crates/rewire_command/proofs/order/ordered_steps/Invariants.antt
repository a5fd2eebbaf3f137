use Rattle.std.proofs.Common.{◌≡◌, List, ℕ, Option, take, Bor}
use Rattle.std.specs.List.{filter_map}
use Rattle.std.specs.Str.{bytes_eq}
use Rattle.std.specs.HashMap.{get}
use Rattle.chain_trace.specs.declared.path.Step.{Step}
use Rattle.rewire_command.proofs.order.ordered_steps.Given as goal

abbrev pub invariant-loop-name : goal.invariant-loop-name
invariant-loop-name l =
    (find : List ℕ → Option Step) → ((q : Bor (List ℕ)) → get (λ x y. bytes_eq x.now y.now) l.steps q ≡ find q.now) → l.ordered.items ≡ filter_map find (take l.name-index l.names)
