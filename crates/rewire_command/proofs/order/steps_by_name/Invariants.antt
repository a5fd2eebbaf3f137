use Rattle.std.proofs.Common.{◌≡◌, List, ℕ, take, Bor}
use Rattle.std.specs.List.{find}
use Rattle.std.specs.Str.{bytes_eq}
use Rattle.std.specs.HashMap.{get}
use Rattle.rewire_command.specs.Rewiring.{instance_name}
use Rattle.rewire_command.proofs.order.steps_by_name.Given as goal

abbrev pub invariant-loop-step : goal.invariant-loop-step
invariant-loop-step l =
    (q : Bor (List ℕ)) → get (λ x y. bytes_eq x.now y.now) l.steps q ≡ find (λ step. bytes_eq (instance_name l.netlist step) q.now) (take l.step-index l.path.steps)
