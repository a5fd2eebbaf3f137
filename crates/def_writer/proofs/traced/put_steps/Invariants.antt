use Rattle.std.proofs.Common.{◌≡◌, ℕ, take}
use Rattle.std.specs.HashMap.{get}
use Rattle.std.specs.List.{find}
use Rattle.std.specs.Option.{option_or}
use Rattle.chain_trace.specs.Drivers.{same_place}
use Rattle.def_writer.specs.PlanChains.{is_at}
use Rattle.def_writer.proofs.traced.put_steps.Given as goal

abbrev pub invariant-loop-step : goal.invariant-loop-step
invariant-loop-step l = (q : ℕ × ℕ) → get same_place l.steps q ≡ option_or (get same_place l.initial.steps q) (find (is_at q.0 q.1) (take l.step-index l.more))
