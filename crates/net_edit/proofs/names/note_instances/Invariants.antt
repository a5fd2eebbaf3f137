use Rattle.std.proofs.Common.{◌≡◌, ℕ, ◌||◌, take}
use Rattle.std.specs.List.{list_any}
use Rattle.std.specs.Str.{bytes_eq}
use Rattle.net_edit.specs.TailNames.{tail_name}
use Rattle.net_edit.specs.TakenNames.{has_name}
use Rattle.net_edit.proofs.names.note_instances.Given as goal

abbrev pub invariant-loop-placed : goal.invariant-loop-placed
invariant-loop-placed l =
    (number : ℕ) → has_name l.taken (tail_name number) ≡ (has_name l.fn.taken (tail_name number) || list_any (λ placed. bytes_eq placed.name (tail_name number)) (take l.placed-index l.instances))
