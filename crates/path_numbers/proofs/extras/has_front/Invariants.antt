use Rattle.std.proofs.Common.{◌≡◌, false, take}
use Rattle.std.specs.List.{list_any}
use Rattle.path_numbers.specs.Numbers.{begins_with}
use Rattle.path_numbers.proofs.extras.has_front.Given as goal

abbrev pub invariant-loop-name : goal.invariant-loop-name
invariant-loop-name l = list_any (λ other. begins_with l.front other.now) (take l.name-index l.names) ≡ false
