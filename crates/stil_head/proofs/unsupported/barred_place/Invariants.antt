use Rattle.stil_head.proofs.unsupported.barred_place.Given as goal
use Rattle.std.proofs.Common.{◌≡◌, length, true}
use Rattle.list_laws.specs.Leasts.{lesser, least_of}
use Rattle.stil_head.specs.Unsupported.{places_at, is_barred, is_name_of}

abbrev pub invariant-loop-rest : goal.invariant-loop-rest
invariant-loop-rest l = lesser l.least (least_of (places_at (is_barred (is_name_of l.names.procedures) (is_name_of l.names.macros) l.scan) l.begins l.rest)) ≡ least_of (places_at (is_barred (is_name_of l.names.procedures) (is_name_of l.names.macros) l.scan) true l.body)

abbrev pub decreases-loop-rest : goal.decreases-loop-rest
decreases-loop-rest l = length l.rest
