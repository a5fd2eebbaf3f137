use Rattle.stil_head.proofs.twice.callee_again.Given as goal
use Rattle.std.proofs.Common.{◌≡◌, drop, map, false}
use Rattle.list_laws.specs.Leasts.{lesser, least_of}
use Rattle.stil_head.specs.Unsupported.{is_name_of}
use Rattle.stil_head.proofs.Rows.{again_by}
use Rattle.stil_head.specs.Twice.{callee_row}

abbrev pub invariant-loop-callee : goal.invariant-loop-callee
invariant-loop-callee l = lesser l.least (least_of (again_by (is_name_of l.names) (map callee_row (drop l.callee-index l.callees)))) ≡ least_of (again_by (λ q. false) (map callee_row l.callees))
