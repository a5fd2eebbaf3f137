use Rattle.stil_head.proofs.twice.port_again.Given as goal
use Rattle.std.proofs.Common.{◌≡◌, drop, false}
use Rattle.std.specs.List.{flat_map}
use Rattle.list_laws.specs.Leasts.{lesser, least_of}
use Rattle.stil_head.specs.Unsupported.{is_name_of}
use Rattle.stil_head.proofs.Rows.{again_by}
use Rattle.stil_head.specs.Twice.{port_rows}

abbrev pub invariant-loop-chain : goal.invariant-loop-chain
invariant-loop-chain l = lesser l.least (least_of (again_by (is_name_of l.names) (flat_map port_rows (drop l.chain-index l.chains)))) ≡ least_of (again_by (λ q. false) (flat_map port_rows l.chains))
