use Rattle.stil_head.proofs.twice.chain_again.Given as goal
use Rattle.std.proofs.Common.{◌≡◌, drop, map, false}
use Rattle.list_laws.specs.Leasts.{lesser, least_of}
use Rattle.stil_head.specs.Unsupported.{is_name_of}
use Rattle.stil_head.proofs.Rows.{again_by}
use Rattle.stil_head.specs.Twice.{chain_row}

abbrev pub invariant-loop-chain : goal.invariant-loop-chain
invariant-loop-chain l = lesser l.least (least_of (again_by (is_name_of l.names) (map chain_row (drop l.chain-index l.chains)))) ≡ least_of (again_by (λ q. false) (map chain_row l.chains))
