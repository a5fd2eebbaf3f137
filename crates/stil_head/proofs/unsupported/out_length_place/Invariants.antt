use Rattle.stil_head.proofs.unsupported.out_length_place.Given as goal
use Rattle.std.proofs.Common.{◌≡◌, drop}
use Rattle.list_laws.specs.Leasts.{lesser, least_of}
use Rattle.stil_head.specs.Unsupported.{out_length_places}

abbrev pub invariant-loop-chain : goal.invariant-loop-chain
invariant-loop-chain l = lesser l.least (least_of (out_length_places (drop l.chain-index l.chains))) ≡ least_of (out_length_places l.chains)
