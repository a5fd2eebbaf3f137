use Rattle.chain_maps.proofs.Along.{same_along, same_instances}
use Rattle.chain_maps.proofs.SameRanks.{rearranged, planned}
use Rattle.chain_maps.proofs.laws.ranks_law.Goals as goal

pub returns : goal.returns
returns c = record {
  instances = same_instances;
  along = λ n m cells old new same e. same_along n m cells same old new e;
  rearranged = rearranged;
  planned = planned;
}
