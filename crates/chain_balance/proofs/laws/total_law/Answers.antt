use Rattle.chain_balance.proofs.Totals.{total}
use Rattle.chain_balance.proofs.laws.total_law.Goals as goal

pub returns : goal.returns
returns c = record { total = total }
