use Rattle.std.proofs.Common.{take}
use Rattle.design_elements.specs.Faults.{all_rows}
use Rattle.design_elements.specs.Seen.{IsSeenElements}
use Rattle.design_elements.proofs.twice.least_again.Given as goal

abbrev pub invariant-loop-chain : goal.invariant-loop-chain
invariant-loop-chain l = IsSeenElements l.seen (all_rows l.cells.0 l.cells.1 (take l.chain-index l.chains))
