use Rattle.std.proofs.Common.{◌≡◌, map, take}
use Rattle.def_edit.specs.Layouts.{laid_chain}
use Rattle.def_edit.proofs.layouts.chain_layouts.Given as goal

abbrev pub invariant-loop-chain : goal.invariant-loop-chain
invariant-loop-chain l = l.layouts.items ≡ map laid_chain (take l.chain-index l.chains)
