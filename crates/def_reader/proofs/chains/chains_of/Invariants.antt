use Rattle.std.proofs.Common.{◌≡◌, map, take}
use Rattle.def_reader.specs.Designs.{chain_of}
use Rattle.def_reader.proofs.chains.chains_of.Given as goal

abbrev pub invariant-loop-chain : goal.invariant-loop-chain
invariant-loop-chain l = l.chains ≡ map (chain_of l.cells.0 l.cells.1) (take l.chain-index l.fn.statements)
