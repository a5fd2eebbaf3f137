use Rattle.std.proofs.Common.{◌≡◌, take}
use Rattle.retarget.specs.declared.side.Side.TheVariants.{Load, Compare}
use Rattle.retarget.specs.Exits.{exit_cells, exit_parities}
use Rattle.retarget.proofs.exits.Exits.of.Given as goal

abbrev pub invariant-loop-chain : goal.invariant-loop-chain
invariant-loop-chain l = record {
  cells : l.exits.cells ≡ exit_cells (take l.chain-index l.chains);
  loads : l.exits.loads ≡ exit_parities Load (take l.chain-index l.chains);
  compares : l.exits.compares ≡ exit_parities Compare (take l.chain-index l.chains);
}
