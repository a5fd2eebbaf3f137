use Rattle.std.proofs.Common.{◌≡◌, take}
use Rattle.stil_tester.specs.Symbols.{differ, parity_of}
use Rattle.retarget.specs.Homes.{ArePut}
use Rattle.retarget.proofs.homes.put_homes.Given as goal

abbrev pub invariant-loop-place : goal.invariant-loop-place
invariant-loop-place l = record {
  whole : l.whole ≡ differ (parity_of l.chain.parity) l.chain.out_parity;
  load : l.load ≡ parity_of (take l.place l.chain.parity);
  put : ArePut l.number l.chain l.fn.homes l.homes l.chain.cells l.place;
}
