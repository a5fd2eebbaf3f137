use Rattle.chain_balance.specs.Searches.{AreGivers, AllGive}
use Rattle.chain_balance.proofs.search.note_givers.Given as goal

abbrev pub invariant-loop-chain : goal.invariant-loop-chain
invariant-loop-chain l = record {
  are : AreGivers l.rules l.plan l.groups l.numbers l.givers;
  all : AllGive l.rules l.plan l.groups l.numbers l.givers l.chain;
}
