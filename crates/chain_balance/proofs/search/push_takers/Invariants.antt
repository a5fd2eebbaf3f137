use Rattle.chain_balance.specs.Searches.{IsSearching, HasGrown, AreNear, NoneTakes}
use Rattle.chain_balance.proofs.search.push_takers.Given as goal

abbrev pub invariant-loop-taker : goal.invariant-loop-taker
invariant-loop-taker l = record {
  search : IsSearching l.rules l.fixed l.work l.groups l.givers l.search;
  grown : HasGrown l.fn.search l.search;
  near : AreNear l.work.paths.items l.most l.search.entries.items;
  none : NoneTakes l.rules l.work.plan l.groups l.search.numbers.items l.givers l.taker;
}
