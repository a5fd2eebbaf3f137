use Rattle.std.proofs.Common.{◌≤◌, ◌-◌, length}
use Rattle.chain_balance.specs.Searches.{IsSearching, HasGrown, AreNear, Closes}
use Rattle.chain_balance.proofs.search.search_all.Given as goal

abbrev pub invariant-loop-before : goal.invariant-loop-before
invariant-loop-before l = record {
  search : IsSearching l.rules l.fixed l.work l.groups l.givers l.search;
  grown : HasGrown l.fn.search l.search;
  near : AreNear l.work.paths.items l.most l.search.entries.items;
  within : l.before ≤ length l.search.entries.items;
  closes : length l.search.entries.items ≤ l.before → Closes l.rules l.work.plan l.search.numbers.items;
}

abbrev pub decreases-loop-before : goal.decreases-loop-before
decreases-loop-before l = length l.fixed - l.before
