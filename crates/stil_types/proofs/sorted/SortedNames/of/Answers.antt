use Rattle.std.proofs.Common.{rules, of_calls, sym}
use Rattle.std.proofs.lemmas.Fn.{always_returns_same}
use Rattle.std.proofs.lemmas.List.Sorted.{list_any-IsPermutation}
use Rattle.std.specs.Str.{bytes_eq}
use Rattle.stil_types.proofs.Searches.{comes_before, is_order}
use Rattle.stil_types.proofs.sorted.SortedNames.of.Goals as goal

pub invariant_of-result : goal.invariant_of-result
invariant_of-result c = c.sort_unstable_by.ensures.sorted comes_before is_order (always_returns_same _ _ _ (λ a r f k. search (rules, of_calls)))

pub returns : goal.returns
returns c = record { same = λ q. sym (list_any-IsPermutation (bytes_eq q) _ _ c.sort_unstable_by.ensures.permutation) }
