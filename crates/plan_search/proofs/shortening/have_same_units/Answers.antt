use Rattle.std.proofs.Common.{List, ℕ, subst}
use Rattle.std.specs.List.Sorted.{IsPermutation}
use Rattle.std.proofs.lemmas.Bool.Decides.{Decides-eqb}
use Rattle.std.proofs.lemmas.List.Sorted.{IsNonDecreasingBy-from_sort}
use Rattle.std.proofs.lemmas.Slice.Eq.{slice_eq-Decides}
use Rattle.plan_search.proofs.Sorted.{sorted_alike}
use Rattle.plan_search.proofs.shortening.have_same_units.Goals as goal

pub returns : goal.returns
returns c = record {
  value = sorted_alike c.args.one.now c.args.other.now c.sort_unstable.new.self.items c.sort_unstable-2.new.self.items c.eq.result
      (subst (λ (xs : List ℕ). IsPermutation xs c.sort_unstable.new.self.items) (c.in_ok-one.ensures).items c.sort_unstable.ensures.permutation)
      (subst (λ (xs : List ℕ). IsPermutation xs c.sort_unstable-2.new.self.items) (c.in_ok-other.ensures).items c.sort_unstable-2.ensures.permutation)
      (IsNonDecreasingBy-from_sort (λ n. n) c.sort_unstable.new.self.items c.sort_unstable.ensures.sorted)
      (IsNonDecreasingBy-from_sort (λ n. n) c.sort_unstable-2.new.self.items c.sort_unstable-2.ensures.sorted)
      (slice_eq-Decides Decides-eqb c.sort_unstable.new.self.items c.sort_unstable-2.new.self.items c.eq.result c.eq.ensures);
}
