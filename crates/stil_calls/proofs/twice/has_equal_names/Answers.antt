use Rattle.std.proofs.Common.{sym, ap, ◌∙◌, List, ℕ, Bor, map}
use Rattle.stil_calls.specs.Twice.{has_equal, rises}
use Rattle.stil_calls.proofs.Sorted.{equal_found, none_found}
use Rattle.stil_calls.proofs.twice.has_equal_names.Goals as goal

pub returns-then-has_equal : goal.returns-then-has_equal
returns-then-has_equal c = record {
  value = equal_found c.args.items.now c.in_ok-names.names.items c.sort.new.self.items c.in_ok-names.ensures.value c.sort.ensures.permutation
      (ap (λ (l : List (Bor (List ℕ))). has_equal (map (λ t. t.now) l)) (sym c.deref.ensures.value) ∙ sym c.has_equal.ensures.value ∙ c.if-has_equal.true);
}

pub returns-then-rises : goal.returns-then-rises
returns-then-rises c = record {
  value = none_found c.args.items.now c.in_ok-names.names.items c.sort.new.self.items c.in_ok-names.ensures.value c.sort.ensures.permutation
      (ap (λ (l : List (Bor (List ℕ))). rises (map (λ t. t.now) l)) (sym c.deref-2.ensures.value) ∙ sym c.rises.ensures.value ∙ c.if-rises.true);
}
