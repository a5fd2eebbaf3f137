use Rattle.std.proofs.Common.{arith}
use Rattle.design_elements.proofs.Once.{named_once}
use Rattle.design_elements.proofs.SpecElements.{have_elements, same_count, same_length, few_elements, fewer_chains}
use Rattle.design_elements.proofs.laws.elements_law.Goals as goal

pub returns : goal.returns
returns c = record {
  elements = have_elements;
  once = named_once;
  few = λ n cells macros d none. let same = same_count n cells d 0 d.chains in let few = few_elements cells macros d none in omega arith;
  few_chains = λ n cells macros d sound none.
      let same = same_length n cells d 0 d.chains in let few = few_elements cells macros d none in let fewer = fewer_chains d.chains sound.chains in omega arith;
}
