use Rattle.std.proofs.Common.{rules, ◌≡◌, false, arith}
use Rattle.def_reader.proofs.Again.{none_again}
use Rattle.design_elements.specs.Seen.{has_element}
use Rattle.design_elements.proofs.twice.SeenElements.new.Goals as goal

pub returns : goal.returns
returns c = record {
  value = record {
    was = λ q h. let none : has_element c.new.result q ≡ false = search rules in absurd cc;
    kept = λ q h. absurd (omega (arith, h.1));
    least = none_again;
  };
}
