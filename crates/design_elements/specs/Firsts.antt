-- The places of the first chain of each partition.
use Rattle.std.specs.Prelude.{◌≡◌, ℕ, List}
use Rattle.std.specs.Borrow.{Bor}
use Rattle.std.specs.HashMap.{HashMap, get}
use Rattle.std.specs.List.{position}
use Rattle.std.specs.Str.{bytes_eq}
use Rattle.def_reader.specs.declared.design.ScanChainText.{ScanChainText}
use Rattle.design_elements.specs.Elements.{names_partition}

-- each name has the place of the first chain of that partition, and no other name has one
pub record AreFirsts {S : Type 0} (places : HashMap (Bor (List ℕ)) ℕ S) (chains : List ScanChainText) : Type 0 where
  pub is : (q : Bor (List ℕ)) → get (λ x y. bytes_eq x.now y.now) places q ≡ position (λ c. names_partition q.now c.partition) chains
