use Rattle.std.proofs.Common.{ℕ, List, Option, ap, ◌∙◌}
use Rattle.std.specs.Prelude.{unwrap_or}
use Rattle.std.specs.List.{position}
use Rattle.def_reader.specs.declared.design.ScanChainText.{ScanChainText}
use Rattle.design_elements.specs.Elements.{names_partition}
use Rattle.design_elements.proofs.partitions.Partitions.number.Goals as goal

pub returns-in-Some-get : goal.returns-in-Some-get
returns-in-Some-get c = record {
  value = rw (← c.self.view_is, c.in-Some.is)
      (ap (λ (o : Option ℕ). unwrap_or o c.args.c) (c.in-Some-get.ensures.value ∙ c.self.invariant.is c.bytes.result)
      ∙ ap (λ (n : List ℕ). unwrap_or (position (λ (x : ScanChainText). names_partition n x.partition) c.self.inside.chains.now) c.args.c) c.bytes.ensures.value);
}

pub returns-in-None : goal.returns-in-None
returns-in-None c = record {
  value = rw (← c.self.view_is, c.in-Some.is)
      (ap (λ (o : Option ℕ). unwrap_or o c.args.c) (c.in-None.ensures.value ∙ c.self.invariant.is c.bytes.result)
      ∙ ap (λ (n : List ℕ). unwrap_or (position (λ (x : ScanChainText). names_partition n x.partition) c.self.inside.chains.now) c.args.c) c.bytes.ensures.value);
}
