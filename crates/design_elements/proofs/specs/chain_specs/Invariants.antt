use Rattle.std.proofs.Common.{◌≡◌, take}
use Rattle.def_reader.specs.declared.design.Design.{Design}
use Rattle.design_elements.specs.Elements.{specs_from}
use Rattle.design_elements.proofs.specs.chain_specs.Given as goal

abbrev pub invariant-loop-c : goal.invariant-loop-c
invariant-loop-c l = (d : Design) → d.components ≡ l.cells.1 → d.chains ≡ l.chains → l.specs.items ≡ specs_from l.numbers l.cells.0 d 0 (take l.c l.chains)
