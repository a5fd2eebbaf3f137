-- The design of the made DEF.
use Rattle.std.specs.Prelude.{ℕ, pos, Some}
use Rattle.def_reader.specs.declared.design.Design.{Design}
use Rattle.made_law.specs.Designs.Places.{Places}
use Rattle.made_law.specs.Designs.MadeComponents.{made_components}
use Rattle.made_law.specs.Designs.MadePins.{made_pins}
use Rattle.made_law.specs.Designs.MadeNets.{made_nets}
use Rattle.made_law.specs.Designs.MadeChains.{made_chains}

-- the design of n units, whose statements stand at these places
abbrev pub made_design : Places → ℕ → Design
made_design at n =
    record {
      units = pos 1000;
      components = made_components at.components n;
      pins = made_pins at.pins n;
      nets = made_nets at.nets n;
      chains = made_chains at.chains n;
      chains_span = Some at.section;
    }
