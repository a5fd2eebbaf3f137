-- The macros of the made LEF.
use Rattle.std.specs.Prelude.{ℕ, pos, List, [], ◌∷◌, codes, Some}
use Rattle.lef_pins.specs.declared.macros.MacroPin.{MacroPin}
use Rattle.lef_pins.specs.Macros.{NamedMacros}

-- a pin in the middle of the cell, in millionths of a micron
abbrev pub middle_pin : List ℕ → MacroPin
middle_pin name = record { name = name; rect = Some (pos 900000 ∷ pos 900000 ∷ pos 1100000 ∷ pos 1100000 ∷ []) }

-- one macro of two by two microns, with three such pins
abbrev pub made_macros : NamedMacros
made_macros =
    (codes "SDF", record { w = pos 2000000; h = pos 2000000; ox = pos 0; oy = pos 0; pins = middle_pin (codes "SI") ∷ middle_pin (codes "Q") ∷ middle_pin (codes "QN") ∷ [] }) ∷ []
