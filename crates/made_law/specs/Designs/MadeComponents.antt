-- The components of the made DEF: their words and their values.
use Rattle.std.specs.Prelude.{ℕ, pos, List, [], ◌∷◌, codes, decimal, Some}
use Rattle.std.specs.List.{range_with_len}
use Rattle.design_maker.specs.Numbers.{place_x, place_y}
use Rattle.def_tokens.specs.declared.orient.Orient.TheVariants as orient
use Rattle.def_reader.specs.declared.design.Component.{Component}
use Rattle.made_law.specs.Designs.Names.{unit}
use Rattle.made_law.specs.Designs.Places.{Place, placed}

-- - unit SDF + PLACED ( x y ) N ;
abbrev pub component_words : ℕ → List (List ℕ)
component_words i =
    codes "-" ∷ unit i ∷ codes "SDF" ∷ codes "+" ∷ codes "PLACED" ∷ codes "(" ∷ decimal (place_x i) ∷ decimal (place_y i) ∷ codes ")" ∷ codes "N" ∷ codes ";" ∷ []

-- the units, in rising order
abbrev pub units : ℕ → List ℕ
units n = range_with_len 0 n

-- unit i, in database units
abbrev pub made_component : Place → ℕ → Component
made_component at i =
    record { name = unit i; text = unit i; cell = codes "SDF"; place = Some (record { x = pos (place_x i); y = pos (place_y i) }, orient.N); line = at.line }

-- the components of n units
abbrev pub made_components : (ℕ → Place) → ℕ → List Component
made_components at n = placed made_component at (units n)
