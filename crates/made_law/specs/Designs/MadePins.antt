-- The design pins of the made DEF: their words and their values.
use Rattle.std.specs.Prelude.{ℕ, pos, ◌*◌, List, [], ◌∷◌, ◌++◌, map, codes, decimal, Option, Some, None}
use Rattle.std.specs.List.{range_with_len}
use Rattle.base_types.specs.declared.span.Point.{Point}
use Rattle.design_maker.specs.Chains.{last_unit}
use Rattle.def_reader.specs.declared.design.DesignPin.{DesignPin}
use Rattle.made_law.specs.Designs.Names.{unit_net, in_port, out_port}
use Rattle.made_law.specs.Designs.Places.{Place, placed}

-- a port with its net, and the two coordinates of its place where it has one
pub record PinRow : Type 0 where
  pub name : List ℕ
  pub net : List ℕ
  pub place : Option (ℕ × ℕ)

-- a port whose net has its name, and that has no place
abbrev pub wide_pin : List ℕ → PinRow
wide_pin name = record { name = name; net = name; place = None }

-- the input port of chain k, on the left edge
abbrev pub in_pin : ℕ → PinRow
in_pin k = record { name = in_port k; net = in_port k; place = Some (0, 100000 * k) }

-- the output port of chain k, on the right edge: its net is that of the last unit
abbrev pub out_pin : ℕ → ℕ → PinRow
out_pin n k = record { name = out_port k; net = unit_net (last_unit n k); place = Some (1000000, 100000 * k) }

-- the ports: clk, se and d, and then those of the chains
abbrev pub pin_rows : ℕ → List PinRow
pin_rows n = wide_pin (codes "clk") ∷ wide_pin (codes "se") ∷ wide_pin (codes "d") ∷ (map in_pin (range_with_len 0 8) ++ map (out_pin n) (range_with_len 0 8))

-- + PLACED ( x y ) N ;    or the semicolon alone
abbrev pub place_words : Option (ℕ × ℕ) → List (List ℕ)
place_words None = codes ";" ∷ []
place_words (Some p) = codes "+" ∷ codes "PLACED" ∷ codes "(" ∷ decimal p.0 ∷ decimal p.1 ∷ codes ")" ∷ codes "N" ∷ codes ";" ∷ []

-- - name + NET net ..
abbrev pub pin_words : PinRow → List (List ℕ)
pin_words r = codes "-" ∷ r.name ∷ codes "+" ∷ codes "NET" ∷ r.net ∷ place_words r.place

-- the point of two coordinates
abbrev pub point_of : Option (ℕ × ℕ) → Option Point
point_of None = None
point_of (Some p) = Some (record { x = pos p.0; y = pos p.1 })

-- a port, in database units
abbrev pub made_pin : Place → PinRow → DesignPin
made_pin at r = record { name = r.name; net = r.net; net_span = at.span; place = point_of r.place; line = at.line }

-- the design pins of n units
abbrev pub made_pins : (ℕ → Place) → ℕ → List DesignPin
made_pins at n = placed made_pin at (pin_rows n)
