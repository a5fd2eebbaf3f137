-- The nets of the made DEF: their words and their values.
use Rattle.std.specs.Prelude.{ℕ, ◌+◌, ◌-◌, ◌%◌, List, [], ◌∷◌, ◌++◌, map, codes}
use Rattle.std.specs.List.{flat_map, range_with_len}
use Rattle.def_reader.specs.declared.design.NetPin.{NetPin}
use Rattle.def_reader.specs.declared.design.NetPin.TheVariants.{Cell, Port}
use Rattle.def_reader.specs.declared.design.Net.{Net}
use Rattle.made_law.specs.Designs.Names.{unit, unit_net, in_port, out_port}
use Rattle.made_law.specs.Designs.Places.{Place, placed}

-- a net's name and what it connects
pub record NetRow : Type 0 where
  pub name : List ℕ
  pub pins : List NetPin

-- from a port to a pin of each unit
abbrev pub wide_net : List ℕ → List ℕ → ℕ → NetRow
wide_net port pin n = record { name = port; pins = Port port ∷ map (λ i. Cell (unit i) pin) (range_with_len 0 n) }

-- from the input port of chain k to its first unit
abbrev pub in_net : ℕ → NetRow
in_net k = record { name = in_port k; pins = Port (in_port k) ∷ Cell (unit k) (codes "SI") ∷ [] }

-- from a unit to the next of its chain
abbrev pub inner_net : ℕ → NetRow
inner_net i = record { name = unit_net i; pins = Cell (unit i) (codes "Q") ∷ Cell (unit (i + 8)) (codes "SI") ∷ [] }

-- from the last unit of a chain to its port
abbrev pub out_net : ℕ → NetRow
out_net i = record { name = unit_net i; pins = Cell (unit i) (codes "Q") ∷ Port (out_port (i % 8)) ∷ [] }

-- clk, se and d; the nets of the input ports; and the net of each unit, of which the last eight go to the output ports
abbrev pub net_rows : ℕ → List NetRow
net_rows n =
    wide_net (codes "clk") (codes "CK") n ∷ wide_net (codes "se") (codes "SE") n ∷ wide_net (codes "d") (codes "D") n
    ∷ (map in_net (range_with_len 0 8) ++ (map inner_net (range_with_len 0 (n - 8)) ++ map (λ j. out_net (n - 8 + j)) (range_with_len 0 8)))

-- ( unit pin )    ( PIN port )
abbrev pub connection_words : NetPin → List (List ℕ)
connection_words (Cell component pin) = codes "(" ∷ component ∷ pin ∷ codes ")" ∷ []
connection_words (Port port) = codes "(" ∷ codes "PIN" ∷ port ∷ codes ")" ∷ []

-- - name connection .. ;
abbrev pub net_words : NetRow → List (List ℕ)
net_words r = codes "-" ∷ r.name ∷ (flat_map connection_words r.pins ++ codes ";" ∷ [])

-- a net
abbrev pub made_net : Place → NetRow → Net
made_net at r = record { name = r.name; pins = r.pins; span = at.span; line = at.line }

-- the nets of n units
abbrev pub made_nets : (ℕ → Place) → ℕ → List Net
made_nets at n = placed made_net at (net_rows n)
