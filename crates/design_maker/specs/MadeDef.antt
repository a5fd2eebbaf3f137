-- The DEF of n units.
use Rattle.std.specs.Prelude.{ℕ, ◌+◌, ◌-◌, ◌*◌, ◌/◌, ◌%◌, List, [], ◌∷◌, ◌++◌, codes, decimal}
use Rattle.std.specs.List.{concat}
use Rattle.design_maker.specs.Pieces.{pieces}
use Rattle.design_maker.specs.Numbers.{place_x, place_y}
use Rattle.design_maker.specs.Chains.{chain_length, unit_of, last_unit, max_bits}

-- a unit at a place
abbrev pub component_at : ℕ → ℕ → ℕ → List ℕ
component_at i x y = concat (codes "- u" ∷ decimal i ∷ codes " SDF + PLACED ( " ∷ decimal x ∷ codes " " ∷ decimal y ∷ codes " ) N ;\n" ∷ [])

-- unit i at its place
abbrev pub component : ℕ → List ℕ
component i = component_at i (place_x i) (place_y i)

-- the units in rising order
unfoldable pub components_text : ℕ → List ℕ
components_text n = concat (codes "COMPONENTS " ∷ decimal n ∷ codes " ;\n" ∷ pieces component n ∷ codes "END COMPONENTS\n" ∷ [])

-- the pin of the input port of chain k, on the left edge
abbrev pub in_pin : ℕ → List ℕ
in_pin k = concat (codes "- si" ∷ decimal k ∷ codes " + NET si" ∷ decimal k ∷ codes " + PLACED ( 0 " ∷ decimal (100000 * k) ∷ codes " ) N ;\n" ∷ [])

-- the pin of the output port of chain k, on the right edge: its net is that of the last unit
abbrev pub out_pin : ℕ → ℕ → List ℕ
out_pin n k =
    concat
    (codes "- so" ∷ decimal k ∷ codes " + NET q" ∷ decimal (last_unit n k) ∷ codes " + PLACED ( 1000000 " ∷ decimal (100000 * k) ∷ codes " ) N ;\n" ∷ [])

-- clk, se and d, which have no place, and then the ports of the chains
unfoldable pub pins_text : ℕ → List ℕ
pins_text n =
    concat
    (codes "PINS 19 ;\n- clk + NET clk ;\n- se + NET se ;\n- d + NET d ;\n" ∷ pieces in_pin 8 ∷ pieces (out_pin n) 8 ∷ codes "END PINS\n" ∷ [])

-- a pin of a unit
abbrev pub unit_pin : List ℕ → ℕ → List ℕ
unit_pin pin i = concat (codes " ( u" ∷ decimal i ∷ codes " " ∷ pin ∷ codes " )" ∷ [])

-- a net that goes from its port to a pin of each unit
unfoldable pub wide_net : List ℕ → List ℕ → ℕ → List ℕ
wide_net port pin n = concat (codes "- " ∷ port ∷ codes " ( PIN " ∷ port ∷ codes " )" ∷ pieces (unit_pin pin) n ∷ codes " ;\n" ∷ [])

-- from the input port of chain k to its first unit
abbrev pub in_net : ℕ → List ℕ
in_net k = concat (codes "- si" ∷ decimal k ∷ codes " ( PIN si" ∷ decimal k ∷ codes " ) ( u" ∷ decimal k ∷ codes " SI ) ;\n" ∷ [])

-- from a unit to the next of its chain
abbrev pub inner_net : ℕ → List ℕ
inner_net i = concat (codes "- q" ∷ decimal i ∷ codes " ( u" ∷ decimal i ∷ codes " Q ) ( u" ∷ decimal (i + 8) ∷ codes " SI ) ;\n" ∷ [])

-- from the last unit of a chain to its port
abbrev pub out_net : ℕ → List ℕ
out_net i = concat (codes "- q" ∷ decimal i ∷ codes " ( u" ∷ decimal i ∷ codes " Q ) ( PIN so" ∷ decimal (i % 8) ∷ codes " ) ;\n" ∷ [])

-- the nets that go to every unit
unfoldable pub wide_nets : ℕ → List ℕ
wide_nets n = wide_net (codes "clk") (codes "CK") n ++ (wide_net (codes "se") (codes "SE") n ++ wide_net (codes "d") (codes "D") n)

-- the nets of the input ports, and then the net of each unit: the last eight units go to the output ports
unfoldable pub scan_nets : ℕ → List ℕ
scan_nets n = pieces in_net 8 ++ (pieces inner_net (n - 8) ++ pieces (λ j. out_net (n - 8 + j)) 8)

-- eleven nets of input ports, and a net for each unit
unfoldable pub nets_text : ℕ → List ℕ
nets_text n = concat (codes "NETS " ∷ decimal (11 + n) ∷ codes " ;\n" ∷ wide_nets n ∷ scan_nets n ∷ codes "END NETS\n" ∷ [])

-- element t of chain k
abbrev pub element : ℕ → ℕ → List ℕ
element k t = concat (codes " u" ∷ decimal (unit_of k t) ∷ codes " ( IN SI ) ( OUT Q )" ∷ [])

-- what stands before the elements of chain k: chains 0 to 3 are of partition P0, chains 4 to 7 of P1
unfoldable pub chain_head : ℕ → ℕ → List ℕ
chain_head n k =
    concat
    (codes "- c" ∷ decimal k ∷ codes " + PARTITION P" ∷ decimal (k / 4) ∷ codes " MAXBITS " ∷ decimal (max_bits n) ∷ codes " + START PIN si" ∷ decimal k
    ∷ codes " + FLOATING" ∷ [])

-- what stands behind the elements of chain k
unfoldable pub chain_tail : ℕ → List ℕ
chain_tail k = concat (codes " + STOP PIN so" ∷ decimal k ∷ codes " ;\n" ∷ [])

-- chain k, all of whose elements are floating
unfoldable pub chain : ℕ → ℕ → List ℕ
chain n k = chain_head n k ++ (pieces (element k) (chain_length n k) ++ chain_tail k)

-- the eight chains
unfoldable pub chains_text : ℕ → List ℕ
chains_text n = concat (codes "SCANCHAINS 8 ;\n" ∷ pieces (chain n) 8 ∷ codes "END SCANCHAINS\n" ∷ [])

-- the whole DEF, in 1000 database units to the micron
unfoldable pub def_text : ℕ → List ℕ
def_text n =
    concat
    (codes "VERSION 5.8 ;\nDIVIDERCHAR \"/\" ;\nBUSBITCHARS \"[]\" ;\nDESIGN top ;\nUNITS DISTANCE MICRONS 1000 ;\n"
    ∷ components_text n ∷ pins_text n ∷ nets_text n ∷ chains_text n ∷ codes "END DESIGN\n" ∷ [])
