-- The Verilog of n units.
use Rattle.std.specs.Prelude.{ℕ, ◌+◌, ◌-◌, List, [], ◌∷◌, codes, decimal}
use Rattle.std.specs.List.{concat}
use Rattle.design_maker.specs.Pieces.{pieces, between}
use Rattle.design_maker.specs.Chains.{last_unit}

-- the header, the inputs and the outputs
unfoldable pub header_text : List ℕ
header_text =
    concat
    (codes "module top ( clk, se, d" ∷ pieces (between (codes ", si") []) 8 ∷ pieces (between (codes ", so") []) 8
    ∷ codes " );\n  input clk, se, d" ∷ pieces (between (codes ", si") []) 8
    ∷ codes ";\n  output " ∷ pieces (between (codes "so") (codes ", ")) 7 ∷ codes "so7;\n" ∷ [])

-- the wires: the net of each unit
unfoldable pub wires_text : ℕ → List ℕ
wires_text n = concat (codes "  wire " ∷ pieces (between (codes "q") (codes ", ")) (n - 1) ∷ codes "q" ∷ decimal (n - 1) ∷ codes ";\n" ∷ [])

-- the first unit of a chain takes from its port
abbrev pub first_unit : ℕ → List ℕ
first_unit i = concat (codes "  SDF u" ∷ decimal i ∷ codes " ( .D(d), .CK(clk), .SE(se), .SI(si" ∷ decimal i ∷ codes "), .Q(q" ∷ decimal i ∷ codes ") );\n" ∷ [])

-- unit i + 8 takes from unit i
abbrev pub later_unit : ℕ → List ℕ
later_unit i =
    concat (codes "  SDF u" ∷ decimal (i + 8) ∷ codes " ( .D(d), .CK(clk), .SE(se), .SI(q" ∷ decimal i ∷ codes "), .Q(q" ∷ decimal (i + 8) ∷ codes ") );\n" ∷ [])

-- the port of chain k shows its last unit
abbrev pub assign : ℕ → ℕ → List ℕ
assign n k = concat (codes "  assign so" ∷ decimal k ∷ codes " = q" ∷ decimal (last_unit n k) ∷ codes ";\n" ∷ [])

-- the whole Verilog: the first units of the chains, the later ones, and the assigns of the output ports
unfoldable pub verilog_text : ℕ → List ℕ
verilog_text n =
    concat (header_text ∷ wires_text n ∷ pieces first_unit 8 ∷ pieces later_unit (n - 8) ∷ pieces (assign n) 8 ∷ codes "endmodule\n" ∷ [])
