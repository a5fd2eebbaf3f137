-- The statements of the made Verilog, each by its words.
use Rattle.std.specs.Prelude.{ℕ, ◌+◌, ◌-◌, List, [], ◌∷◌, ◌++◌, map, codes}
use Rattle.std.specs.List.{flat_map, range_with_len}
use Rattle.design_maker.specs.Chains.{last_unit}
use Rattle.made_law.specs.Designs.Names.{unit, unit_net, in_port, out_port}
use Rattle.made_law.specs.Designs.MadeComponents.{units}

-- the input ports, in order
abbrev pub input_names : List (List ℕ)
input_names = codes "clk" ∷ codes "se" ∷ codes "d" ∷ map in_port (range_with_len 0 8)

-- the output ports
abbrev pub output_names : List (List ℕ)
output_names = map out_port (range_with_len 0 8)

-- the nets that the units drive
abbrev pub wire_names : ℕ → List (List ℕ)
wire_names n = map unit_net (units n)

-- names with a comma between each two
abbrev pub comma_words : List (List ℕ) → List (List ℕ)
comma_words [] = []
comma_words (name ∷ names) = name ∷ flat_map (λ other. codes "," ∷ other ∷ []) names

-- module top ( name , .. ) ;
abbrev pub header_words : List (List ℕ)
header_words = codes "module" ∷ codes "top" ∷ codes "(" ∷ (comma_words (input_names ++ output_names) ++ codes ")" ∷ codes ";" ∷ [])

-- kind name , .. ;
abbrev pub declare_words : List ℕ → List (List ℕ) → List (List ℕ)
declare_words kind names = kind ∷ (comma_words names ++ codes ";" ∷ [])

-- . pin ( net )
abbrev pub pin_words : List ℕ → List ℕ → List (List ℕ) → List (List ℕ)
pin_words pin net rest = codes "." ∷ pin ∷ codes "(" ∷ net ∷ codes ")" ∷ rest

-- SDF unit ( .D(d), .CK(clk), .SE(se), .SI(from), .Q(to) ) ;
abbrev pub instance_words : List ℕ → List ℕ → List ℕ → List (List ℕ)
instance_words name from to =
    codes "SDF" ∷ name ∷ codes "("
    ∷ pin_words (codes "D") (codes "d") (codes "," ∷ pin_words (codes "CK") (codes "clk") (codes "," ∷ pin_words (codes "SE") (codes "se")
    (codes "," ∷ pin_words (codes "SI") from (codes "," ∷ pin_words (codes "Q") to (codes ")" ∷ codes ";" ∷ [])))))

-- the first unit of chain i takes from its port
abbrev pub first_words : ℕ → List (List ℕ)
first_words i = instance_words (unit i) (in_port i) (unit_net i)

-- unit i + 8 takes from unit i
abbrev pub later_words : ℕ → List (List ℕ)
later_words i = instance_words (unit (i + 8)) (unit_net i) (unit_net (i + 8))

-- assign port = net ;    of chain k
abbrev pub assign_words : ℕ → ℕ → List (List ℕ)
assign_words n k = codes "assign" ∷ out_port k ∷ codes "=" ∷ unit_net (last_unit n k) ∷ codes ";" ∷ []

-- all statements of n units
abbrev pub made_words : ℕ → List (List (List ℕ))
made_words n =
    header_words ∷ declare_words (codes "input") input_names ∷ declare_words (codes "output") output_names ∷ declare_words (codes "wire") (wire_names n)
    ∷ (map first_words (range_with_len 0 8) ++ (map later_words (range_with_len 0 (n - 8)) ++ map (assign_words n) (range_with_len 0 8)))
