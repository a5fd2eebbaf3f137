-- The words of the made head.
use Rattle.std.proofs.Common.{ℕ, List, [], ◌∷◌, ◌++◌, codes, decimal}
use Rattle.std.specs.List.{flat_map}
use Rattle.design_maker.specs.Chains.{chain_length}
use Rattle.made_law.specs.Designs.Names.{in_port, out_port, chain_name}
use Rattle.made_law.specs.Patterns.MadeHead.{chain_numbers}
use Rattle.made_law.proofs.patterns.Chains.{block_words}

abbrev pub version_words : List (List ℕ)
version_words = codes "STIL" ∷ codes "1.0" ∷ codes ";" ∷ []

abbrev pub port_words : List ℕ → List ℕ → List ℕ → List (List ℕ)
port_words name direction scan = name ∷ direction ∷ codes "{" ∷ scan ∷ codes ";" ∷ codes "}" ∷ []

abbrev pub signal_words : List (List ℕ)
signal_words =
    codes "Signals" ∷ codes "{" ∷ codes "clk" ∷ codes "In" ∷ codes ";" ∷ codes "se" ∷ codes "In" ∷ codes ";" ∷ codes "d" ∷ codes "In" ∷ codes ";"
    ∷ (flat_map (λ k. port_words (in_port k) (codes "In") (codes "ScanIn")) chain_numbers
    ++ (flat_map (λ k. port_words (out_port k) (codes "Out") (codes "ScanOut")) chain_numbers ++ codes "}" ∷ []))

abbrev pub chain_words : ℕ → ℕ → List (List ℕ)
chain_words n k = block_words (chain_name k) (decimal (chain_length n k)) (in_port k) (out_port k)

abbrev pub structure_words : ℕ → List (List ℕ)
structure_words n = codes "ScanStructures" ∷ codes "{" ∷ (flat_map (chain_words n) chain_numbers ++ codes "}" ∷ [])

abbrev pub shifted_words : ℕ → List (List ℕ)
shifted_words k = in_port k ∷ codes "=" ∷ codes "#" ∷ codes ";" ∷ out_port k ∷ codes "=" ∷ codes "#" ∷ codes ";" ∷ []

abbrev pub procedure_words : List (List ℕ)
procedure_words =
    codes "Procedures" ∷ codes "{" ∷ codes "load_unload" ∷ codes "{" ∷ codes "W" ∷ codes "t1" ∷ codes ";" ∷ codes "C" ∷ codes "{" ∷ codes "se" ∷ codes "=" ∷ codes "1"
    ∷ codes ";" ∷ codes "}" ∷ codes "Shift" ∷ codes "{" ∷ codes "V" ∷ codes "{" ∷ codes "clk" ∷ codes "=" ∷ codes "P" ∷ codes ";"
    ∷ (flat_map shifted_words chain_numbers
    ++ codes "}" ∷ codes "}" ∷ codes "}" ∷ codes "capture" ∷ codes "{" ∷ codes "W" ∷ codes "t1" ∷ codes ";" ∷ codes "V" ∷ codes "{" ∷ codes "se" ∷ codes "=" ∷ codes "0"
    ∷ codes ";" ∷ codes "clk" ∷ codes "=" ∷ codes "P" ∷ codes ";" ∷ codes "}" ∷ codes "}" ∷ codes "}" ∷ [])

abbrev pub head_words : ℕ → List (List ℕ)
head_words n = version_words ++ (signal_words ++ (structure_words n ++ procedure_words))
