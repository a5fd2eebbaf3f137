-- The statements of the made DEF, each by its words.
use Rattle.std.specs.Prelude.{ℕ, ◌+◌, List, [], ◌∷◌, ◌++◌, map, codes, decimal}
use Rattle.std.specs.List.{flat_map}
use Rattle.made_law.specs.Designs.MadeComponents.{component_words, units}
use Rattle.made_law.specs.Designs.MadePins.{pin_words, pin_rows}
use Rattle.made_law.specs.Designs.MadeNets.{net_words, net_rows}
use Rattle.made_law.specs.Designs.MadeChains.{chain_words, chain_numbers}

-- the words of statements one behind the other
abbrev pub flat : List (List (List ℕ)) → List (List ℕ)
flat ss = flat_map (λ s. s) ss

-- the statement that opens a section: its word, a count and a semicolon
abbrev pub opening : List ℕ → List ℕ → List (List ℕ)
opening word count = word ∷ count ∷ codes ";" ∷ []

-- its END
abbrev pub closing : List ℕ → List (List ℕ)
closing word = codes "END" ∷ word ∷ []

-- a section, and what stands behind it
abbrev pub section : List ℕ → List ℕ → List (List (List ℕ)) → List (List (List ℕ)) → List (List (List ℕ))
section word count inner behind = opening word count ∷ (inner ++ closing word ∷ behind)

-- the sections of n units, and END DESIGN
abbrev pub made_sections : ℕ → List (List (List ℕ))
made_sections n =
    section (codes "COMPONENTS") (decimal n) (map component_words (units n))
    (section (codes "PINS") (codes "19") (map pin_words (pin_rows n))
    (section (codes "NETS") (decimal (11 + n)) (map net_words (net_rows n))
    (section (codes "SCANCHAINS") (codes "8") (map (chain_words n) chain_numbers)
    (closing (codes "DESIGN") ∷ []))))

-- UNITS DISTANCE MICRONS 1000 ;
abbrev pub units_words : List (List ℕ)
units_words = codes "UNITS" ∷ codes "DISTANCE" ∷ codes "MICRONS" ∷ codes "1000" ∷ codes ";" ∷ []

-- all statements of n units
abbrev pub made_statements : ℕ → List (List (List ℕ))
made_statements n =
    (codes "VERSION" ∷ codes "5.8" ∷ codes ";" ∷ []) ∷ (codes "DIVIDERCHAR" ∷ codes "\"/\"" ∷ codes ";" ∷ [])
    ∷ (codes "BUSBITCHARS" ∷ codes "\"[]\"" ∷ codes ";" ∷ []) ∷ (codes "DESIGN" ∷ codes "top" ∷ codes ";" ∷ []) ∷ units_words ∷ made_sections n
