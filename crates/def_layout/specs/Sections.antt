-- The section SCANCHAINS as it is written.
use Rattle.std.specs.Prelude.{ℕ, List, [], ◌∷◌, ◌++◌, length, map, codes, decimal, Option, Some, None}
use Rattle.std.specs.List.{flat_map}
use Rattle.std.proofs.Math.ListN.{replicate}
use Rattle.def_layout.specs.Words.{joined}
use Rattle.def_layout.specs.declared.chains.ElementLayout.{ElementLayout}
use Rattle.def_layout.specs.declared.chains.TerminalLayout.{TerminalLayout}
use Rattle.def_layout.specs.declared.chains.TerminalLayout.TheVariants as terminals
use Rattle.def_layout.specs.declared.chains.PartitionLayout.{PartitionLayout}
use Rattle.def_layout.specs.declared.chains.ChainLayout.{ChainLayout}

-- a line: how many blanks stand before its words
pub record Line : Type 0 where
  pub indent : ℕ
  pub words : List (List ℕ)

-- behind a line feed: the blanks, and the words with single blanks between
abbrev pub line_text : Line → List ℕ
line_text l = 10 ∷ (replicate l.indent 32 ++ joined l.words)

-- component ( IN pin ) ( OUT pin ) ( BITS n )
abbrev pub element_line : ElementLayout → Line
element_line e =
    record {
      indent = 4;
      words = e.name ∷ codes "(" ∷ codes "IN" ∷ e.input ∷ codes ")" ∷ codes "(" ∷ codes "OUT" ∷ e.output ∷ codes ")" ∷ codes "(" ∷ codes "BITS" ∷ decimal e.bits ∷ codes ")" ∷ [];
    }

-- + FLOATING    + ORDERED    and a line for each element
unfoldable pub list_lines : List ℕ → List ElementLayout → List Line
list_lines word es = record { indent = 2; words = codes "+" ∷ word ∷ [] } ∷ map element_line es

-- nothing, where no element is floating
abbrev pub floating_lines : List ElementLayout → List Line
floating_lines [] = []
floating_lines (e ∷ es) = list_lines (codes "FLOATING") (e ∷ es)

-- MAXBITS n, or nothing
abbrev pub max_bits_words : Option ℕ → List (List ℕ)
max_bits_words None = []
max_bits_words (Some n) = codes "MAXBITS" ∷ decimal n ∷ []

-- + PARTITION p MAXBITS n, or no line
abbrev pub partition_lines : Option PartitionLayout → List Line
partition_lines None = []
partition_lines (Some p) = record { indent = 2; words = codes "+" ∷ codes "PARTITION" ∷ p.name ∷ max_bits_words p.max_bits } ∷ []

-- PIN pin    component pin
abbrev pub terminal_words : TerminalLayout → List (List ℕ)
terminal_words (terminals.AtPin pin) = codes "PIN" ∷ pin ∷ []
terminal_words (terminals.AtCell component pin) = component ∷ pin ∷ []

-- + START ..    + STOP ..
abbrev pub terminal_line : List ℕ → TerminalLayout → Line
terminal_line word t = record { indent = 2; words = codes "+" ∷ word ∷ terminal_words t }

-- the lines of a chain
unfoldable pub chain_lines : ChainLayout → List Line
chain_lines c =
    record { indent = 0; words = codes "-" ∷ c.name ∷ [] } ∷ (partition_lines c.partition
    ++ terminal_line (codes "START") c.start ∷ (floating_lines c.floating ++ (flat_map (list_lines (codes "ORDERED")) c.ordered
    ++ terminal_line (codes "STOP") c.stop ∷ record { indent = 1; words = codes ";" ∷ [] } ∷ [])))

-- SCANCHAINS n ;
abbrev pub head_words : List ChainLayout → List (List ℕ)
head_words cs = codes "SCANCHAINS" ∷ decimal (length cs) ∷ codes ";" ∷ []

-- END SCANCHAINS
abbrev pub end_line : Line
end_line = record { indent = 0; words = codes "END" ∷ codes "SCANCHAINS" ∷ [] }

-- the section: its head, the lines of each chain, and its END, behind which no line ends
abbrev pub section_text : List ChainLayout → List ℕ
section_text cs = joined (head_words cs) ++ (flat_map line_text (flat_map chain_lines cs) ++ line_text end_line)
