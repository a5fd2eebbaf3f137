-- The scan chains of the made DEF: their words and their values.
use Rattle.std.specs.Prelude.{ℕ, ◌/◌, true, List, [], ◌∷◌, ◌++◌, map, codes, decimal, Some, None}
use Rattle.std.specs.List.{flat_map, range_with_len}
use Rattle.design_maker.specs.Chains.{chain_length, unit_of, max_bits}
use Rattle.def_reader.specs.declared.design.Element.{Element}
use Rattle.def_reader.specs.declared.design.ElementList.TheVariants.{Floating}
use Rattle.def_reader.specs.declared.design.EndText.TheVariants.{Port}
use Rattle.def_reader.specs.declared.design.ScanChainText.{ScanChainText}
use Rattle.made_law.specs.Designs.Names.{unit, in_port, out_port, chain_name, partition_name}
use Rattle.made_law.specs.Designs.Places.{Place, placed}

-- unit ( IN SI ) ( OUT Q )    of element t of chain k
abbrev pub element_words : ℕ → ℕ → List (List ℕ)
element_words k t = unit (unit_of k t) ∷ codes "(" ∷ codes "IN" ∷ codes "SI" ∷ codes ")" ∷ codes "(" ∷ codes "OUT" ∷ codes "Q" ∷ codes ")" ∷ []

-- the elements of chain k
abbrev pub element_numbers : ℕ → ℕ → List ℕ
element_numbers n k = range_with_len 0 (chain_length n k)

-- - chain + PARTITION partition MAXBITS bits + START PIN port + FLOATING
abbrev pub head_words : ℕ → ℕ → List (List ℕ)
head_words n k =
    codes "-" ∷ chain_name k ∷ codes "+" ∷ codes "PARTITION" ∷ partition_name (k / 4) ∷ codes "MAXBITS" ∷ decimal (max_bits n)
    ∷ codes "+" ∷ codes "START" ∷ codes "PIN" ∷ in_port k ∷ codes "+" ∷ codes "FLOATING" ∷ []

-- + STOP PIN port ;
abbrev pub tail_words : ℕ → List (List ℕ)
tail_words k = codes "+" ∷ codes "STOP" ∷ codes "PIN" ∷ out_port k ∷ codes ";" ∷ []

-- chain k, with its elements between
abbrev pub chain_words : ℕ → ℕ → List (List ℕ)
chain_words n k = head_words n k ++ (flat_map (element_words k) (element_numbers n k) ++ tail_words k)

-- the eight chains
abbrev pub chain_numbers : List ℕ
chain_numbers = range_with_len 0 8

-- element t of chain k
abbrev pub made_element : ℕ → ℕ → Element
made_element k t = record { component = unit (unit_of k t); input = Some (codes "SI"); output = Some (codes "Q"); bits = None }

-- chain k of n units: all its elements are floating
abbrev pub made_chain : ℕ → Place → ℕ → ScanChainText
made_chain n at k =
    record {
      name = chain_name k;
      partition = Some (partition_name (k / 4));
      max_bits = max_bits n;
      has_max_bits = true;
      start = Port (in_port k);
      stop = Port (out_port k);
      lists = Floating (map (made_element k) (element_numbers n k)) ∷ [];
      line = at.line;
    }

-- the scan chains of n units
abbrev pub made_chains : (ℕ → Place) → ℕ → List ScanChainText
made_chains at n = placed (made_chain n) at chain_numbers
