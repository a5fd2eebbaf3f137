-- Chains in words of their own, as they are laid out.
use Rattle.std.specs.Prelude.{List, map, option_map}
use Rattle.def_layout.specs.declared.chains.ElementLayout.{ElementLayout}
use Rattle.def_layout.specs.declared.chains.PartitionLayout.{PartitionLayout}
use Rattle.def_layout.specs.declared.chains.TerminalLayout.{TerminalLayout}
use Rattle.def_layout.specs.declared.chains.TerminalLayout.TheVariants as written
use Rattle.def_layout.specs.declared.chains.ChainLayout.{ChainLayout}
use Rattle.def_edit.specs.declared.layouts.ElementWords.{ElementWords}
use Rattle.def_edit.specs.declared.layouts.TerminalWords.{TerminalWords}
use Rattle.def_edit.specs.declared.layouts.TerminalWords.TheVariants as words
use Rattle.def_edit.specs.declared.layouts.PartitionWords.{PartitionWords}
use Rattle.def_edit.specs.declared.layouts.ChainWords.{ChainWords}

-- an element
abbrev pub laid_element : ElementWords → ElementLayout
laid_element e = record { name = e.name.now; input = e.input; output = e.output; bits = e.bits }

-- a list of them
abbrev pub laid_list : List ElementWords → List ElementLayout
laid_list es = map laid_element es

-- a start or a stop
abbrev pub laid_terminal : TerminalWords → TerminalLayout
laid_terminal (words.AtPin pin) = written.AtPin pin
laid_terminal (words.AtCell component pin) = written.AtCell component pin

-- a partition
abbrev pub laid_partition : PartitionWords → PartitionLayout
laid_partition p = record { name = p.name; max_bits = p.max_bits }

-- a chain
abbrev pub laid_chain : ChainWords → ChainLayout
laid_chain c =
    record {
      name = c.name.now;
      partition = option_map laid_partition c.partition;
      start = laid_terminal c.start;
      stop = laid_terminal c.stop;
      floating = laid_list c.floating;
      ordered = map laid_list c.ordered;
    }
