-- Which paths are asked for, by the names of their ports: those of the ScanChain blocks of a STIL head (IEEE 1450-1999), or else those of
-- the ports at START PIN and STOP PIN of a design's chains (LEF/DEF 5.8, SCANCHAINS).
use Rattle.std.specs.Prelude.{ℕ, List, [], map, Option, Some, None}
use Rattle.base_types.specs.declared.fault.FileKind.{FileKind}
use Rattle.base_types.specs.declared.fault.FileKind.TheVariants.{Def, Stil}
use Rattle.def_reader.specs.declared.design.EndText.{EndText}
use Rattle.def_reader.specs.declared.design.EndText.TheVariants.{Port, Cell}
use Rattle.def_reader.specs.declared.design.ScanChainText.{ScanChainText}
use Rattle.def_reader.specs.declared.design.Design.{Design}
use Rattle.stil_types.specs.declared.head.StilHead.{StilHead}
use Rattle.traced_paths.specs.Asked.{Asked}
use Rattle.head_checks.specs.Asked.{asked_by_block}

-- the port at START PIN or STOP PIN
abbrev pub port_at : EndText → Option (List ℕ)
port_at (Port name) = Some name
port_at (Cell component pin) = None

-- what a chain of a design asks for
abbrev pub asked_by_chain : ScanChainText → Asked
asked_by_chain chain = record { input = port_at chain.start; output = port_at chain.stop; line = chain.line }

-- what is asked for: by the head where there is one, else by the design
abbrev pub asked_by : Option Design → Option StilHead → List Asked
asked_by None None = []
asked_by (Some d) None = map asked_by_chain d.chains
asked_by None (Some head) = map asked_by_block head.chains
asked_by (Some d) (Some head) = map asked_by_block head.chains

-- the file that asks
abbrev pub file_of : Option StilHead → FileKind
file_of None = Def
file_of (Some head) = Stil
