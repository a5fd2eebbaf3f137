-- Which paths a STIL head asks for, by the names of their ports: those of its ScanChain blocks (IEEE 1450-1999).
use Rattle.std.specs.Prelude.{ℕ, List, map, Some}
use Rattle.stil_types.specs.declared.head.ScanChainDecl.{ScanChainDecl}
use Rattle.stil_types.specs.declared.head.StilHead.{StilHead}
use Rattle.traced_paths.specs.Asked.{Asked}

-- what a ScanChain block asks for
abbrev pub asked_by_block : ScanChainDecl → Asked
asked_by_block block = record { input = Some block.scan_in; output = Some block.scan_out; line = block.line }

-- what a head asks for: the paths of its blocks
abbrev pub asked_by_head : StilHead → List Asked
asked_by_head head = map asked_by_block head.chains
