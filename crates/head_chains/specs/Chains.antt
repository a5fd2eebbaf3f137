-- Which chains of a design a STIL head doesn't declare.
use Rattle.std.specs.Prelude.{ℕ, Bool, false, ◌||◌, not, List}
use Rattle.std.specs.List.{list_any}
use Rattle.std.specs.Str.{bytes_eq}
use Rattle.base_types.specs.Faults.{at_line}
use Rattle.base_types.specs.declared.fault.Fault.{Fault}
use Rattle.base_types.specs.declared.fault.FileKind.TheVariants.{Def}
use Rattle.base_types.specs.declared.kind.Kind.TheVariants.{ChainUndeclared}
use Rattle.def_reader.specs.declared.design.EndText.{EndText}
use Rattle.def_reader.specs.declared.design.EndText.TheVariants.{Port, Cell}
use Rattle.def_reader.specs.declared.design.ScanChainText.{ScanChainText}
use Rattle.def_reader.specs.declared.design.Design.{Design}
use Rattle.stil_types.specs.declared.head.ScanChainDecl.{ScanChainDecl}
use Rattle.stil_types.specs.declared.head.StilHead.{StilHead}
use Rattle.head_checks.specs.Heads.{FailsOn}

-- the port at START PIN is no declared ScanIn
abbrev pub starts_undeclared : List ScanChainDecl → EndText → Bool
starts_undeclared chains (Port name) = not (list_any (λ c. bytes_eq c.scan_in name) chains)
starts_undeclared chains (Cell component pin) = false

-- the port at STOP PIN is no declared ScanOut
abbrev pub stops_undeclared : List ScanChainDecl → EndText → Bool
stops_undeclared chains (Port name) = not (list_any (λ c. bytes_eq c.scan_out name) chains)
stops_undeclared chains (Cell component pin) = false

-- a chain of the design begins or ends at a port that the head doesn't declare
abbrev pub is_undeclared : List ScanChainDecl → ScanChainText → Bool
is_undeclared chains c = starts_undeclared chains c.start || stops_undeclared chains c.stop

-- what may be wrong with the chains of a design beside a head
pub data HoldsInChains (d : Design) (head : StilHead) : Fault → Type 0 where
  Undeclared : (line : ℕ) → FailsOn (is_undeclared head.chains) (λ c. c.line) d.chains line → HoldsInChains d head (at_line ChainUndeclared Def line)
