-- What `check` says of a placed design, its chains and its netlist.
use Rattle.std.specs.Prelude.{◌≡◌, ℕ, ◌+◌, List, [], ◌∷◌, ◌++◌, length, codes, decimal, Some, None}
use Rattle.netlist_core.specs.declared.netlist.Netlist.{Netlist}
use Rattle.cell_table.specs.Cells.{Cells}
use Rattle.lef_pins.specs.Macros.{NamedMacros}
use Rattle.def_reader.specs.declared.design.ScanChainText.{ScanChainText}
use Rattle.def_reader.specs.declared.design.Design.{Design}
use Rattle.chain_trace.specs.declared.path.Path.{Path}
use Rattle.chain_rules.specs.declared.unit.Rules.{Rules}
use Rattle.chain_rules.specs.Legality.{chain_at, bits_of}
use Rattle.chain_rules.specs.Rules.{AreRulesOf}
use Rattle.wire_cost.specs.declared.ends.Ends.{Ends}
use Rattle.wire_cost.specs.Lengths.{chain_length_of, plan_length_of}
use Rattle.head_chains.specs.Asked.{asked_by}
use Rattle.traced_paths.specs.Traced.{ArePathsOf}
use Rattle.path_numbers.specs.Numbers.{path_specs}
use Rattle.design_elements.specs.Elements.{chain_specs}
use Rattle.design_places.specs.Ends.{ends_of}
use Rattle.design_files.specs.Files.{Texts, AreRead}

-- one line: chain NAME units U bits B length L
abbrev pub chain_text : List ℕ → ℕ → ℕ → ℕ → List ℕ
chain_text name units bits length =
    codes "chain " ++ name ++ codes " units " ++ decimal units ++ codes " bits " ++ decimal bits ++ codes " length " ++ decimal length ++ 10 ∷ []

-- the line of the chain of a number: its units, their bits and its length, as read
abbrev pub chain_line : Rules → Ends → ℕ → ScanChainText → List ℕ
chain_line rules ends c chain =
    chain_text chain.name (length (chain_at rules.read c)) (bits_of rules (chain_at rules.read c)) (chain_length_of ends c (chain_at rules.read c))

-- the lines of the chains from the one of number c on
abbrev pub lines_from : Rules → Ends → ℕ → List ScanChainText → List ℕ
lines_from rules ends c [] = []
lines_from rules ends c (chain ∷ chains) = chain_line rules ends c chain ++ lines_from rules ends (c + 1) chains

-- a line for each chain, and the length of all
abbrev pub check_text : Design → Rules → Ends → List ℕ
check_text d rules ends = lines_from rules ends 0 d.chains ++ codes "length " ++ decimal (plan_length_of ends rules.read) ++ 10 ∷ []

-- the text is that of the files
pub record IsCheckText (t : Texts) (text : List ℕ) : Type 0 where
  pub cells : Cells
  pub macros : NamedMacros
  pub netlist : Netlist
  pub design : Design
  pub read : AreRead t cells macros netlist design
  pub paths : List Path
  pub traced : ArePathsOf netlist cells (asked_by (Some design) None) paths
  pub rules : Rules
  pub rules_are : AreRulesOf (path_specs netlist cells (Some design) paths) (chain_specs netlist cells design) rules
  pub same : text ≡ check_text design rules (ends_of netlist cells macros design paths rules)
