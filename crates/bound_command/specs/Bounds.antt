-- What `bound` says of a placed design: for each chain a length that no order of its units goes below, with the numbers that prove it.
use Rattle.std.specs.Prelude.{◌≡◌, ℕ, ℤ, pos, ◌+◌, ◌-◌, ◌*◌, ◌/◌, ◌<◌, ◌≤◌, ◌≤ℤ◌, nat_lt, if◌then◌else◌, List, [], ◌∷◌, ◌++◌, length, slice_index_or, sum_by, codes, decimal, Option, Some, None}
use Rattle.std.specs.Fmt.{signed_decimal}
use Rattle.netlist_core.specs.declared.netlist.Netlist.{Netlist}
use Rattle.cell_table.specs.Cells.{Cells}
use Rattle.lef_pins.specs.Macros.{NamedMacros}
use Rattle.def_reader.specs.declared.design.ScanChainText.{ScanChainText}
use Rattle.def_reader.specs.declared.design.Design.{Design}
use Rattle.chain_trace.specs.declared.path.Path.{Path}
use Rattle.chain_rules.specs.declared.unit.Rules.{Rules}
use Rattle.chain_rules.specs.Legality.{chain_at}
use Rattle.chain_rules.specs.Rules.{AreRulesOf}
use Rattle.wire_cost.specs.declared.ends.Ends.{Ends}
use Rattle.wire_cost.specs.Lengths.{ChainEnds, chain_ends, length_of}
use Rattle.length_bound.specs.Certificates.{AreLeast, IsCertificate, total, value_of}
use Rattle.length_bound.specs.Growth.{IsBelowOrders}
use Rattle.head_chains.specs.Asked.{asked_by}
use Rattle.traced_paths.specs.Traced.{ArePathsOf}
use Rattle.path_numbers.specs.Numbers.{path_specs}
use Rattle.design_elements.specs.Elements.{chain_specs}
use Rattle.design_places.specs.Ends.{ends_of}
use Rattle.design_files.specs.Files.{Texts, AreRead}
use Rattle.bound_command.specs.declared.chains.ChainBound.{ChainBound}

-- what is said of a chain with these units, its units as read
pub record IsChainBound (w : ChainEnds) (us : List ℕ) (b : ChainBound) : Type 0 where
  -- how long it is
  pub read : b.length ≡ length_of w us
  -- the numbers are a certificate
  pub certificate : IsCertificate w us b.potentials
  -- whose value is the bound
  pub value : pos b.bound ≡ value_of b.potentials
  -- which is at most the length of every order of the units
  pub below : IsBelowOrders w us (pos b.bound)
  -- the numbers for what is entered are the least links that lead to it
  pub least : AreLeast w us b.potentials
  -- and the bound is at least their sum
  pub above : total b.potentials.enter ≤ℤ pos b.bound
  -- the bound by trees is at most the length of every order of the units too
  pub tree : IsBelowOrders w us (pos b.tree)
  -- and no less than the bound
  pub no_less : b.bound ≤ b.tree

-- stands for what is behind the last chain
abbrev pub no_bound : ChainBound
no_bound = record { length = 0; bound = 0; potentials = record { leave = []; enter = [] }; tree = 0 }

-- what is said of the chain of a number
abbrev pub bound_at : List ChainBound → ℕ → ChainBound
bound_at bounds c = slice_index_or bounds c no_bound

-- what is said of each chain as read
abbrev pub AreBounds : Rules → Ends → List ChainBound → Type 0
AreBounds rules ends bounds = (c : ℕ) → c < length bounds → IsChainBound (chain_ends ends c) (chain_at rules.read c) (bound_at bounds c)

-- each number behind a blank
abbrev pub numbers_text : List ℤ → List ℕ
numbers_text [] = []
numbers_text (x ∷ xs) = 32 ∷ [] ++ signed_decimal x ++ numbers_text xs

-- a line of a word and numbers
abbrev pub numbers_line : List ℕ → List ℤ → List ℕ
numbers_line word xs = word ++ numbers_text xs ++ 10 ∷ []

-- the lines of a chain: chain NAME length L bound B, leave .., enter ..
abbrev pub chain_lines : List ℕ → ChainBound → List ℕ
chain_lines name b =
    codes "chain " ++ name ++ codes " length " ++ decimal b.length ++ codes " bound " ++ decimal b.bound ++ 10 ∷ [] ++ numbers_line (codes "leave") b.potentials.leave ++ numbers_line (codes "enter") b.potentials.enter

-- the lines of the chains from the one of number c on
abbrev pub lines_from : List ChainBound → ℕ → List ScanChainText → List ℕ
lines_from bounds c [] = []
lines_from bounds c (chain ∷ chains) = chain_lines chain.name (bound_at bounds c) ++ lines_from bounds (c + 1) chains

-- the line of all chains: length L bound B
abbrev pub total_line : List ChainBound → List ℕ
total_line bounds = codes "length " ++ decimal (sum_by (λ b. b.length) bounds) ++ codes " bound " ++ decimal (sum_by (λ b. b.bound) bounds) ++ 10 ∷ []

-- what a length is above a bound, in thousandths of the bound, rounded up; above a bound of 0 a thousand times the length
abbrev pub gap_of : ℕ → ℕ → ℕ
gap_of length bound = if nat_lt 0 bound then ((length - bound) * 1000 + (bound - 1)) / bound else length * 1000

-- a bound by trees and what a length is above it: tree T gap G
abbrev pub tree_line : ℕ → ℕ → List ℕ
tree_line length bound = codes "tree " ++ decimal bound ++ codes " gap " ++ decimal (gap_of length bound) ++ 10 ∷ []

-- the lines of the chains' bounds by trees, from the one of number c on: chain NAME tree T gap G
abbrev pub trees_from : List ChainBound → ℕ → List ScanChainText → List ℕ
trees_from bounds c [] = []
trees_from bounds c (chain ∷ chains) =
    codes "chain " ++ chain.name ++ 32 ∷ [] ++ tree_line (bound_at bounds c).length (bound_at bounds c).tree ++ trees_from bounds (c + 1) chains

-- what is said of trees where rounds were asked for: a line for each chain, and one of all
abbrev pub tree_part : Option ℕ → List ScanChainText → List ChainBound → List ℕ
tree_part None chains bounds = []
tree_part (Some rounds) chains bounds = trees_from bounds 0 chains ++ tree_line (sum_by (λ b. b.length) bounds) (sum_by (λ b. b.tree) bounds)

-- what is said of all chains
abbrev pub bound_text : Option ℕ → List ScanChainText → List ChainBound → List ℕ
bound_text rounds chains bounds = lines_from bounds 0 chains ++ total_line bounds ++ tree_part rounds chains bounds

-- the text is that of chains, as they were read
pub record IsChainsText (rounds : Option ℕ) (chains : List ScanChainText) (rules : Rules) (ends : Ends) (text : List ℕ) : Type 0 where
  -- one bound a chain, in their order
  pub bounds : List ChainBound
  pub count : length bounds ≡ length chains
  pub each : AreBounds rules ends bounds
  pub same : text ≡ bound_text rounds chains bounds

-- the text is that of the files
pub record IsBoundText (t : Texts) (rounds : Option ℕ) (text : List ℕ) : Type 0 where
  pub cells : Cells
  pub macros : NamedMacros
  pub netlist : Netlist
  pub design : Design
  pub read : AreRead t cells macros netlist design
  pub paths : List Path
  pub traced : ArePathsOf netlist cells (asked_by (Some design) None) paths
  pub rules : Rules
  pub rules_are : AreRulesOf (path_specs netlist cells (Some design) paths) (chain_specs netlist cells design) rules
  pub text_is : IsChainsText rounds design.chains rules (ends_of netlist cells macros design paths rules) text
