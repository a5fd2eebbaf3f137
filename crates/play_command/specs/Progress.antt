-- How far a play has come, and what a saying of the text makes of it.
use Rattle.std.specs.Prelude.{◌≡◌, ℕ, ◌+◌, suc, List, [], ◌∷◌, ◌++◌, length, replicate}
use Rattle.stil_types.specs.declared.head.StilHead.{StilHead}
use Rattle.stil_reader.specs.Sayings.{Saying, Head, GapByte, Named, Stated}
use Rattle.stil_tester.specs.declared.symbol.Symbol.{Symbol}
use Rattle.stil_tester.specs.declared.symbol.Symbol.TheVariants.{Zero}
use Rattle.stil_tester.specs.declared.chains.Chains.{Chains}
use Rattle.stil_tester.specs.Runs.{play_of, verdicts_of}
use Rattle.chain_trace.specs.declared.path.Path.{Path}
use Rattle.netlist_core.specs.declared.netlist.Netlist.{Netlist}
use Rattle.cell_table.specs.Cells.{Cells}
use Rattle.play_command.specs.declared.device.DeviceKind.{DeviceKind}
use Rattle.play_command.specs.Plays.{behaviour, pattern_line, scan_lines, cells_line, play_text}
use Rattle.declared_chains.specs.Files.{AreTraced, chains_along}

-- the head beside which patterns are read; the chains and the device; the cells; how many scan calls were run in the Pattern that is
-- open; and the lines that were said
pub record Progress : Type 0 where
  pub head : StilHead
  pub chains : Chains
  pub device : DeviceKind
  pub cells : List Symbol
  pub scans : ℕ
  pub lines : List ℕ

-- nothing was said: all cells are 0
abbrev pub at_first : StilHead → Chains → DeviceKind → Progress
at_first head chains device = record { head = head; chains = chains; device = device; cells = replicate chains.cells Zero; scans = 0; lines = [] }

-- the first progress of files that denote this much
pub record IsSetUp (table verilog text : List ℕ) (device : DeviceKind) (p : Progress) : Type 0 where
  pub cells : Cells
  pub netlist : Netlist
  pub paths : List Path
  pub traced : AreTraced table verilog text cells netlist p.head paths
  pub first : p ≡ at_first p.head (chains_along netlist cells paths) device

-- a Pattern of this name opens
abbrev pub opened : List ℕ → Progress → Progress
opened name p = record p { scans = 0; lines = p.lines ++ pattern_line name }

-- after a saying
abbrev pub after_saying : Saying → Progress → Progress
after_saying (Head text) p = p
after_saying (GapByte byte) p = p
after_saying (Named name) p = opened name p
after_saying (Stated statement) p =
    let play = play_of behaviour p.chains (statement ∷ []) p.device p.cells in
    let verdicts = verdicts_of play.results.scans in
    record p { cells = play.results.cells; scans = p.scans + length verdicts; lines = p.lines ++ scan_lines (suc p.scans) verdicts }

-- after some sayings in order
abbrev pub after_sayings : List Saying → Progress → Progress
after_sayings [] p = p
after_sayings (saying ∷ says) p = after_sayings says (after_saying saying p)

-- what is said at the end
abbrev pub finished : Progress → List ℕ
finished p = p.lines ++ cells_line p.cells

-- said one after the other, it is the text of `play`
abbrev pub ProgressLaw : Type 0
ProgressLaw = (head : StilHead) (chains : Chains) (device : DeviceKind) (says : List Saying)
    → finished (after_sayings says (at_first head chains device)) ≡ play_text device chains says
