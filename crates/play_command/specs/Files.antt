-- What `play` says of its files.
use Rattle.std.specs.Prelude.{◌≡◌, ℕ, List}
use Rattle.netlist_core.specs.declared.netlist.Netlist.{Netlist}
use Rattle.cell_table.specs.Cells.{Cells}
use Rattle.chain_trace.specs.declared.path.Path.{Path}
use Rattle.stil_types.specs.declared.head.StilHead.{StilHead}
use Rattle.stil_reader.specs.Sayings.{told_whole}
use Rattle.declared_chains.specs.Files.{IsHeadText, AreTraced, chains_along}
use Rattle.play_command.specs.declared.device.DeviceKind.{DeviceKind}
use Rattle.play_command.specs.Plays.{play_text}

-- what `play` says of these files
pub record IsPlayText (table verilog stil : List ℕ) (device : DeviceKind) (said : List ℕ) : Type 0 where
  pub text : List ℕ
  pub head_is : IsHeadText stil text
  pub cells : Cells
  pub netlist : Netlist
  pub head : StilHead
  pub paths : List Path
  pub traced : AreTraced table verilog text cells netlist head paths
  pub same : said ≡ play_text device (chains_along netlist cells paths) (told_whole head stil).says
