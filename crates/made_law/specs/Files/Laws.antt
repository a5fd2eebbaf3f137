-- Nothing is wrong with the files of a made design.
use Rattle.std.specs.Prelude.{◌≡◌, ℕ, ◌≤◌, List}
use Rattle.base_types.specs.declared.fault.Fault.{Fault}
use Rattle.stil_types.specs.declared.head.StilHead.{StilHead}
use Rattle.stil_head.specs.Heads.{DenotesHead}
use Rattle.design_maker.specs.MadeCells.{table_text, lef_text}
use Rattle.design_maker.specs.MadeDef.{def_text}
use Rattle.design_maker.specs.MadeVerilog.{verilog_text}
use Rattle.design_files.specs.Files.{Texts, texts_of, with_head}
use Rattle.design_files.specs.Faults.{HoldsInFiles}
use Rattle.made_law.specs.Checks.MadeBlocks.{BlockPlace, made_blocks}

-- the four files of n units, without patterns
abbrev pub made_texts : ℕ → Texts
made_texts n = texts_of table_text lef_text (verilog_text n) (def_text n)

-- none of the faults of files holds
abbrev pub FilesLaw : Type 0
FilesLaw = (n : ℕ) → 8 ≤ n → n ≤ 16384 → (fault : Fault) → HoldsInFiles (made_texts n) fault → ⊥

-- and none beside patterns whose head has the blocks of n units
abbrev pub HeadFilesLaw : Type 0
HeadFilesLaw = (n : ℕ) (text : List ℕ) (head : StilHead) (at : ℕ → BlockPlace) → 8 ≤ n → n ≤ 16384 → DenotesHead text head → head.chains ≡ made_blocks at n → (fault : Fault) → HoldsInFiles (with_head (made_texts n) text) fault → ⊥
