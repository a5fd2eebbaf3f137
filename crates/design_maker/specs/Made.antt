-- The files of a test design of n units.
use Rattle.std.specs.Prelude.{ℕ, ◌≤◌, length}
use Rattle.design_maker.specs.declared.files.Files.{Files}
use Rattle.design_maker.specs.MadeCells.{table_text, lef_text}
use Rattle.design_maker.specs.MadeVerilog.{verilog_text}
use Rattle.design_maker.specs.MadeDef.{def_text}
use Rattle.design_maker.specs.MadeStil.{stil_text}

-- the five files, byte for byte
abbrev pub made_files : ℕ → Files
made_files n = record { table = table_text; lef = lef_text; verilog = verilog_text n; def = def_text n; stil = stil_text n }

-- each text is within the limit of what is read
pub record HasSmallTexts (files : Files) : Type 0 where
  -- a cell table of at most 1 MiB
  pub table : length files.table ≤ 1048576
  -- and every other text of at most 64 MiB
  pub lef : length files.lef ≤ 67108864
  pub verilog : length files.verilog ≤ 67108864
  pub def : length files.def ≤ 67108864
  pub stil : length files.stil ≤ 67108864
