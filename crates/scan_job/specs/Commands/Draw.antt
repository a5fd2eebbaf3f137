-- The command `draw`.
use Rattle.std.specs.Prelude.{◌≡◌, ℕ, false, List, [], ◌∷◌, ◌++◌, codes, All}
use Rattle.std.specs.Fmt.{decimal}
use Rattle.desk_io.specs.declared.slot.Slot.TheVariants.{Table, Lef, Verilog, Def, OutSvg}
use Rattle.desk_io.specs.declared.outputs.Outputs.{Outputs}
use Rattle.scan_words.specs.declared.verb.Verb.TheVariants as verbs
use Rattle.design_files.specs.Files.{Texts}
use Rattle.design_files.specs.Faults.{HoldsInFiles}
use Rattle.chain_picture.specs.Xml.{IsPlainByte, count_of}
use Rattle.draw_command.specs.declared.draw.Picture.{Picture}
use Rattle.draw_command.specs.Files.{IsPicture}
use Rattle.scan_job.specs.declared.commands.draw.DrawRequest.{DrawRequest}
use Rattle.scan_job.specs.Commands.Check.{design_in}
use Rattle.scan_job.specs.Commands.{Command}

-- what `draw` says: how many links are drawn
abbrev pub drawn_text : ℕ → List ℕ
drawn_text links = codes "drawn " ++ decimal links ++ 10 ∷ []

-- the outputs are those of `draw`
pub record IsDrawn (t : Texts) (outputs : Outputs) : Type 0 where
  pub picture : Picture
  pub is_picture : IsPicture t picture
  pub svg : outputs.svg ≡ picture.svg
  pub console : outputs.console ≡ drawn_text picture.links
  -- the picture is of printable ASCII and line feeds, and holds as many lines as links are drawn
  pub plain : All IsPlainByte outputs.svg
  pub lines : count_of (codes "<line ") outputs.svg ≡ picture.links

-- it draws the scan chains of a placed design
abbrev pub draw : DrawRequest → Command
draw r = record {
  order = record { verb = verbs.Draw; values = r.table ∷ r.lef ∷ r.verilog ∷ r.def ∷ r.out_svg ∷ []; further = [] };
  sound = Unit {0};
  names = (Table, r.table) ∷ (Lef, r.lef) ∷ (Verilog, r.verilog) ∷ (Def, r.def) ∷ (OutSvg, r.out_svg) ∷ [];
  streams = false;
  holds = λ files. HoldsInFiles (design_in files);
  found_writing = λ kind. ⊥;
  texts = λ files outputs. IsDrawn (design_in files) outputs;
  text_before = λ files fault text. ⊥;
}
