-- The picture of the files of a placed design.
use Rattle.std.specs.Prelude.{◌≡◌, List, unsigned_abs, Some, None}
use Rattle.netlist_core.specs.declared.netlist.Netlist.{Netlist}
use Rattle.cell_table.specs.Cells.{Cells}
use Rattle.chain_trace.specs.declared.path.Path.{Path}
use Rattle.chain_rules.specs.Rules.{AreRulesOf}
use Rattle.head_chains.specs.Asked.{asked_by}
use Rattle.traced_paths.specs.Traced.{ArePathsOf}
use Rattle.path_numbers.specs.Numbers.{path_specs}
use Rattle.design_elements.specs.Elements.{chain_specs}
use Rattle.lef_pins.specs.Macros.{NamedMacros}
use Rattle.def_reader.specs.declared.design.Design.{Design}
use Rattle.chain_rules.specs.declared.unit.Rules.{Rules}
use Rattle.wire_cost.specs.declared.ends.Ends.{Ends}
use Rattle.design_places.specs.Ends.{ends_of}
use Rattle.design_files.specs.Files.{Texts, AreRead}
use Rattle.chain_picture.specs.Pictures.{link_count, svg_of}
use Rattle.draw_command.specs.declared.draw.Picture.{Picture}
use Rattle.draw_command.specs.Drawn.{drawn_from}

-- the picture is that of a design's chains
pub record IsPictureOf (macros : NamedMacros) (d : Design) (rules : Rules) (ends : Ends) (picture : Picture) : Type 0 where
  pub svg : picture.svg ≡ svg_of (unsigned_abs d.units) (drawn_from macros d rules ends 0 d.chains)
  pub links : picture.links ≡ link_count (drawn_from macros d rules ends 0 d.chains)

-- the picture is that of the files
pub record IsPicture (t : Texts) (picture : Picture) : Type 0 where
  pub cells : Cells
  pub macros : NamedMacros
  pub netlist : Netlist
  pub design : Design
  pub read : AreRead t cells macros netlist design
  pub paths : List Path
  pub traced : ArePathsOf netlist cells (asked_by (Some design) None) paths
  pub rules : Rules
  pub rules_are : AreRulesOf (path_specs netlist cells (Some design) paths) (chain_specs netlist cells design) rules
  pub is_picture : IsPictureOf macros design rules (ends_of netlist cells macros design paths rules) picture
