-- What is known of a plan of checked files, and of the paths after it beside those before it.
use Rattle.std.specs.Prelude.{◌≡◌, ℕ, List, length, IsSome, Some}
use Rattle.chain_trace.specs.declared.path.Path.{Path}
use Rattle.chain_trace.specs.Paths.{StandOnce}
use Rattle.chain_rules.specs.declared.plan.Plan.{Plan}
use Rattle.net_edit.specs.Rearranged.{AreRearranged, steps_of}
use Rattle.plan_paths.specs.NewPaths.{new_paths}
use Rattle.path_numbers.specs.Numbers.{path_specs}
use Rattle.traced_paths.specs.Traced.{NameEntries}
use Rattle.path_chains.specs.Numbered.{HaveBits}
use Rattle.design_files.specs.declared.read.DesignFiles.{DesignFiles}
use Rattle.reorder_command.specs.declared.goal.Goal.{Goal}
use Rattle.reorder_command.specs.declared.figures.Measured.{Measured}
use Rattle.reorder_command.specs.Goals.{fixed_bits, IsGoodFor, AreMeasures}

-- the bits of each path of checked files outside all units
abbrev pub fixed_of : DesignFiles → List ℕ
fixed_of f = fixed_bits (path_specs f.netlist f.table (Some f.design) f.paths.items) f.rules

-- the plan is what is searched for in checked files
abbrev pub IsGoodIn : Goal → DesignFiles → Plan → Type 0
IsGoodIn goal f plan = IsGoodFor goal f.rules f.ends (fixed_of f) plan

-- this is measured of it
abbrev pub AreMeasuredIn : Goal → DesignFiles → Plan → Measured → Type 0
AreMeasuredIn goal f plan measured = AreMeasures goal f.netlist f.paths.items f.rules f.ends (fixed_of f) plan measured

-- the paths after a plan are the read ones rearranged, and where there is a head each has a bit before and after it: so scan chains along the
-- ones and the others can have the same cells
pub record AreNewPaths (f : DesignFiles) (plan : Plan) (new : List Path) : Type 0 where
  pub are : new ≡ new_paths f.paths.items f.rules plan
  pub rearranged : AreRearranged f.netlist f.table f.paths.items new
  pub count : length new ≡ length f.paths.items
  pub old_once : StandOnce (steps_of f.paths.items)
  pub new_once : StandOnce (steps_of new)
  pub old_entries : NameEntries f.netlist f.table f.paths.items
  pub new_entries : NameEntries f.netlist f.table new
  pub old_bits : IsSome f.head → HaveBits f.netlist f.table f.paths.items
  pub new_bits : IsSome f.head → HaveBits f.netlist f.table new
