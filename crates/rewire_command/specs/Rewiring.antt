-- The path of a scan output put into the order of given names: what is written, and what it means.
use Rattle.std.specs.Prelude.{◌≡◌, ℕ, ◌+◌, Bool, ◌||◌, List, [], ◌∷◌, length, map, find, filter_map, Option, Some, None}
use Rattle.std.specs.List.{slice_get}
use Rattle.std.specs.Str.{bytes_eq}
use Rattle.netlist_core.specs.declared.netlist.NetId.{NetId}
use Rattle.netlist_core.specs.declared.netlist.Instance.{Instance}
use Rattle.netlist_core.specs.declared.netlist.Netlist.{Netlist}
use Rattle.netlist_core.specs.Netlists.{named, plain_of}
use Rattle.verilog_reader.specs.Denoted.{DenotesNetlist}
use Rattle.cell_table.specs.Cells.{Cells}
use Rattle.cell_table.specs.Table.{one_path}
use Rattle.chain_trace.specs.declared.path.Step.{Step}
use Rattle.chain_trace.specs.declared.path.Path.{Path}
use Rattle.chain_trace.specs.Paths.{is_driven, IsScanPath}
use Rattle.chain_trace.specs.Named.{IsPortNamed}
use Rattle.path_links.specs.declared.sinks.Sinks.{Sinks}
use Rattle.path_links.specs.Erasure.{erased_netlist}
use Rattle.path_links.specs.Free.{is_free}
use Rattle.path_links.specs.Direct.{last_of, is_direct_from}
use Rattle.net_edit.specs.declared.edits.Edits.{Edits}
use Rattle.net_edit.specs.declared.changes.Change.{Change}
use Rattle.net_edit.specs.Tails.{freed_between}
use Rattle.net_edit.specs.TailNames.{AreLeastNames}
use Rattle.net_edit.specs.Wires.{AreEditsFor}
use Rattle.net_edit.specs.Erased.{without_tails, tails_of, scan_sinks}
use Rattle.verilog_writer.specs.Wired.{IsWiredText, DeclareBehind}
use Rattle.rewire_command.specs.declared.rewire.Rewire.{Rewire}

-- the table of the one cell kind
abbrev pub cells_of : Rewire → Cells
cells_of w = (w.cell, one_path w.in_pin w.out_pin ∷ []) ∷ []

-- the text's netlist has a scan path from the scan-in to the scan-out
pub record IsTraced (text : List ℕ) (w : Rewire) (n : Netlist) (path : Path) : Type 0 where
  pub reads : DenotesNetlist text n
  pub output : IsPortNamed is_driven n w.scan_out path.output
  pub is : IsScanPath n (cells_of w) path.output path
  pub input : plain_of n.nets path.input ≡ w.scan_in

-- the plain name of an instance
abbrev pub name_of : Option Instance → List ℕ
name_of None = []
name_of (Some placed) = placed.name

-- the name of a step's instance
abbrev pub instance_name : Netlist → Step → List ℕ
instance_name n step = name_of (slice_get n.instances step.instance)

-- the names of a path's instances, in its order
abbrev pub instance_names : Netlist → Path → List (List ℕ)
instance_names n path = map (instance_name n) path.steps

-- the step of a name, and the path with its steps in the order of the names
abbrev pub step_named : Netlist → Path → List ℕ → Option Step
step_named n path name = find (λ step. bytes_eq (instance_name n step) name) path.steps

-- the path with its steps in the order of the names
abbrev pub ordered : Netlist → Path → List (List ℕ) → Path
ordered n path names = record { input = path.input; output = path.output; steps = filter_map (step_named n path) names }

-- what is written, with the edits that put the path into the order of the words, and how many in pins and ports have another
-- source than before
pub record IsRewired (text : List ℕ) (w : Rewire) (verilog : List ℕ) (moved : ℕ) : Type 0 where
  pub netlist : Netlist
  pub path : Path
  pub traced : IsTraced text w netlist path
  pub edits : Edits
  pub are : AreEditsFor netlist (cells_of w) (path ∷ []) (ordered netlist path w.units ∷ []) edits
  pub written : IsWiredText text netlist (cells_of w) edits verilog
  pub count : moved ≡ length edits.pins + length edits.ports + length edits.tails

-- the output of the path, if it is freed: where it is direct, and the order of the words has another last one
abbrev pub freed_of : Netlist → Rewire → Path → List Change
freed_of n w path = freed_between n (cells_of w) (path ∷ []) (ordered n path w.units ∷ [])

-- a port is free at the end of the path: it is assigned, or the path's last out pin drives it directly
abbrev pub is_free_at_end : Netlist → Rewire → Path → NetId → Bool
is_free_at_end n w path port = is_free n port || is_direct_from n (cells_of w) port (last_of path)

-- the scan sinks of the path: the in pins of its steps, and its output where that is free
abbrev pub sinks_of : Netlist → Rewire → Path → Sinks
sinks_of n w path = scan_sinks n (cells_of w) (is_free_at_end n w path) (path ∷ [])

-- the written text declares the tail of the read path's output, if that is freed, and then what the read text declares; both
-- denote netlists that are the same by names, but for the scan sinks of the read path, and but for the tail, for which the
-- output stands at its out pin and whose assign is left out
pub record AreErasedAlike (text : List ℕ) (w : Rewire) (written : List ℕ) : Type 0 where
  pub before : Netlist
  pub path : Path
  pub traced : IsTraced text w before path
  pub names : List (List ℕ)
  pub each : length names ≡ length (freed_of before w path)
  pub least : AreLeastNames before names
  pub after : Netlist
  pub denoted : DenotesNetlist written after
  pub declared : DeclareBehind text names written
  pub same : erased_netlist (sinks_of before w path) (without_tails (tails_of before (cells_of w) (freed_of before w path) names) (named after)) ≡ erased_netlist (sinks_of before w path) (named before)

-- the scan path of a text from the scan-in to the scan-out has these instances, in this order
pub record HasPath (text : List ℕ) (w : Rewire) (names : List (List ℕ)) : Type 0 where
  pub netlist : Netlist
  pub path : Path
  pub traced : IsTraced text w netlist path
  pub same : instance_names netlist path ≡ names
