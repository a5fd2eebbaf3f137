-- Paths as numbers, and which of their outputs are free to get another source.
use Rattle.std.specs.Prelude.{ℕ, Bool, false, ◌&&◌, ◌||◌, not, List, ◌++◌, length, map, sum_by, take, codes, Option, Some, None}
use Rattle.std.specs.List.{list_any}
use Rattle.std.specs.Str.{bytes_eq}
use Rattle.netlist_core.specs.declared.netlist.Netlist.{Netlist}
use Rattle.netlist_core.specs.Netlists.{plain_of}
use Rattle.cell_table.specs.Cells.{Cells}
use Rattle.chain_trace.specs.declared.path.Path.{Path}
use Rattle.chain_trace.specs.declared.path.Step.{Step}
use Rattle.path_links.specs.Free.{is_free as is_assigned}
use Rattle.path_links.specs.Direct.{is_direct}
use Rattle.def_reader.specs.declared.design.Design.{Design}
use Rattle.chain_rules.specs.declared.spec.PathSpec.{PathSpec}
use Rattle.chain_rules.specs.declared.spec.StepSpec.{StepSpec}
use Rattle.traced_paths.specs.Bits.{step_bits}

-- the name begins with these bytes
abbrev pub begins_with : List ℕ → List ℕ → Bool
begins_with front name = bytes_eq front (take (length front) name)

-- a design pin besides stands for the port: its name begins with that of the port and `.extra`
abbrev pub has_extra : Option Design → List ℕ → Bool
has_extra None name = false
has_extra (Some d) name = list_any (λ pin. begins_with (name ++ codes ".extra") pin.name) d.pins

-- the output of the path is free: assigned or direct, and without such a pin
abbrev pub is_free_output : Netlist → Cells → Option Design → Path → Bool
is_free_output n cells d path = (is_assigned n path.output || is_direct n cells path) && not (has_extra d (plain_of n.nets path.output))

-- a step as numbers
abbrev pub step_spec : Netlist → Cells → Step → StepSpec
step_spec n cells step = record { instance = step.instance; path = step.path; out = step.out; bits = step_bits n cells step }

-- a path as numbers
abbrev pub path_spec : Netlist → Cells → Option Design → Path → PathSpec
path_spec n cells d path = record {
  input = path.input.0;
  output = path.output.0;
  free_out = is_free_output n cells d path;
  steps = map (step_spec n cells) path.steps;
}

-- paths as numbers
abbrev pub path_specs : Netlist → Cells → Option Design → List Path → List PathSpec
path_specs n cells d paths = map (path_spec n cells d) paths

-- how many steps paths have together
abbrev pub step_count : List PathSpec → ℕ
step_count specs = sum_by (λ path. length path.steps) specs
