-- The elements of the chains after a plan (LEF/DEF 5.8, SCANCHAINS): of each unit the listed steps, by the pins of the trace.
use Rattle.std.specs.Prelude.{ℕ, Bool, true, false, ◌&&◌, ◌==◌, if◌then◌else◌, List, [], ◌∷◌, length, map, filter, Option, Some, None}
use Rattle.std.specs.List.{find, flat_map, list_any, range_with_len, slice_get}
use Rattle.netlist_core.specs.declared.netlist.Netlist.{Netlist}
use Rattle.cell_table.specs.declared.paths.ScanPath.{ScanPath}
use Rattle.cell_table.specs.declared.paths.OutPin.{OutPin}
use Rattle.cell_table.specs.Cells.{Cells}
use Rattle.chain_trace.specs.declared.path.Step.{Step}
use Rattle.chain_trace.specs.declared.path.Path.{Path}
use Rattle.chain_trace.specs.Paths.{scan_path_at, out_pin_at}
use Rattle.chain_rules.specs.declared.spec.EndSpec.{EndSpec}
use Rattle.chain_rules.specs.declared.spec.EndSpec.TheVariants as ends
use Rattle.chain_rules.specs.declared.spec.ElementSpec.{ElementSpec}
use Rattle.chain_rules.specs.declared.spec.ListSpec.{ListSpec}
use Rattle.chain_rules.specs.declared.spec.ListSpec.TheVariants as lists
use Rattle.chain_rules.specs.declared.spec.ChainSpec.{ChainSpec}
use Rattle.chain_rules.specs.declared.unit.Rules.{Rules}
use Rattle.chain_rules.specs.declared.plan.Plan.{Plan}
use Rattle.chain_rules.specs.Legality.{unit_at, chain_at}
use Rattle.chain_rules.specs.Stretches.{spec_at}
use Rattle.plan_paths.specs.NewPaths.{run_places, step_in}
use Rattle.traced_paths.specs.Bits.{step_bits}
use Rattle.traced_paths.specs.Traced.{steps_of}
use Rattle.def_writer.specs.Placing.{instance_name}
use Rattle.def_edit.specs.declared.chains.NewElement.{NewElement}
use Rattle.def_edit.specs.declared.chains.NewChain.{NewChain}

-- the element is of the step's instance and scan path
abbrev pub names_step : Step → ElementSpec → Bool
names_step step e = e.instance == step.instance && e.path == step.path

-- the list has such an element, and is ordered or may be floating too
abbrev pub lists_step : Bool → Step → ListSpec → Bool
lists_step floating step (lists.Floating es) = floating && list_any (names_step step) es
lists_step floating step (lists.Ordered es) = list_any (names_step step) es

-- one of the chains has such a list
abbrev pub is_in_lists : Bool → List ChainSpec → Step → Bool
is_in_lists floating chains step = list_any (λ c. list_any (lists_step floating step) c.lists) chains

-- one of the chains lists the step
abbrev pub is_listed : List ChainSpec → Step → Bool
is_listed chains step = is_in_lists true chains step

-- in an ordered list
abbrev pub is_ordered : List ChainSpec → Step → Bool
is_ordered chains step = is_in_lists false chains step

-- the listed steps of a unit, as read
abbrev pub listed_steps : List ChainSpec → List Path → Rules → ℕ → List Step
listed_steps chains paths rules u = filter (is_listed chains) (map (step_in paths) (run_places (unit_at rules u)))

-- the unit is an ordered list
abbrev pub is_ordered_unit : List ChainSpec → List Path → Rules → ℕ → Bool
is_ordered_unit chains paths rules u = list_any (is_ordered chains) (listed_steps chains paths rules u)

-- the in pin of a scan path; none without one
abbrev pub input_name : Option ScanPath → List ℕ
input_name None = []
input_name (Some path) = path.input

-- the name of an out pin; none without one
abbrev pub output_name : Option OutPin → List ℕ
output_name None = []
output_name (Some out) = out.pin

-- the element of a step
abbrev pub element_of : Netlist → Cells → Step → NewElement
element_of n cells step = record {
  component = instance_name (slice_get n.instances step.instance);
  input = input_name (scan_path_at n cells step.instance step.path);
  output = output_name (out_pin_at n cells step);
  bits = step_bits n cells step;
}

-- the elements of a unit
abbrev pub unit_elements : Netlist → Cells → List ChainSpec → List Path → Rules → ℕ → List NewElement
unit_elements n cells chains paths rules u = map (element_of n cells) (listed_steps chains paths rules u)

-- these, where the unit is a floating element
abbrev pub floating_elements : Netlist → Cells → List ChainSpec → List Path → Rules → ℕ → List NewElement
floating_elements n cells chains paths rules u = if is_ordered_unit chains paths rules u then [] else unit_elements n cells chains paths rules u

-- and as a list, where it is an ordered one
abbrev pub ordered_elements : Netlist → Cells → List ChainSpec → List Path → Rules → ℕ → List (List NewElement)
ordered_elements n cells chains paths rules u = if is_ordered_unit chains paths rules u then unit_elements n cells chains paths rules u ∷ [] else []

-- the step is of this scan path of this instance
abbrev pub is_at : ℕ → ℕ → Step → Bool
is_at instance path step = step.instance == instance && step.path == path

-- the name of the out pin by which a step leaves its scan path
abbrev pub left_by : Netlist → Cells → Option Step → List ℕ
left_by n cells None = []
left_by n cells (Some step) = output_name (out_pin_at n cells step)

-- the pin at which a chain starts: that by which the paths leave the START cell; none at a port
abbrev pub start_pin : Netlist → Cells → List Path → EndSpec → List ℕ
start_pin n cells paths (ends.Port net) = []
start_pin n cells paths (ends.Cell instance path out) = left_by n cells (find (is_at instance path) (steps_of paths))

-- the pin at which a chain stops; none at a port
abbrev pub stop_pin : Netlist → Cells → EndSpec → List ℕ
stop_pin n cells (ends.Port net) = []
stop_pin n cells (ends.Cell instance path out) = input_name (scan_path_at n cells instance path)

-- a chain with these units: the floating ones in their order, and the ordered lists in theirs
abbrev pub plan_chain : Netlist → Cells → List ChainSpec → List Path → Rules → ChainSpec → List ℕ → NewChain
plan_chain n cells chains paths rules c us = record {
  start = start_pin n cells paths c.start;
  stop = stop_pin n cells c.stop;
  floating = flat_map (floating_elements n cells chains paths rules) us;
  ordered = flat_map (ordered_elements n cells chains paths rules) us;
}

-- each of the chains with its units in the plan
abbrev pub plan_chains : Netlist → Cells → List ChainSpec → List Path → Rules → Plan → List NewChain
plan_chains n cells chains paths rules plan =
    map (λ c. plan_chain n cells chains paths rules (spec_at chains c) (chain_at plan c)) (range_with_len 0 (length chains))
