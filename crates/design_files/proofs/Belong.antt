-- The chains of a checked design belong to its paths, and its read plan can be measured.
use Rattle.std.proofs.Common.{◌≡◌, ℕ, ◌+◌, ◌<◌, ◌≤◌, ◌^◌, false, true, List, length, get_or, map, All, Contains, Option, Some, inl, inr, sym, subst, arith}
use Rattle.std.specs.Prelude.{sum_by, IsSome, option_and_then}
use Rattle.std.specs.List.{concat, range_with_len, slice_get}
use Rattle.std.proofs.lemmas.List.{length-map}
use Rattle.std.proofs.lemmas.List.Elements.{All-get_or, All-from_get_or, All-contains, Contains-get_or}
use Rattle.std.proofs.lemmas.Option.{slice_get_cases}
use Rattle.std.proofs.lemmas.List.FromFn.{length-range_with_len, get_or-range_with_len}
use Rattle.std.proofs.lemmas.List.Sorted.{Contains-permutation, IsPermutation-sym}
use Rattle.netlist_core.specs.declared.netlist.Instance.{Instance}
use Rattle.netlist_core.specs.declared.netlist.Netlist.{Netlist}
use Rattle.cell_table.specs.declared.paths.ScanPath.{ScanPath}
use Rattle.cell_table.specs.Table.{paths_at}
use Rattle.cell_table.specs.Cells.{Cells}
use Rattle.lef_pins.specs.Macros.{NamedMacros}
use Rattle.chain_trace.specs.declared.path.Path.{Path}
use Rattle.chain_trace.specs.declared.path.Step.{Step}
use Rattle.chain_trace.specs.Parities.{NamesEntry}
use Rattle.chain_rules.specs.declared.spec.PathSpec.{PathSpec}
use Rattle.chain_rules.specs.declared.spec.StepSpec.{StepSpec}
use Rattle.chain_rules.specs.declared.spec.ChainSpec.{ChainSpec}
use Rattle.chain_rules.specs.declared.unit.Rules.{Rules}
use Rattle.chain_rules.specs.declared.unit.ChainRule.{ChainRule}
use Rattle.chain_rules.specs.declared.unit.Unit.{Unit as MovedUnit}
use Rattle.chain_rules.specs.Legality.{chain_at}
use Rattle.chain_rules.specs.Rules.{AreRulesOf}
use Rattle.chain_rules.specs.Stretches.{path_at, step_at, elements_of, IsPlace, AreChainSpecs}
use Rattle.chain_rules.proofs.Distinct.{Contains-concat}
use Rattle.def_reader.specs.declared.design.Design.{Design}
use Rattle.wire_cost.specs.Lengths.{AreWithin, IsPlanAt}
use Rattle.traced_paths.specs.Traced.{NameEntries}
use Rattle.path_numbers.specs.Numbers.{path_specs, path_spec}
use Rattle.design_elements.specs.Elements.{chain_specs}
use Rattle.design_elements.specs.Laws.{AreOfInstances, ElementsLaw, OnceLaw, FewElementsLaw, FewChainsLaw}
use Rattle.design_places.specs.Ends.{source_on, sink_on, point_or_origin}
use Rattle.design_files.specs.Laws.{AreChecked, ChainsLaw, MeasuredLaw}
use Rattle.design_files.proofs.Measured.{units_few}
use Rattle.design_files.proofs.Placed.{steps_once, bits_are, step_is, here, no_path, no_step}

-- a step that names an entry is one of an instance
entry_within : (n : Netlist) (cells : Cells) (step : Step) → NamesEntry n cells step → step.instance < length n.instances
entry_within n cells step entry =
    elim (slice_get_cases n.instances step.instance).1 [
      | inl inside ↦ inside.1
      | inr past ↦
          let none : false ≡ true =
          subst (λ (o : Option Instance). IsSome (option_and_then (λ (path : ScanPath). slice_get path.outs step.out) (option_and_then (λ (placed : Instance). option_and_then (λ (paths : List ScanPath). slice_get paths step.path) (paths_at placed.cell cells)) o)))
          past.1 entry in
          absurd cc
    ]

of_instances : (n : Netlist) (cells : Cells) (d : Option Design) (paths : List Path) → NameEntries n cells paths → AreOfInstances n (path_specs n cells d paths)
of_instances n cells d paths entries p k at =
    let place = here n cells d paths p k at in
    let steps = All-get_or (λ (path : Path). All (NamesEntry n cells) path.steps) paths p no_path place.path entries in
    let step = All-get_or (NamesEntry n cells) (get_or paths p no_path).steps k no_step place.step steps in
    subst (λ (s : StepSpec). s.instance < length n.instances) (sym (step_is n cells d paths p k place.path place.step)) (entry_within n cells (get_or (get_or paths p no_path).steps k no_step) step)

pub chains : ElementsLaw → OnceLaw → FewElementsLaw → FewChainsLaw → ChainsLaw
chains elements_law once_law few_law chains_law n cells macros d paths checked =
    let few_bits = checked.few_bits in
    let few_paths = checked.few_paths in
    let few_elements = few_law n cells macros d checked.elements in
    let few_chains = chains_law n cells macros d checked.design checked.elements in
    record {
      steps_once = steps_once n cells (Some d) paths checked.traced.once;
      named_once = once_law n cells macros d (path_specs n cells (Some d) paths) checked.elements (of_instances n cells (Some d) paths checked.entries);
      elements = elements_law n cells d checked.design;
      bits = omega (arith, bits_are n cells (Some d) paths);
      few_paths = let same = length-map paths (path_spec n cells (Some d)) in omega arith;
      few_steps = checked.few_steps;
      few_chains = omega arith;
      few_elements = omega arith;
    }

-- a unit of a chain as read is one of the rules'
unit_within : (rules : Rules) (specs : List PathSpec) (chains : List ChainSpec) → AreRulesOf specs chains rules → (c : ℕ) → c < length rules.read.chains → AreWithin (chain_at rules.read c) (length rules.units)
unit_within rules specs chains are c lt k within =
    let us = chain_at rules.read c in
    let all : All (λ (u : ℕ). u < length rules.units) (range_with_len 0 (length rules.units)) =
    All-from_get_or (λ (u : ℕ). u < length rules.units) (range_with_len 0 (length rules.units)) 0
    (λ i inside. let below : i < length rules.units = subst (λ (m : ℕ). i < m) (length-range_with_len 0 (length rules.units)) inside in let at = get_or-range_with_len 0 (length rules.units) i 0 below in omega arith) in
    All-contains (λ (u : ℕ). u < length rules.units) (range_with_len 0 (length rules.units)) (get_or us k 0) all
    (Contains-permutation (concat rules.read.chains) (range_with_len 0 (length rules.units)) (get_or us k 0)
    (IsPermutation-sym (range_with_len 0 (length rules.units)) (concat rules.read.chains) are.of_each.units)
    (Contains-concat rules.read.chains c (get_or us k 0) lt (Contains-get_or us k 0 within)))

pub measured : FewElementsLaw → FewChainsLaw → MeasuredLaw
measured few_law chains_law n cells macros d paths rules checked are =
    let specs = path_specs n cells (Some d) paths in
    let chains = chain_specs n cells d in
    let few_elements = few_law n cells macros d checked.elements in
    let few_chains = chains_law n cells macros d checked.design checked.elements in
    let few = units_few specs chains rules are in
    let count = are.of_each.rule_count in
    let read = are.of_each.read_count in
    record {
      start = let same = length-map rules.chains (λ (r : ChainRule). source_on n cells macros d paths r.path r.first) in omega arith;
      stop = let same = length-map rules.chains (λ (r : ChainRule). sink_on n cells macros d paths r.path (r.last + 1)) in omega arith;
      entry = λ c lt k within.
          subst (λ (m : ℕ). get_or (chain_at rules.read c) k 0 < m) (sym (length-map rules.units (λ (u : MovedUnit). point_or_origin (sink_on n cells macros d paths u.path u.first))))
          (unit_within rules specs chains are c lt k within);
      exit = λ c lt k within.
          subst (λ (m : ℕ). get_or (chain_at rules.read c) k 0 < m) (sym (length-map rules.units (λ (u : MovedUnit). point_or_origin (source_on n cells macros d paths u.path (u.last + 1)))))
          (unit_within rules specs chains are c lt k within);
      few_units = omega arith;
      few_chains = omega arith;
    }
