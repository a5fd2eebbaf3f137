use Rattle.std.proofs.Common.{◌≡◌, ◌<◌, ◌^◌, map, take}
use Rattle.std.specs.Prelude.{option_map}
use Rattle.path_numbers.specs.Numbers.{path_spec, step_count}
use Rattle.path_numbers.proofs.numbers.path_specs.Given as goal

abbrev pub invariant-loop-path : goal.invariant-loop-path
invariant-loop-path l = record {
  is : l.specs.items ≡ map (path_spec l.netlist l.table (option_map (λ d. d.now) l.design)) (take l.path-index l.paths);
  count : l.steps ≡ step_count l.specs.items;
  few : l.steps < 2 ^ 32;
}
