use Rattle.std.proofs.Common.{◌≡◌, map, filter}
use Rattle.std.specs.List.{range_with_len}
use Rattle.netlist_core.specs.Netlists.{plain_of}
use Rattle.plan_paths.specs.NewPaths.{path_in}
use Rattle.chain_balance.specs.Balance.{is_in}
use Rattle.reorder_command.proofs.balanced.output_names.Given as goal

abbrev pub invariant-loop-path : goal.invariant-loop-path
invariant-loop-path l = l.names ≡ map (λ k. plain_of l.netlist.nets (path_in l.paths k).output) (filter (is_in l.set) (range_with_len 0 l.path))
