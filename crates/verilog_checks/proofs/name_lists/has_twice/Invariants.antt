use Rattle.std.proofs.Common.{◌≡◌, map, take, drop}
use Rattle.verilog_checks.specs.Checks.{has_twice}
use Rattle.verilog_names.specs.NameSets.{HasNames}
use Rattle.verilog_checks.proofs.NameLists.{stands_behind}
use Rattle.verilog_checks.proofs.name_lists.has_twice.Given as goal

abbrev pub invariant-loop-name : goal.invariant-loop-name
invariant-loop-name l = record {
  same : stands_behind (map (λ name. name.now) (take l.name-index l.names)) (map (λ name. name.now) (drop l.name-index l.names)) ≡ has_twice (map (λ name. name.now) l.names);
  seen : HasNames l.seen (map (λ name. name.now) (take l.name-index l.names));
}
