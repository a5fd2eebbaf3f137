use Rattle.std.proofs.Common.{◌++◌, [], cond, Bor, List, ℕ, map, is_some, ap, ◌∙◌}
use Rattle.std.specs.List.{filter}
use Rattle.verilog_names.specs.Values.{unescaped}
use Rattle.verilog_checks.specs.Seen.{is_bracketed}
use Rattle.verilog_checks.proofs.NameLists.{now_of}
use Rattle.verilog_checks.proofs.Undeclared.{scalars_of}
use Rattle.verilog_checks.proofs.scalars.closed_scalars_in.Goals as goal

pub returns-in_ok-push_scalars-in-Declare : goal.returns-in_ok-push_scalars-in-Declare
returns-in_ok-push_scalars-in-Declare c = record {
  value = λ ds keeps.
      scalars_of ds c.args.statement.now c.in-Declare.kind c.in-Declare.range c.in-Declare.names c.as_slice.result.now (now_of c.push_scalars.new.names.items) c.in-Declare.is c.as_slice.ensures.value
      (c.in_ok-push_scalars-in-Declare.ensures.value ∙ ap (λ (l : List (Bor (List ℕ))). now_of l ++ cond (is_some c.in-Declare.range) [] (filter is_bracketed (map unescaped c.as_slice.result.now))) c.new-scalars.ensures.items);
}
