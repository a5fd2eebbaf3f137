use Rattle.std.proofs.Common.{map, ap, ◌∙◌}
use Rattle.std.specs.List.{filter}
use Rattle.std.proofs.lemmas.Result.{on_ok_weaker}
use Rattle.verilog_names.specs.Declarations.{Declaration, has}
use Rattle.verilog_checks.specs.Seen.{is_bracketed}
use Rattle.verilog_checks.proofs.ClosedNames.{closed_declared}
use Rattle.verilog_checks.proofs.scalars.add_declared.Goals as goal

pub returns-in-Declare : goal.returns-in-Declare
returns-in-Declare c = record {
  value = on_ok_weaker c.add_closed.result (λ adds before h q.
      adds (filter is_bracketed (map (λ (d : Declaration). d.name) before)) h q
      ∙ ap (λ l. has l q.now) (closed_declared before c.args.statement.now c.in-Declare.kind c.in-Declare.range c.in-Declare.names _ c.in-Declare.is c.as_slice.ensures.value)) c.add_closed.ensures.value;
}
