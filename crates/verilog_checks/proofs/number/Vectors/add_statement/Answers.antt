use Rattle.std.proofs.Common.{◌++◌, Option, sym, ap, ◌∙◌, subst}
use Rattle.verilog_syntax.specs.declared.statement.Range.{Range}
use Rattle.verilog_syntax.specs.declared.statement.Statement.{Statement}
use Rattle.verilog_syntax.specs.declared.statement.Statement.TheVariants.{Declare}
use Rattle.verilog_names.specs.Declarations.{declarations_in}
use Rattle.verilog_checks.specs.Steps.{AreCounted}
use Rattle.verilog_checks.proofs.Counting.{scalars_counted}
use Rattle.verilog_checks.proofs.number.Vectors.add_statement.Goals as goal

pub returns-in-None-clause-counted : goal.returns-in-None-clause-counted
returns-in-None-clause-counted c = λ ds h.
    let is = c.in-Declare.is ∙ ap (λ (r : Option Range). Declare c.in-Declare.kind r c.in-Declare.names) c.in-None.is in
    subst (λ (s : Statement). AreCounted c.args.self.now (ds ++ declarations_in s)) (sym is) (scalars_counted c.in-Declare.kind c.args.self.now ds c.in-Declare.names h)
