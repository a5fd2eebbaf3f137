use Rattle.std.proofs.Common.{sym, ◌∙◌}
use Rattle.verilog_names.specs.NameTables.{bounded}
use Rattle.verilog_names.proofs.Tables.{within}
use Rattle.verilog_reader.proofs.nets.Nets.entry.Goals as goal

pub returns-clause-within : goal.returns-clause-within
returns-clause-within c =
    rw (← c.self.view_is) (within c.args.name.now (bounded c.self.inside.names) c.unwrap.result (sym c.entry.ensures.value ∙ c.unwrap.ensures))
