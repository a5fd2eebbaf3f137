use Rattle.std.proofs.Common.{sym, ◌∙◌}
use Rattle.std.proofs.lemmas.Result.{IfOk-weaker}
use Rattle.verilog_names.specs.NameTables.{bounded}
use Rattle.verilog_names.proofs.Tables.{within}
use Rattle.verilog_names.proofs.FirstNames.{no_first}
use Rattle.verilog_reader.proofs.nets.Nets.entry_or_add.Goals as goal

pub append-requires : goal.append-requires
append-requires c = no_first c.self.inside.names c.args.name.now (sym c.entry.ensures.value ∙ c.in-None.is)

pub returns-in-Some-clause-within : goal.returns-in-Some-clause-within
returns-in-Some-clause-within c =
    rw (← c.self.view_is) (within c.args.name.now (bounded c.self.inside.names) c.in-Some.entry (sym c.entry.ensures.value ∙ c.in-Some.is))

pub returns-in-None-clause-within : goal.returns-in-None-clause-within
returns-in-None-clause-within c = IfOk-weaker c.append.result _ _ (λ e. within c.args.name.now (bounded c.append.new.self) e) c.append.ensures.found
