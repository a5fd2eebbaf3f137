use Rattle.std.proofs.Common.{ap, ◌∙◌}
use Rattle.verilog_names.specs.NameTables.{firsts_in}
use Rattle.verilog_reader.proofs.NumberedLists.{names_few}
use Rattle.verilog_reader.proofs.nets.Nets.names.Goals as goal

pub returns-clause-few : goal.returns-clause-few
returns-clause-few c =
    names_few c.loop-name.names c.loop-name.name-iterator c.into_iter-name-iterator.result c.self.inside.names c.in-None.ensures.steps.0
    c.loop-name.invariant.2 (ap firsts_in c.into_iter-name-iterator.ensures.into_iter_gives ∙ c.iter-name-items.ensures.names) c.iter-name-items.ensures.few
