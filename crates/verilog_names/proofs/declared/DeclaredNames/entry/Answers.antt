use Rattle.std.proofs.Common.{Some, None}
use Rattle.verilog_names.proofs.Tables.{place_by}
use Rattle.verilog_names.proofs.declared.DeclaredNames.entry.Goals as goal

pub returns-in-Some-clause-value : goal.returns-in-Some-clause-value
returns-in-Some-clause-value c = rw (← c.self.view_is) (place_by c.get.result (Some c.in-Some.slot) c.self.inside.slots.entries c.args.name.now c.self.invariant.0 c.in-Some.is c.get.ensures.value)

pub returns-in-None-clause-value : goal.returns-in-None-clause-value
returns-in-None-clause-value c = rw (← c.self.view_is) (place_by c.get.result None c.self.inside.slots.entries c.args.name.now c.self.invariant.0 c.in-None.is c.get.ensures.value)
