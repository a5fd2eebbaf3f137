use Rattle.std.proofs.Common.{Some, None, ap, ◌∙◌}
use Rattle.verilog_names.specs.declared.declared.First.{First}
use Rattle.verilog_names.proofs.Tables.{first_by}
use Rattle.verilog_names.proofs.declared.DeclaredNames.first_of.Goals as goal

pub returns-in-Some : goal.returns-in-Some
returns-in-Some c = record {
  value = rw (← c.self.view_is) (ap (λ (f : First). Some f) c.first.ensures.value ∙ first_by c.get.result (Some c.in-Some.slot) c.self.inside.slots.entries c.args.name.now c.in-Some.is c.get.ensures.value);
}

pub returns-in-None : goal.returns-in-None
returns-in-None c = record { value = rw (← c.self.view_is) (first_by c.get.result None c.self.inside.slots.entries c.args.name.now c.in-None.is c.get.ensures.value) }
