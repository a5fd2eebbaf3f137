use Rattle.desk_io.specs.declared.slot.Slot.TheVariants.{Lef, Verilog, Def}
use Rattle.scan_job.proofs.Phases.{countable}
use Rattle.scan_job.proofs.commands.bound.BoundRequestWhole.judge.Goals as goal

pub bound_text-requires-clause-lef : goal.bound_text-requires-clause-lef
bound_text-requires-clause-lef g c = rw c.text-lef.ensures.value (countable _ c.requires.limits Lef tt)

pub bound_text-requires-clause-verilog : goal.bound_text-requires-clause-verilog
bound_text-requires-clause-verilog g c = rw c.text-verilog.ensures.value (countable _ c.requires.limits Verilog tt)

pub bound_text-requires-clause-def : goal.bound_text-requires-clause-def
bound_text-requires-clause-def g c = rw c.text-def.ensures.value (countable _ c.requires.limits Def tt)

pub returns-clause-no_fault : goal.returns-clause-no_fault
returns-clause-no_fault g c = λ fault is.
    c.in_ok-console.ensures.no_fault fault (rw (c.text-table.ensures.value, c.text-lef.ensures.value, c.text-verilog.ensures.value, c.text-def.ensures.value) is.holds)

pub returns-clause-texts : goal.returns-clause-texts
returns-clause-texts g c = record {
  rounds = c.rounds_of-rounds.result;
  said = c.rounds_of-rounds.ensures.value;
  is = rw (c.saying.ensures.value, ← c.text-table.ensures.value, ← c.text-lef.ensures.value, ← c.text-verilog.ensures.value, ← c.text-def.ensures.value) c.in_ok-console.ensures.text;
}
