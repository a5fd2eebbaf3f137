use Rattle.desk_io.specs.declared.slot.Slot.TheVariants.{Lef, Verilog, Def}
use Rattle.scan_job.proofs.Phases.{countable}
use Rattle.scan_job.proofs.commands.draw.DrawRequestWhole.judge.Goals as goal

pub draw_text-requires-clause-lef : goal.draw_text-requires-clause-lef
draw_text-requires-clause-lef g c = rw c.text-lef.ensures.value (countable _ c.requires.limits Lef tt)

pub draw_text-requires-clause-verilog : goal.draw_text-requires-clause-verilog
draw_text-requires-clause-verilog g c = rw c.text-verilog.ensures.value (countable _ c.requires.limits Verilog tt)

pub draw_text-requires-clause-def : goal.draw_text-requires-clause-def
draw_text-requires-clause-def g c = rw c.text-def.ensures.value (countable _ c.requires.limits Def tt)

pub returns-clause-no_fault : goal.returns-clause-no_fault
returns-clause-no_fault g c = λ fault is.
    c.in_ok-picture.ensures.no_fault fault (rw (c.text-table.ensures.value, c.text-lef.ensures.value, c.text-verilog.ensures.value, c.text-def.ensures.value) is.holds)
