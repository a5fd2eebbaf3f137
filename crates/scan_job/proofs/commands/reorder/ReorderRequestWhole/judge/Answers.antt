use Rattle.desk_io.specs.declared.slot.Slot.TheVariants.{Lef, Verilog, Def}
use Rattle.scan_job.proofs.Phases.{countable}
use Rattle.scan_job.proofs.commands.reorder.ReorderRequestWhole.judge.Goals as goal

pub reorder_texts-requires-clause-lef : goal.reorder_texts-requires-clause-lef
reorder_texts-requires-clause-lef g c = rw c.text-lef.ensures.value (countable _ c.requires.limits Lef tt)

pub reorder_texts-requires-clause-verilog : goal.reorder_texts-requires-clause-verilog
reorder_texts-requires-clause-verilog g c = rw c.text-verilog.ensures.value (countable _ c.requires.limits Verilog tt)

pub reorder_texts-requires-clause-def : goal.reorder_texts-requires-clause-def
reorder_texts-requires-clause-def g c = rw c.text-def.ensures.value (countable _ c.requires.limits Def tt)

pub returns-clause-no_fault : goal.returns-clause-no_fault
returns-clause-no_fault g c = λ fault is.
    c.in_ok-made.ensures.no_fault fault (rw (c.text-table.ensures.value, c.text-lef.ensures.value, c.text-verilog.ensures.value, c.text-def.ensures.value) is.holds)
