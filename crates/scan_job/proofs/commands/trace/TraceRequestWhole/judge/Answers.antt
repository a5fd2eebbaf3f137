use Rattle.desk_io.specs.declared.slot.Slot.TheVariants.{Verilog}
use Rattle.scan_job.proofs.Phases.{countable}
use Rattle.scan_job.proofs.commands.trace.TraceRequestWhole.judge.Goals as goal

pub path_text-requires : goal.path_text-requires
path_text-requires g c = record { size = rw c.text-verilog.ensures.value (countable _ c.requires.limits Verilog tt) }

pub returns-clause-no_fault : goal.returns-clause-no_fault
returns-clause-no_fault g c = λ fault is. c.in_ok-console.ensures.no_fault fault (rw (c.text-table.ensures.value, c.text-verilog.ensures.value, c.bytes.ensures.value) is.holds)
