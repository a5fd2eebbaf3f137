use Rattle.desk_io.specs.declared.slot.Slot.TheVariants.{Verilog}
use Rattle.scan_job.proofs.Phases.{countable}
use Rattle.scan_job.proofs.commands.rewire.RewireRequestWhole.judge.Goals as goal

pub rewire_text-requires-clause-size : goal.rewire_text-requires-clause-size
rewire_text-requires-clause-size g c = rw c.text.ensures.value (countable _ c.requires.limits Verilog tt)

pub returns-clause-no_fault : goal.returns-clause-no_fault
returns-clause-no_fault g c = λ fault is. c.in_ok-done.ensures.no_fault fault (rw (c.text.ensures.value, c.in_ok-rewire.ensures.value) is.holds)
