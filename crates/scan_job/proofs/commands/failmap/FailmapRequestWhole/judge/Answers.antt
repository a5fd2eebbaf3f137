use Rattle.desk_io.specs.declared.slot.Slot.TheVariants.{Verilog, Stil, NewVerilog, NewStil, Log}
use Rattle.scan_job.proofs.Phases.{countable}
use Rattle.scan_job.proofs.commands.failmap.FailmapRequestWhole.judge.Goals as goal

pub failmap_text-requires-clause-small : goal.failmap_text-requires-clause-small
failmap_text-requires-clause-small g c = rw c.text-verilog.ensures.value (countable _ c.requires.limits Verilog tt)

pub failmap_text-requires-clause-small_stil : goal.failmap_text-requires-clause-small_stil
failmap_text-requires-clause-small_stil g c = rw c.text-stil.ensures.value (c.requires.limits Stil tt)

pub failmap_text-requires-clause-small_new : goal.failmap_text-requires-clause-small_new
failmap_text-requires-clause-small_new g c = rw c.text-new_verilog.ensures.value (countable _ c.requires.limits NewVerilog tt)

pub failmap_text-requires-clause-small_new_stil : goal.failmap_text-requires-clause-small_new_stil
failmap_text-requires-clause-small_new_stil g c = rw c.text-new_stil.ensures.value (c.requires.limits NewStil tt)

pub failmap_text-requires-clause-small_log : goal.failmap_text-requires-clause-small_log
failmap_text-requires-clause-small_log g c = rw c.text-log.ensures.value (c.requires.limits Log tt)

pub returns-clause-no_fault : goal.returns-clause-no_fault
returns-clause-no_fault g c = λ fault is. c.in_ok-console.ensures.no_fault fault (rw (c.text-table.ensures.value, c.text-verilog.ensures.value, c.text-stil.ensures.value, c.text-new_verilog.ensures.value, c.text-new_stil.ensures.value, c.text-log.ensures.value) is.holds)

pub returns-clause-texts : goal.returns-clause-texts
returns-clause-texts g c = rw (c.saying.ensures.value, ← c.text-table.ensures.value, ← c.text-verilog.ensures.value, ← c.text-stil.ensures.value, ← c.text-new_verilog.ensures.value, ← c.text-new_stil.ensures.value, ← c.text-log.ensures.value) c.in_ok-console.ensures.text
