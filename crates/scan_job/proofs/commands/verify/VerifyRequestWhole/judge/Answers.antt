use Rattle.desk_io.specs.declared.slot.Slot.TheVariants.{Verilog, Stil, NewVerilog, NewStil}
use Rattle.scan_job.proofs.Phases.{countable}
use Rattle.scan_job.proofs.commands.verify.VerifyRequestWhole.judge.Goals as goal

pub verify_text-requires-clause-small : goal.verify_text-requires-clause-small
verify_text-requires-clause-small g c = rw c.text-verilog.ensures.value (countable _ c.requires.limits Verilog tt)

pub verify_text-requires-clause-small_stil : goal.verify_text-requires-clause-small_stil
verify_text-requires-clause-small_stil g c = rw c.text-stil.ensures.value (c.requires.limits Stil tt)

pub verify_text-requires-clause-small_new : goal.verify_text-requires-clause-small_new
verify_text-requires-clause-small_new g c = rw c.text-new_verilog.ensures.value (countable _ c.requires.limits NewVerilog tt)

pub verify_text-requires-clause-small_new_stil : goal.verify_text-requires-clause-small_new_stil
verify_text-requires-clause-small_new_stil g c = rw c.text-new_stil.ensures.value (c.requires.limits NewStil tt)

pub returns-clause-no_fault : goal.returns-clause-no_fault
returns-clause-no_fault g c = λ fault is. c.in_ok-console.ensures.no_fault fault (rw (c.text-table.ensures.value, c.text-verilog.ensures.value, c.text-stil.ensures.value, c.text-new_verilog.ensures.value, c.text-new_stil.ensures.value) is.holds)

pub returns-clause-texts : goal.returns-clause-texts
returns-clause-texts g c = record {
  same = rw (c.saying-outputs.ensures.value, ← c.text-table.ensures.value, ← c.text-verilog.ensures.value, ← c.text-stil.ensures.value, ← c.text-new_verilog.ensures.value, ← c.text-new_stil.ensures.value) c.in_ok-console.ensures.same;
  says = rw (c.saying-outputs.ensures.value, ← c.text-table.ensures.value, ← c.text-verilog.ensures.value, ← c.text-stil.ensures.value, ← c.text-new_verilog.ensures.value, ← c.text-new_stil.ensures.value) c.in_ok-console.ensures.text;
}
