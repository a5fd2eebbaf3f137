use Rattle.desk_io.specs.declared.slot.Slot.TheVariants.{Verilog, Stil, NewVerilog, NewStil}
use Rattle.scan_job.proofs.Phases.{countable}
use Rattle.scan_job.proofs.commands.verify.VerifyRequest.note_of.Goals as goal

pub difference_note-requires-clause-small : goal.difference_note-requires-clause-small
difference_note-requires-clause-small c = rw c.text-verilog.ensures.value (countable _ c.requires.limits Verilog tt)

pub difference_note-requires-clause-small_stil : goal.difference_note-requires-clause-small_stil
difference_note-requires-clause-small_stil c = rw c.text-stil.ensures.value (c.requires.limits Stil tt)

pub difference_note-requires-clause-small_new : goal.difference_note-requires-clause-small_new
difference_note-requires-clause-small_new c = rw c.text-new_verilog.ensures.value (countable _ c.requires.limits NewVerilog tt)

pub difference_note-requires-clause-small_new_stil : goal.difference_note-requires-clause-small_new_stil
difference_note-requires-clause-small_new_stil c = rw c.text-new_stil.ensures.value (c.requires.limits NewStil tt)
