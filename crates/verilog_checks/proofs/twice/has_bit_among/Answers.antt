use Rattle.std.proofs.Common.{Option, sym, ap, ◌∙◌}
use Rattle.std.specs.List.{list_any}
use Rattle.verilog_names.specs.declared.bounds.Bounds.{Bounds}
use Rattle.verilog_checks.specs.Checks.{has_bit_in}
use Rattle.verilog_checks.proofs.AnyLemmas.{any_none}
use Rattle.verilog_checks.proofs.ClosedNames.{no_closed_bits}
use Rattle.verilog_checks.proofs.twice.has_bit_among.Goals as goal

pub returns-then-is_empty : goal.returns-then-is_empty
returns-then-is_empty c = record { value = λ all nets. sym (no_closed_bits c.args.nets.now c.args.vector.now c.args.bounds all (c.is_empty.ensures.0 c.if-is_empty.true) nets) }

pub returns-in-None : goal.returns-in-None
returns-in-None c = record { value = λ all nets. sym (ap (λ (o : Option Bounds). list_any (has_bit_in c.args.vector.now o) all) c.in-None.is ∙ any_none all) }
