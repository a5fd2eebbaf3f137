use Rattle.std.proofs.Common.{sym, ap, ◌∙◌}
use Rattle.verilog_names.specs.Declarations.{selects}
use Rattle.verilog_names.specs.NameTables.{kept_bounds}
use Rattle.verilog_checks.specs.Seen.{is_bit}
use Rattle.verilog_checks.proofs.Firsts.{bounds_is, kept_at}
use Rattle.verilog_checks.proofs.BitLookups.{is_no_bit, is_bit_of}
use Rattle.verilog_checks.proofs.twice.is_bit.Goals as goal

pub returns-in-Some : goal.returns-in-Some
returns-in-Some c = record {
  value = λ ds keeps low.
      let bit = c.in-Some.ensures.value in
      let base = c.in-Some.vector.now in
      let i = c.in-Some.index in
      c.selects.ensures.value
      ∙ ap (λ o. selects o i) (c.bounds.ensures.value ∙ ap kept_bounds (kept_at c.args.declared.now ds base keeps) ∙ bounds_is ds base)
      ∙ sym (is_bit_of ds base i low bit.0)
      ∙ sym (ap (is_bit ds) bit.1);
}

pub returns-in-None : goal.returns-in-None
returns-in-None c = record { value = λ ds keeps low. sym (is_no_bit ds c.args.name.now low c.in-None.ensures.value) }
