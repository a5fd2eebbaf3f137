use Rattle.std.proofs.Common.{◌+◌, ap, refl}
use Rattle.base_types.proofs.TruthValues.{was_new, was_there}
use Rattle.verilog_checks.proofs.Counting.{counts_new, counts_old}
use Rattle.verilog_checks.proofs.number.Vectors.add.Goals as goal

pub returns-then-branch : goal.returns-then-branch
returns-then-branch c = record {
  counted = λ ds d e is h. counts_new c.args.self.now _ ds d c.args.bounds c.args.name.now e is (λ q. c.in_ok-insert.ensures.updates.0 (record { ref_ptr = (0, 0); now = q })) h
      (was_new c.in_ok-insert.field-0 _ c.in_ok-insert.ensures.added c.if-branch.true) (ap (λ n. c.args.self.now.bits + n) c.width.ensures.value);
}

pub returns-else-branch : goal.returns-else-branch
returns-else-branch c = record {
  counted = λ ds d e is h. counts_old c.args.self.now _ ds d c.args.bounds c.args.name.now e is (λ q. c.in_ok-insert.ensures.updates.0 (record { ref_ptr = (0, 0); now = q })) h
      (was_there c.in_ok-insert.field-0 _ c.in_ok-insert.ensures.added c.if-branch.false) refl;
}
