use Rattle.std.proofs.Common.{sym, ◌∙◌}
use Rattle.base_types.specs.declared.kind.Kind.TheVariants.{BadSelect}
use Rattle.verilog_checks.specs.Faults.{bad_select}
use Rattle.verilog_checks.proofs.Passes.{passes, fails, passed}
use Rattle.verilog_checks.proofs.Ports.{bad_is}
use Rattle.verilog_checks.proofs.select.check_select.Goals as goal

pub returns-then-is_bad : goal.returns-then-is_bad
returns-then-is_bad c =
    let ps = c.args.statements.now in
    let p = c.placed-item.result in
    record {
      value = rw c.fault_at.ensures.value (fails (λ before q. bad_select ps q) BadSelect ps c.loop-placed.placed-index p c.loop-placed-test.true c.placed-item.is
          (sym (bad_is c.args.names.now c.in_ok-known.known ps c.requires.names c.in_ok-known.ensures.value p) ∙ sym c.if-is_bad.ensures.value) c.loop-placed.invariant);
    }

pub loop-placed-preserved : goal.loop-placed-preserved
loop-placed-preserved c =
    let ps = c.args.statements.now in
    let p = c.placed-item.result in
    passes (λ before q. bad_select ps q) BadSelect ps c.loop-placed.placed-index p c.loop-placed-test.true c.placed-item.is
    (sym (bad_is c.args.names.now c.in_ok-known.known ps c.requires.names c.in_ok-known.ensures.value p) ∙ sym c.if-is_bad.ensures.value) c.loop-placed.invariant

pub returns : goal.returns
returns c =
    let ps = c.args.statements.now in
    record { value = passed (λ before q. bad_select ps q) BadSelect ps c.loop-placed.placed-index c.loop-placed-test.false c.loop-placed.invariant }
