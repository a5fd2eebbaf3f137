use Rattle.std.proofs.Common.{ap, ◌∙◌}
use Rattle.verilog_names.specs.Values.{unescaped}
use Rattle.verilog_checks.specs.Steps.{has_key}
use Rattle.verilog_checks.proofs.Ports.{key_added}
use Rattle.verilog_checks.proofs.select.add_names.Goals as goal

pub loop-name-preserved : goal.loop-name-preserved
loop-name-preserved c = λ q.
    key_added (has_key c.args.set.now q) c.args.names.now c.loop-name.name-index c.name-item.result c.unescaped.result.now q _ _ c.loop-name-test.true
    (c.unescaped.ensures.value ∙ ap unescaped c.name-item.is) (c.in_ok-insert.ensures.updates.0 (record { ref_ptr = (0, 0); now = q })) (c.loop-name.invariant q)
