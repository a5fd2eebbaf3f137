use Rattle.std.proofs.Common.{List, ℕ, ◌||◌, map, ap, ◌∙◌}
use Rattle.verilog_names.specs.Values.{unescaped}
use Rattle.verilog_names.specs.Declarations.{has}
use Rattle.verilog_checks.specs.Steps.{has_key}
use Rattle.verilog_checks.proofs.Ports.{directed_more}
use Rattle.verilog_checks.proofs.select.directed_names.Goals as goal

pub loop-placed-preserved : goal.loop-placed-preserved
loop-placed-preserved c = λ q.
    directed_more c.args.statements.now c.loop-placed.placed-index c.placed-item.result c.placed-item.result q _ _ c.loop-placed-test.true c.placed-item.is
    (c.in_ok-add_names.ensures.ok q ∙ ap (λ (l : List (List ℕ)). has_key c.loop-placed.set q || has (map unescaped l) q) c.directed_in.ensures.value)
    (c.loop-placed.invariant q)
