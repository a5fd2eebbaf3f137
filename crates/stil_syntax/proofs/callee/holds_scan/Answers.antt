use Rattle.std.proofs.Common.{◌∙◌}
use Rattle.stil_syntax.proofs.Stretches.{holds_found}
use Rattle.stil_syntax.proofs.callee.holds_scan.Goals as goal

pub returns-then-found : goal.returns-then-found
returns-then-found c = record { value = holds_found c.args.head.now c.loop-found.rest c.loop-found.begins c.in_ok-found.found c.in_ok-found.ensures.value c.if-found.true ∙ c.loop-found.invariant }
