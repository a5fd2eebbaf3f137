use Rattle.std.proofs.Common.{◌≡◌, ◌++◌, drop}
use Rattle.wire_cost.specs.Lengths.{chain_ends}
use Rattle.draw_command.specs.Drawn.{spans_of}
use Rattle.draw_command.proofs.drawn.spans_of.Given as goal

abbrev pub invariant-loop-unit : goal.invariant-loop-unit
invariant-loop-unit l = l.spans.items ++ spans_of l.rules (chain_ends l.ends l.chain) (drop l.unit-index l.units) ≡ spans_of l.rules (chain_ends l.ends l.chain) l.units
