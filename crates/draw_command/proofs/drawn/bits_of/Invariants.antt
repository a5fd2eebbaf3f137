use Rattle.std.proofs.Common.{◌≡◌, ◌≤◌, ◌*◌, ◌^◌, take}
use Rattle.chain_rules.specs.Legality.{bits_of}
use Rattle.draw_command.proofs.drawn.bits_of.Given as goal

abbrev pub invariant-loop-unit : goal.invariant-loop-unit
invariant-loop-unit l = record {
  value : l.bits ≡ bits_of l.rules (take l.unit-index l.units);
  small : l.bits ≤ 2 ^ 32 * l.unit-index;
}
