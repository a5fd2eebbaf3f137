use Rattle.std.proofs.Common.{◌≡◌, ◌+◌, ℕ, get_or, take, length}
use Rattle.reorder_command.specs.Goals.{bits_in_units}
use Rattle.reorder_command.proofs.fixed.take_units.Given as goal

abbrev pub invariant-loop-unit : goal.invariant-loop-unit
invariant-loop-unit l = record {
  count : length l.bits ≡ length l.fn.bits;
  left : (k : ℕ) → get_or l.bits k 0 + bits_in_units (take l.unit-index l.units) k ≡ get_or l.fn.bits k 0;
}
