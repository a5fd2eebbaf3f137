use Rattle.std.proofs.Common.{◌≡◌, ℕ, List, ◌++◌, length}
use Rattle.net_edit.specs.TailNames.{AreLeastFree}
use Rattle.net_edit.proofs.names.tail_numbers.Given as goal

abbrev pub invariant-loop-place : goal.invariant-loop-place
invariant-loop-place l = record {
  count : length l.numbers.items ≡ l._place;
  more : (rest : List ℕ) → AreLeastFree l.netlist l.from rest → AreLeastFree l.netlist 0 (l.numbers.items ++ rest);
}
