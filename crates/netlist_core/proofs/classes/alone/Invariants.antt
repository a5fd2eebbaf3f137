use Rattle.std.proofs.Common.{◌≡◌, ℕ, ◌<◌, length, get_or}
use Rattle.netlist_core.proofs.classes.alone.Given as goal

abbrev pub invariant-loop-net : goal.invariant-loop-net
invariant-loop-net l = record {
  len : length l.parents.items ≡ l.net;
  own : (k : ℕ) → k < l.net → get_or l.parents.items k 0 ≡ k;
}
