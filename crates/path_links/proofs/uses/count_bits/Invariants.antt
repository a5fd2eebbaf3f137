use Rattle.std.proofs.Common.{◌≡◌, ◌+◌, ℕ, length, take}
use Rattle.netlist_core.specs.declared.netlist.NetId.{NetId}
use Rattle.path_links.specs.Free.{count_in}
use Rattle.path_links.specs.Uses.{AreCounts}
use Rattle.path_links.proofs.uses.count_bits.Given as goal

abbrev pub invariant-loop-bit : goal.invariant-loop-bit
invariant-loop-bit l = record {
  count : length l.counts.items ≡ length l.fn.counts.items;
  counted : (f : NetId → ℕ) → AreCounts l.fn.counts.items f → AreCounts l.counts.items (λ net. f net + count_in net (take l.bit-index l.bits));
}
