use Rattle.std.proofs.Common.{◌≡◌, ◌+◌, ℕ, length, take}
use Rattle.std.specs.Prelude.{sum_by}
use Rattle.netlist_core.specs.declared.netlist.NetId.{NetId}
use Rattle.path_links.specs.Free.{count_in}
use Rattle.path_links.specs.Uses.{AreCounts}
use Rattle.path_links.proofs.uses.count_instance.Given as goal

abbrev pub invariant-loop-connection : goal.invariant-loop-connection
invariant-loop-connection l = record {
  count : length l.counts.items ≡ length l.fn.counts.items;
  counted : (f : NetId → ℕ) → AreCounts l.fn.counts.items f → AreCounts l.counts.items (λ net. f net + sum_by (λ connection. count_in net connection.expr.bits) (take l.connection-index l.placed.connections));
}
