use Rattle.std.proofs.Common.{◌≡◌, ◌+◌, length, take}
use Rattle.std.specs.Prelude.{sum_by}
use Rattle.std.specs.List.{list_any}
use Rattle.path_links.specs.Free.{count_in_assign, count_in_instance, is_assign_of}
use Rattle.path_links.specs.Uses.{AreCounts, AreMarks}
use Rattle.path_links.proofs.uses.Uses.of.Given as goal

abbrev pub invariant-loop-assign : goal.invariant-loop-assign
invariant-loop-assign l = record {
  counted : length l.counts.items ≡ length l.netlist.nets;
  marked : length l.assigned.items ≡ length l.netlist.nets;
  counts : AreCounts l.counts.items (λ net. sum_by (count_in_assign net) (take l.assign-index l.netlist.assigns));
  marks : AreMarks l.assigned.items (λ net. list_any (is_assign_of net) (take l.assign-index l.netlist.assigns));
}

abbrev pub invariant-loop-placed : goal.invariant-loop-placed
invariant-loop-placed l = record {
  counted : length l.counts.items ≡ length l.netlist.nets;
  marked : length l.assigned.items ≡ length l.netlist.nets;
  counts : AreCounts l.counts.items (λ net. sum_by (count_in_assign net) l.netlist.assigns + sum_by (count_in_instance net) (take l.placed-index l.netlist.instances));
  marks : AreMarks l.assigned.items (λ net. list_any (is_assign_of net) l.netlist.assigns);
}
