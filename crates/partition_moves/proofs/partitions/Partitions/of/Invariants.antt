use Rattle.std.proofs.Common.{◌≤◌, length}
use Rattle.partition_moves.proofs.Grouped.{AreGrouped}
use Rattle.partition_moves.proofs.partitions.Partitions.of.Given as goal

abbrev pub invariant-chains : goal.invariant-chains
invariant-chains l = record {
  grouped : AreGrouped l.rules l.first.items l.next.items l.c;
  low : l.c ≤ length l.rules.chains;
}

abbrev pub decreases-chains : goal.decreases-chains
decreases-chains l = l.c
