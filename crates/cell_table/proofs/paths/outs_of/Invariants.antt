use Rattle.std.proofs.Common.{◌≡◌}
use Rattle.toml.specs.View.{members_view, table_view}
use Rattle.cell_table.specs.Cells.{out_of, outs_of, each_member}
use Rattle.cell_table.proofs.Loops.{with_front}
use Rattle.cell_table.proofs.Orders.{DoAscend}
use Rattle.cell_table.proofs.paths.outs_of.Given as goal

abbrev pub invariant-loop-pin : goal.invariant-loop-pin
invariant-loop-pin l =
    (goal.iterator-loop-pin).can_next l.pin-iterator × (goal.iterator-loop-pin).is_finite l.pin-iterator
    × record {
      same : with_front l.outs (each_member out_of (members_view l.pin-iterator)) ≡ outs_of (table_view l.pins);
      ascend : DoAscend l.outs l.pin-iterator;
    }
