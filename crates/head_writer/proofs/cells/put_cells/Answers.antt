use Rattle.head_writer.proofs.CellNames.{all_done, all_taken}
use Rattle.head_writer.proofs.cells.put_cells.Goals as goal

pub returns-in_default : goal.returns-in_default
returns-in_default c =
    let done = rw c.in_default.is at c.in_ok-more.ensures.value in
    record { value = all_done c.loop-count.named.items c.put_cell.new.named.items _ c.loop-count.left.now c.loop-count.count c.loop-count.rest c.loop-count-test.true done c.loop-count.invariant }

pub returns : goal.returns
returns c = record { value = all_taken c.loop-count.named.items _ c.loop-count.left.now c.loop-count.count c.loop-count.rest c.loop-count-test.false c.loop-count.invariant }
