use Rattle.std.proofs.Common.{◌≡◌, ◌∙◌, ◌-◌, suc, sym, arith}
use Rattle.stil_blocks.proofs.Fronts.{cells_more}
use Rattle.stil_blocks.proofs.cells.cells_at.Goals as goal

pub loop-left-preserved : goal.loop-left-preserved
loop-left-preserved c =
    let one : c.loop-left.left ≡ suc (c.loop-left.left - 1) = omega (arith, c.loop-left-test.true) in
    cells_more c.loop-left.left (c.loop-left.left - 1) c.loop-left.list c.put.new.self c.loop-left.rest c.cell_at.new.tokens _ one (sym c.is_end.ensures.value ∙ c.if-is_end.false)
    c.loop-left.invariant c.in-Some.cell c.in-Some.ensures.value c.in_ok-put-in-Some.ensures.value
