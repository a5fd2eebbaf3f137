use Rattle.std.proofs.Common.{◌≡◌, ◌≤◌, ◌+◌, ℕ, length, take, arith, sym, ◌∙◌}
use Rattle.fail_map.specs.Blocks.{calls_among}
use Rattle.fail_map.proofs.Blocks.{count_next, count_stays}
use Rattle.fail_map.proofs.block.count_among.Goals.{then-is_some, else-is_some}
use Rattle.fail_map.proofs.block.count_among.Goals as goal

pub loop-statement-preserved : goal.loop-statement-preserved
loop-statement-preserved c =
    let body = c.args.body.now in
    let i : ℕ = c.loop-statement.statement-index in
    let d = c.statement-item.result in
    let both : (c.if-is_some.count ≡ length (calls_among (take (i + 1) body))) × (c.if-is_some.count ≤ i + 1) = elim c.if-is_some.branch [
      | then-is_some w ↦
          let more = count_next body i d c.loop-statement-test.true c.statement-item.is (sym c.is_some.ensures ∙ w.if-is_some.true) in
          (omega (arith, w.count-is, c.loop-statement.invariant.value, more), omega (arith, w.count-is, c.loop-statement.invariant.within))
      | else-is_some w ↦
          let same = count_stays body i d c.loop-statement-test.true c.statement-item.is (sym c.is_some.ensures ∙ w.if-is_some.false) in
          (omega (arith, w.count-is, c.loop-statement.invariant.value, same), omega (arith, w.count-is, c.loop-statement.invariant.within))
    ] in
    record { value = both.0; within = both.1 }
