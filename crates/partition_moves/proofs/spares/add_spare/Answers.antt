use Rattle.std.proofs.Common.{length, ap, arith, sym}
use Rattle.chain_rules.proofs.Moved.{rule_part}
use Rattle.partition_moves.proofs.Spared.{spares_more, spares_past}
use Rattle.partition_moves.proofs.spares.add_spare.Goals as goal

pub returns-then-part-spares : goal.returns-then-part-spares
returns-then-part-spares c =
    let own = rule_part (λ r. r.partition) c.as_slice.result.now c.args.rules.now c.args.c c.as_slice.ensures.value in
    record { after = spares_past c.args.rules.now c.args.plan.now c.args.spares.now c.args.c c.requires.before c.requires.chain (omega (arith, own, c.if-part-spares.true, c.requires.before.count)) }

pub returns : goal.returns
returns c =
    let own = rule_part (λ r. r.partition) c.as_slice.result.now c.args.rules.now c.args.c c.as_slice.ensures.value in
    record {
      after = spares_more c.args.rules.now c.args.plan.now c.args.spares.now c.args.c _ _ c.requires.before c.requires.chain (sym own) (omega (arith, c.if-part-spares.false, c.requires.before.count))
          (omega (arith, c.min.ensures, c.saturating_sub-more.ensures, ap length c.chain.ensures.value, ap length c.as_slice-units.ensures.value));
    }
