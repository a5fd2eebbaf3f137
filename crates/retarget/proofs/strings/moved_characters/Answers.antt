use Rattle.std.proofs.Common.{◌≡◌, ℕ, length, arith, get_or, ap}
use Rattle.retarget.proofs.ExitOrder.{length-exit_cells, length-exit_characters}
use Rattle.retarget.proofs.strings.moved_characters.Goals as goal

pub move_characters-requires-clause-within : goal.move_characters-requires-clause-within
move_characters-requires-clause-within c = λ k l.
    let same : get_or c.as_slice-sources.result.now k 0 ≡ get_or c.args.route.now.sources k 0 = ap (λ ss. get_or ss k 0) c.as_slice-sources.ensures.value in
    omega (
      arith,
      same,
      c.requires.within k (omega (arith, ap length c.as_slice-sources.ensures.value)),
      ap length c.as_slice.ensures.value,
      ap length c.in_ok-before.ensures,
      length-exit_characters c.args.side c.args.old.now c.args.strings.now c.requires.strings,
      length-exit_cells c.args.old.now,
    )
