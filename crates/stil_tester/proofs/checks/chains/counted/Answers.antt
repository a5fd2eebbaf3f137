use Rattle.std.proofs.Common.{◌≡◌, ◌+◌, ℕ, ◌∙◌, arith, get_or, take, rules}
use Rattle.std.specs.Prelude.{nat_eq}
use Rattle.std.proofs.lemmas.List.{get_or_default, length-set, length-take}
use Rattle.std.proofs.lemmas.List.Sums.{count_by-le-length}
use Rattle.stil_tester.proofs.checks.Counts.{counted_more}
use Rattle.stil_tester.proofs.checks.chains.counted.Goals as goal

pub overflow_add-index_mut : goal.overflow_add-index_mut
overflow_add-index_mut c =
    let number : ℕ = get_or c.args.numbers.now c.loop-number.number-index 0 in
    let count : c.index_mut.result.now ≡ get_or c.loop-number.counts.items number 0
    = c.index_mut.ensures.value ∙ get_or_default c.loop-number.counts.items number c.index_mut.result.now 0 (omega (arith, c.loop-number.invariant.long, c.requires c.loop-number.number-index 0 (omega arith))) in
    omega (
      arith,
      count,
      c.loop-number.invariant.each number (c.requires c.loop-number.number-index 0 (omega arith)),
      count_by-le-length (nat_eq number) (take c.loop-number.number-index c.args.numbers.now),
      length-take c.loop-number.number-index c.args.numbers.now,
    )

pub loop-number-preserved : goal.loop-number-preserved
loop-number-preserved c =
    let number : ℕ = get_or c.args.numbers.now c.loop-number.number-index 0 in
    let count : c.index_mut.result.now ≡ get_or c.loop-number.counts.items number 0
    = c.index_mut.ensures.value ∙ get_or_default c.loop-number.counts.items number c.index_mut.result.now 0 (omega (arith, c.loop-number.invariant.long, c.requires c.loop-number.number-index 0 (omega arith))) in
    record {
      long = length-set c.loop-number.counts.items number (c.index_mut.result.now + 1) ∙ c.loop-number.invariant.long;
      each = counted_more c.args.numbers.now c.loop-number.counts.items c.loop-number.number-index c.args.cells c.index_mut.result.now (omega arith) c.loop-number.invariant.long (c.requires c.loop-number.number-index 0 (omega arith)) count c.loop-number.invariant.each;
    }
