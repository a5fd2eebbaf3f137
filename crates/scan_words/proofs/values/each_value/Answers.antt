use Rattle.std.proofs.Common.{◌≡◌, ◌+◌, List, drop, subst, sym, refl}
use Rattle.scan_words.specs.Command.{raw_of}
use Rattle.scan_words.specs.Form.{Text}
use Rattle.scan_words.specs.Table.{each_value}
use Rattle.scan_words.proofs.ValueLoops.{with_front, value_more, value_lacks, values_end}
use Rattle.scan_words.proofs.values.each_value.Goals as goal

pub returns-in-None : goal.returns-in-None
returns-in-None c = sym (value_lacks (raw_of c.args.matches.now) c.args.table.now c.loop-option.option-index _ _ c.loop-option.values _ c.loop-option-test.true refl c.loop-option.invariant (sym c.in-None.ensures))

pub loop-option-preserved : goal.loop-option-preserved
loop-option-preserved c =
    subst (λ (front : List Text). with_front front (each_value (raw_of c.args.matches.now) (drop (c.loop-option.option-index + 1) c.args.table.now)) ≡ each_value (raw_of c.args.matches.now) c.args.table.now)
    (sym c.in_ok-push_value-in-Some.ensures)
    (value_more (raw_of c.args.matches.now) c.args.table.now c.loop-option.option-index _ _ c.loop-option.values _ c.loop-option-test.true refl c.loop-option.invariant _ (sym c.in-Some.ensures))

pub returns : goal.returns
returns c = sym (values_end (raw_of c.args.matches.now) c.args.table.now c.loop-option.option-index c.loop-option.values _ c.loop-option-test.false c.loop-option.invariant)
