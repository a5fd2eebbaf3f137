use Rattle.head_writer.specs.NewChains.{is_bit}
use Rattle.head_writer.specs.Noted.{noted}
use Rattle.head_writer.proofs.Firsts.{one_more}
use Rattle.head_writer.proofs.names.first_names.Goals as goal

pub loop-one-preserved : goal.loop-one-preserved
loop-one-preserved c = record {
  first = λ q.
      one_more (λ n. is_bit n.bit q) c.args.named.now c.loop-one.one-index c.one-item.result (noted c.loop-one.names q) (noted c.put_name.new.names q) c.loop-one-test.true c.one-item.is (c.in_ok-put_name.ensures.value q)
      (c.loop-one.invariant.first q);
}
