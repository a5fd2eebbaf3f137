use Rattle.std.proofs.lemmas.List.{drop_more, drop_all}
use Rattle.def_layout.proofs.KeptConnections.{kept_more, kept_last}
use Rattle.def_layout.proofs.net.push_kept.Goals as goal

pub loop-connection-preserved : goal.loop-connection-preserved
loop-connection-preserved c =
    kept_more c.args.text.now c.loop-connection.marks.now c.later-marks.result.now _ _ _ c.first_stays.result c.loop-connection.out.items c.push_if.new.out.items _ (drop_more c.args.connections.now c.loop-connection.connection-index _ c.loop-connection-test.true)
    c.first_stays.ensures.value c.later-marks.ensures.value c.in_ok-push_if.ensures.value c.loop-connection.invariant

pub returns : goal.returns
returns c = record {
  value = kept_last c.args.text.now c.loop-connection.marks.now _ c.loop-connection.out.items _ (drop_all c.loop-connection.connection-index c.args.connections.now c.loop-connection-test.false) c.loop-connection.invariant;
}
