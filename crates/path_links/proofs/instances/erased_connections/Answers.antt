use Rattle.std.proofs.Common.{rules}
use Rattle.netlist_core.specs.Netlists.{named_pin}
use Rattle.path_links.specs.Erasure.{erased_pin}
use Rattle.path_links.proofs.Copies.{one_more}
use Rattle.path_links.proofs.instances.erased_connections.Goals as goal

pub loop-connection-preserved : goal.loop-connection-preserved
loop-connection-preserved c nets =
    one_more (named_pin nets) (erased_pin c.args.sinks.now c.args.instance.now) c.loop-connection.copies c.push.new.self c.args.connections.now _ c.in_ok-erased_connection.field-0 c.connection-item.result c.connection-item.result
    c.loop-connection.connection-index c.loop-connection-test.true (search rules) (search rules) (c.in_ok-erased_connection.ensures.value nets) (c.loop-connection.invariant nets)
