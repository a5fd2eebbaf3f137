use Rattle.std.proofs.Common.{List, ℕ, sym, subst}
use Rattle.std.proofs.lemmas.List.{take_all}
use Rattle.def_reader.specs.declared.design.Net.{Net}
use Rattle.def_reader.specs.declared.design.NetPin.{NetPin}
use Rattle.def_reader.specs.Faults.{StandsAgain, connections_of, connection_rows}
use Rattle.list_laws.specs.Leasts.{IsLeast}
use Rattle.def_reader.specs.SeenConnections.{IsSeenPins}
use Rattle.list_laws.proofs.RowsMore.{flat_next}
use Rattle.def_reader.proofs.connections.least_connection.Goals as goal

pub loop-net-init : goal.loop-net-init
loop-net-init c = c.in_ok-seen.ensures.value

pub loop-net-preserved : goal.loop-net-preserved
loop-net-preserved c =
    subst (λ (l : List (NetPin × ℕ)). IsSeenPins c.add_net.new.self l) (sym (flat_next connections_of c.args.nets.now c.loop-net.net-index c.net-item.result c.loop-net-test.true c.net-item.is))
    (c.in_ok-add_net.ensures.value _ c.loop-net.invariant)

pub returns : goal.returns
returns c = record {
  value = subst (λ (l : List Net). IsLeast (StandsAgain (connection_rows l)) c.loop-net.seen.least) (take_all c.loop-net.net-index c.args.nets.now c.loop-net-test.false) c.loop-net.invariant.least;
}
