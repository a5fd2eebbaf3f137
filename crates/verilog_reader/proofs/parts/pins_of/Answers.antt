use Rattle.std.proofs.Common.{◌+◌, drop}
use Rattle.verilog_syntax.specs.declared.statement.Connection.{Connection}
use Rattle.verilog_names.specs.Declarations.{connection_items}
use Rattle.verilog_reader.specs.Numbering.{with_items, IsFineExpression}
use Rattle.verilog_reader.proofs.FoldingLoops.{left_is, at_index, connection_fits, connection_nets, connection_pins}
use Rattle.verilog_reader.proofs.parts.pins_of.Goals as goal

pub pin_of-requires : goal.pin_of-requires
pin_of-requires c =
    let i = c.loop-connection.connection-index in
    let cs = c.args.connections.now in
    let x = c.connection-item.result in
    let all = with_items c.args.nets.now (connection_items cs) in
    connection_fits c.loop-connection.nets all (drop i cs) (drop (i + 1) cs) x (left_is cs i x c.loop-connection-test.true c.connection-item.is) c.loop-connection.invariant.nets
    (at_index (λ (c : Connection). IsFineExpression all c.expression) cs i x c.loop-connection-test.true c.connection-item.is c.requires)

pub loop-connection-preserved : goal.loop-connection-preserved
loop-connection-preserved c =
    let i = c.loop-connection.connection-index in
    let cs = c.args.connections.now in
    let x = c.connection-item.result in
    let all = with_items c.args.nets.now (connection_items cs) in
    let is = left_is cs i x c.loop-connection-test.true c.connection-item.is in
    record {
      nets = connection_nets c.loop-connection.nets all (drop i cs) (drop (i + 1) cs) x is c.loop-connection.invariant.nets c.pin_of.new.nets c.in_ok-pin_of.ensures.ok;
      pins = connection_pins c.loop-connection.nets all (drop i cs) (drop (i + 1) cs) x is c.loop-connection.invariant.nets c.pin_of.new.nets c.loop-connection.pins c.push.new.self _ c.in_ok-pin_of.field-0
          c.in_ok-pin_of.ensures.ok c.in_ok-pin_of.ensures.value c.in_ok-push.ensures.ok c.loop-connection.invariant.pins;
    }
