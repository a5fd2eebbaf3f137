use Rattle.std.proofs.lemmas.Result.{on_ok_weaker}
use Rattle.verilog_reader.proofs.DeclaredPorts.{with_ports, no_ports}
use Rattle.verilog_reader.proofs.fold.push_declared.Goals as goal

pub returns-in-Some : goal.returns-in-Some
returns-in-Some c = record {
  ok = on_ok_weaker c.push_named_ports.result
      (with_ports c.args.nets.now c.args.line c.in-Declare.kind c.in-Declare.range c.args.statement.now c.in-Declare.names c.as_slice.result.now c.in-Some.direction c.args.ports.now
      c.push_named_ports.new.ports c.in-Declare.is c.in-Some.ensures c.as_slice.ensures.value) c.push_named_ports.ensures.ok;
}

pub returns-in_default-direction_of : goal.returns-in_default-direction_of
returns-in_default-direction_of c = record {
  ok = no_ports c.args.nets.now c.args.line c.in-Declare.kind c.in-Declare.range c.args.statement.now c.in-Declare.names c.args.ports.now c.in-Declare.is c.in_default-direction_of.ensures;
}
