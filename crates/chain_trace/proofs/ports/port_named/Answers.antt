use Rattle.std.proofs.Common.{length, sym, ◌∙◌, rules, ap, arith}
use Rattle.std.specs.List.{list_any}
use Rattle.std.proofs.lemmas.List.{take_all}
use Rattle.chain_trace.specs.Named.{can_be}
use Rattle.chain_trace.proofs.Named.{is_port, is_named, not_named}
use Rattle.chain_trace.proofs.ports.port_named.Goals as goal

pub returns-then-eq : goal.returns-then-eq
returns-then-eq c = record {
  value = is_named (can_be c.args.end) c.args.netlist.now c.args.name.now c.as_slice-port-items.result.now c.loop-port.port-index _ c.as_slice-port-items.ensures.value (search rules) (search rules) (search rules);
}

pub returns : goal.returns
returns c =
    let n = c.args.netlist.now in
    let i = c.loop-port.port-index in
    let none = ap (list_any (is_port (can_be c.args.end) n.nets c.args.name.now)) (sym (take_all i n.ports (omega (arith, c.loop-port-test.false, ap length c.as_slice-port-items.ensures.value)))) ∙ c.loop-port.invariant in
    record { value = λ net. not_named (can_be c.args.end) n c.args.name.now net none }
