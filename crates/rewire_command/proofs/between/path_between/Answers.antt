use Rattle.std.proofs.Common.{rules, Err}
use Rattle.std.proofs.lemmas.Result.{err_from_is_err_and}
use Rattle.chain_trace.specs.declared.path.Path.{Path}
use Rattle.rewire_command.proofs.PathRefusals.{no_output, no_input, has_ports, no_path, wrong_port}
use Rattle.rewire_command.proofs.between.path_between.Goals as goal

pub returns-in_default-clause-fault : goal.returns-in_default-clause-fault
returns-in_default-clause-fault c = no_output Path c.args.netlist.now c.args.rewire.now c.bytes.result.now c.of_words.result c.bytes.ensures.value c.in_default.ensures.value c.of_words.ensures.value

pub returns-in_default-input_named-clause-fault : goal.returns-in_default-input_named-clause-fault
returns-in_default-input_named-clause-fault c =
    no_input Path c.args.netlist.now c.args.rewire.now c.bytes-2.result.now c.of_words-in_default-input_named.result c.bytes-2.ensures.value c.in_default-input_named.ensures.value
    c.of_words-in_default-input_named.ensures.value

pub returns-in_err-path-clause-fault : goal.returns-in_err-path-clause-fault
returns-in_err-path-clause-fault c =
    let p = err_from_is_err_and c.from_residual-in_err-path.result c.from_residual-in_err-path.ensures.1 in
    let ports = has_ports c.args.netlist.now c.args.rewire.now c.in-Some.output c.in-Some-input_named.field-0 c.bytes.result.now c.bytes-2.result.now c.bytes.ensures.value c.bytes-2.ensures.value c.in-Some.ensures.value c.in-Some-input_named.ensures.value in
    rw (p.1, p.2) (no_path {X = Path} c.args.netlist.now c.args.rewire.now c.args.table.now c.in-Some.output (Err c.in_err-path.field-0.0) c.requires.table ports c.in_err-path.ensures.fault)

pub returns-then-ne-clause-fault : goal.returns-then-ne-clause-fault
returns-then-ne-clause-fault c =
    let ports = has_ports c.args.netlist.now c.args.rewire.now c.in-Some.output c.in-Some-input_named.field-0 c.bytes.result.now c.bytes-2.result.now c.bytes.ensures.value c.bytes-2.ensures.value c.in-Some.ensures.value c.in-Some-input_named.ensures.value in
    wrong_port Path c.args.netlist.now c.args.rewire.now c.args.table.now c.in-Some.output c.in_ok-path.path c.plain_of.result.now c.bytes-3.result.now c.of_words-then-ne.result c.requires.table ports c.in_ok-path.ensures.path
    (search rules) c.bytes-3.ensures.value (search rules) c.of_words-then-ne.ensures.value
