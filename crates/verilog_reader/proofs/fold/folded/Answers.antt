use Rattle.std.proofs.Common.{ap, ◌∙◌}
use Rattle.std.proofs.lemmas.List.Elements.{All-same}
use Rattle.verilog_syntax.specs.declared.reading.Placed.{Placed}
use Rattle.verilog_names.specs.Declarations.{declarations}
use Rattle.verilog_reader.specs.Denoted.{header_name, header_line}
use Rattle.verilog_names.specs.NameTables.{bounded}
use Rattle.verilog_reader.specs.Numbering.{numbered_ports, AreListed}
use Rattle.verilog_names.proofs.FirstNames.{bounded_firsts}
use Rattle.verilog_reader.proofs.FoldingPorts.{all_listed, all_fine, folded_is}
use Rattle.verilog_reader.proofs.fold.folded.Goals as goal

pub ports_of-requires : goal.ports_of-requires
ports_of-requires c =
    let nets = c.of-nets.ensures.value ∙ ap bounded c.requires.names ∙ bounded_firsts (declarations c.args.statements) in
    All-same (λ (p : Placed). AreListed c.of-nets.result p.statement) c.as_slice-3.result.now c.args.statements c.as_slice-3.ensures.value (all_listed c.args.statements c.of-nets.result nets)

pub parts_of-requires : goal.parts_of-requires
parts_of-requires c =
    let nets = c.of-nets.ensures.value ∙ ap bounded c.requires.names ∙ bounded_firsts (declarations c.args.statements) in
    all_fine c.args.statements c.of-nets.result nets c.requires.fine

pub returns-clause-value : goal.returns-clause-value
returns-clause-value c =
    let nets = c.of-nets.ensures.value ∙ ap bounded c.requires.names ∙ bounded_firsts (declarations c.args.statements) in
    folded_is c.args.statements c.of-nets.result c.parts_of.new.nets _ _ _ _ _ _ _
    nets c.in_ok-assigns.ensures.ok
    (c.in_ok-module.ensures.value ∙ c.header_name.ensures.value ∙ ap header_name c.as_slice.ensures.value)
    (c.header_line-line.ensures.value ∙ ap header_line c.as_slice-2.ensures.value)
    c.in_ok-names.ensures.value c.count-declared.ensures.value
    (c.in_ok-ports.ensures.value ∙ ap (numbered_ports c.of-nets.result) c.as_slice-3.ensures.value)
    c.in_ok-assigns.ensures.assigns c.in_ok-assigns.ensures.instances
