use Rattle.std.proofs.Common.{rules, ◌≡◌, ap, ◌∙◌}
use Rattle.std.specs.Prelude.{is_none}
use Rattle.def_reader.specs.Designs.{cell_of}
use Rattle.def_reader.specs.Classes.{is_missing, differs, has_other_cell}
use Rattle.def_reader.proofs.NetClasses.{fails_by, fails_whole, none_mapped}
use Rattle.def_reader.proofs.agreement.least_apart.Goals as goal

pub loop-instance-preserved : goal.loop-instance-preserved
loop-instance-preserved c =
    let all = c.args.components.now in
    let rows = c.args.instances.now in
    let i = c.loop-instance.instance-index in
    let row = c.instance-item.result in
    let cell = c.cell_of-cell.ensures.value ∙ ap (cell_of all) c.bytes.ensures.value in
    let none : c.is_none.result ≡ is_none c.cell_of-cell.result = search rules in
    record {
      missing = rw (c.lesser-missing.ensures.value, c.line_if.ensures.value)
          (fails_by (is_missing all) rows i row c.loop-instance.missing c.is_none.result c.loop-instance-test.true c.instance-item.is (none ∙ none_mapped c.cell_of-cell.result ∙ ap is_none cell)
          c.loop-instance.invariant.missing);
      other = rw (c.lesser-other.ensures.value, c.line_if-in-loop-instance.ensures.value)
          (fails_by (has_other_cell all) rows i row c.loop-instance.other c.has_other_cell.result c.loop-instance-test.true c.instance-item.is (c.has_other_cell.ensures.value ∙ ap (differs row.cell) cell)
          c.loop-instance.invariant.other);
    }

pub returns-clause-missing : goal.returns-clause-missing
returns-clause-missing c = fails_whole (is_missing c.args.components.now) c.args.instances.now c.loop-instance.instance-index c.loop-instance.missing c.loop-instance-test.false c.loop-instance.invariant.missing

pub returns-clause-other : goal.returns-clause-other
returns-clause-other c = fails_whole (has_other_cell c.args.components.now) c.args.instances.now c.loop-instance.instance-index c.loop-instance.other c.loop-instance-test.false c.loop-instance.invariant.other
