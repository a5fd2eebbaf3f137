use Rattle.std.proofs.Common.{Option, sym, ap, ◌∙◌, subst}
use Rattle.std.specs.Prelude.{Some, None}
use Rattle.stil_types.specs.declared.head.StilHead.{StilHead}
use Rattle.head_chains.specs.Asked.{asked_by}
use Rattle.traced_paths.specs.Traced.{ArePathsOf}
use Rattle.design_elements.proofs.SpecElements.{same_length}
use Rattle.check_command.specs.Checks.{check_text}
use Rattle.check_command.proofs.check.check_text.Goals as goal

pub report_of-requires-clause-count : goal.report_of-requires-clause-count
report_of-requires-clause-count c =
    let f = c.in_ok-files.files in
    sym (c.in_ok-files.ensures.files.rules.of_each.read_count ∙ same_length f.netlist f.table f.design 0 f.design.chains)

pub returns-in-Ok-clause-text : goal.returns-in-Ok-clause-text
returns-in-Ok-clause-text c =
    let f = c.in_ok-files.files in
    let checked = c.in_ok-files.ensures.files in
    record {
      cells = f.table;
      macros = f.macros;
      netlist = f.netlist;
      design = f.design;
      read = checked.known.read;
      paths = f.paths.items;
      traced = subst (λ (head : Option StilHead). ArePathsOf f.netlist f.table (asked_by (Some f.design) head) f.paths.items) (sym (checked.head.only None tt)) checked.paths.traced;
      rules = f.rules;
      rules_are = checked.rules;
      same = c.in-Ok.ensures.value ∙ ap (check_text f.design f.rules) checked.ends;
    }
