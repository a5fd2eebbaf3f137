use Rattle.std.proofs.Common.{List, Option, length, sym, ap, ◌∙◌, subst}
use Rattle.std.specs.Prelude.{Some, None}
use Rattle.stil_types.specs.declared.head.StilHead.{StilHead}
use Rattle.def_reader.specs.declared.design.ScanChainText.{ScanChainText}
use Rattle.wire_cost.specs.declared.ends.Ends.{Ends}
use Rattle.head_chains.specs.Asked.{asked_by}
use Rattle.traced_paths.specs.Traced.{ArePathsOf}
use Rattle.design_places.specs.Ends.{ends_of}
use Rattle.design_elements.proofs.SpecElements.{same_length}
use Rattle.bound_command.specs.Bounds.{IsChainsText}
use Rattle.bound_command.proofs.bound.bound_text.Goals as goal

pub text_of-requires-clause-count : goal.text_of-requires-clause-count
text_of-requires-clause-count c =
    let f = c.in_ok-files.files in
    ap length c.as_slice-chains.ensures.value ∙ sym (c.in_ok-files.ensures.files.rules.of_each.read_count ∙ same_length f.netlist f.table f.design 0 f.design.chains)

pub text_of-requires-clause-some : goal.text_of-requires-clause-some
text_of-requires-clause-some c = c.in_ok-files.ensures.files.legal.not_empty

pub returns-in-Ok-clause-text : goal.returns-in-Ok-clause-text
returns-in-Ok-clause-text c =
    let f = c.in_ok-files.files in
    let checked = c.in_ok-files.ensures.files in
    record {
      cells = f.table;
      macros = f.macros;
      netlist = f.netlist;
      design = f.design;
      read = checked.known.read;
      paths = f.paths.items;
      traced = subst (λ (head : Option StilHead). ArePathsOf f.netlist f.table (asked_by (Some f.design) head) f.paths.items) (sym (checked.head.only None tt)) checked.paths.traced;
      rules = f.rules;
      rules_are = checked.rules;
      text_is = subst (λ (chains : List ScanChainText). IsChainsText c.args.rounds chains f.rules (ends_of f.netlist f.table f.macros f.design f.paths.items f.rules) c.in-Ok.text) c.as_slice-chains.ensures.value
          (subst (λ (ends : Ends). IsChainsText c.args.rounds c.as_slice-chains.result.now f.rules ends c.in-Ok.text) checked.ends c.in-Ok.ensures.text);
    }
