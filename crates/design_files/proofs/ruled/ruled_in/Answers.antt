use Rattle.std.proofs.Common.{◌≡◌, ◌<◌, ◌^◌, List, ◌∙◌, sym, ap, subst}
use Rattle.std.specs.Prelude.{Some}
use Rattle.chain_trace.specs.declared.path.Path.{Path}
use Rattle.chain_rules.specs.declared.spec.ChainSpec.{ChainSpec}
use Rattle.chain_rules.specs.declared.spec.PathSpec.{PathSpec}
use Rattle.chain_rules.specs.Stretches.{AreChainSpecs}
use Rattle.head_chains.specs.Asked.{asked_by}
use Rattle.path_numbers.specs.Numbers.{path_specs, step_count}
use Rattle.design_elements.specs.Elements.{chain_specs}
use Rattle.design_files.specs.Laws.{AreChecked}
use Rattle.design_files.proofs.ruled.ruled_in.Goals as goal

pub rules_beside-requires-clause-belong : goal.rules_beside-requires-clause-belong
rules_beside-requires-clause-belong c =
    let f = c.args.files.now in
    let ps = c.args.traced.now.paths.items in
    let same : c.in_ok-specs.specs.items ≡ path_specs f.netlist f.table (Some f.design) ps =
    c.in_ok-specs.ensures.value ∙ ap (path_specs f.netlist f.table (Some f.design)) c.deref.ensures.value in
    let checked : AreChecked f.netlist f.table f.macros f.design ps = record {
      netlist = c.requires.sound.is_netlist;
      design = c.requires.sound.is_sound;
      elements = c.requires.agreed.no_element;
      asked = asked_by (Some f.design) c.args.traced.now.head;
      traced = c.requires.paths.traced;
      entries = c.requires.paths.entries;
      few_paths = c.requires.paths.few;
      few_bits = c.in_ok-check_paths.ensures.inside.few_bits;
      few_steps = subst (λ (specs : List PathSpec). step_count specs < 2 ^ 32) same c.in_ok-specs.ensures.few;
    } in
    subst (λ (specs : List PathSpec). AreChainSpecs specs c.args.traced.now.chains.items) (sym (c.deref-2.ensures.value ∙ same))
    (subst (λ (chains : List ChainSpec). AreChainSpecs (path_specs f.netlist f.table (Some f.design) ps) chains) (sym c.requires.chains) (c.chains_law.ensures.law f.netlist f.table f.macros f.design ps checked))
