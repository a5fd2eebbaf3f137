-- Where the files have no fault, what is written by the plan keeps the meaning.
use Rattle.std.proofs.Common.{◌≡◌, ℕ, List, Option, Some, None, sym, ap, ◌∙◌, subst}
use Rattle.base_types.specs.declared.fault.Fault.{Fault}
use Rattle.netlist_core.specs.declared.netlist.Netlist.{Netlist}
use Rattle.netlist_core.specs.Netlists.{NamedNetlist}
use Rattle.cell_table.specs.Cells.{Cells}
use Rattle.lef_pins.specs.Macros.{NamedMacros}
use Rattle.def_reader.specs.declared.design.Design.{Design}
use Rattle.chain_trace.specs.declared.path.Path.{Path}
use Rattle.chain_rules.specs.declared.plan.Plan.{Plan}
use Rattle.chain_rules.specs.declared.unit.Rules.{Rules}
use Rattle.chain_rules.specs.Legality.{IsLegal}
use Rattle.plan_paths.specs.NewPaths.{new_paths}
use Rattle.path_chains.specs.Ranked.{chains_along}
use Rattle.chain_maps.proofs.Along.{same_instances}
use Rattle.stil_types.specs.declared.head.StilHead.{StilHead}
use Rattle.stil_tester.specs.declared.chains.Chains.{Chains}
use Rattle.stil_reader.specs.Sayings.{Told, told_whole}
use Rattle.stil_writer.specs.Loops.{written_with}
use Rattle.stil_written.specs.Written.{Form, written_says}
use Rattle.retarget.specs.Moved.{moved_call}
use Rattle.retargeted_patterns.specs.Texts.{TextsLaw}
use Rattle.head_text.specs.Written.{written_head}
use Rattle.head_writer.specs.Fits.{chains_for, FitLaw}
use Rattle.head_writer.specs.Anew.{KeepsNames, AnewLaw}
use Rattle.design_files.specs.Files.{Texts, with_head}
use Rattle.design_files.specs.Faults.{HoldsInFiles}
use Rattle.net_edit.specs.declared.edits.Edits.{Edits}
use Rattle.declared_chains.specs.Files.{IsHeadText}
use Rattle.reorder_command.specs.declared.patterns.PatternPlan.{PatternPlan}
use Rattle.reorder_command.specs.Reordered.{IsChecked, IsVerilogOf, AreSamePaths}
use Rattle.reorder_command.specs.PatternPlans.{IsPatternPlan, ArePatternsPlanned}
use Rattle.written_meaning.specs.Meaning.{KeepsMeaning, form_of, patterns_in}
use Rattle.written_meaning.specs.Laws.{MeaningLaw}
use Rattle.same_files.proofs.OwnHeads.{own_head, told_is}
use Rattle.written_meaning.proofs.PlannedPaths.{are_planned}
use Rattle.written_meaning.proofs.Meanings.{keeps_meaning}

keeps_names : (verilog : List ℕ) (n : Netlist) (cells : Cells) (d : Design) (paths new : List Path) (edits : Edits) (out : List ℕ) (w : Netlist) → IsVerilogOf verilog n cells d paths new edits out w → KeepsNames n w
keeps_names verilog n cells d paths new edits out w is = record {
  name = ap (λ (x : NamedNetlist). x.module_name) is.erased;
  instances = same_instances n w _ _ is.erased;
}

module _ (texts : TextsLaw) (fit : FitLaw) (anew : AnewLaw) (t : Texts) (text stil : List ℕ) (is_text : IsHeadText stil text)
    (none : (fault : Fault) → HoldsInFiles (with_head t text) fault → ⊥) (plan : PatternPlan) (fine : (told_whole plan.head stil).fault ≡ None) where
  abbrev out_by : StilHead → List ℕ → Chains × Chains → List ℕ
  out_by h front moves = written_says (record { head = λ (x : List ℕ). front; statement = written_with h.chains (moved_call moves.0 moves.1) }) (told_whole h stil).says

  module _ (cells : Cells) (macros : NamedMacros) (n w : Netlist) (d : Design) (paths after : List Path) (rules : Rules) (moved : Plan) (legal : IsLegal rules moved)
      (same : AreSamePaths n w cells (new_paths paths rules moved) after) (keeps : KeepsNames n w) where
    for_head : (head : StilHead) → IsChecked (with_head t text) cells macros n d (Some head) paths rules → IsPatternPlan n cells paths (new_paths paths rules moved) text head plan
        → KeepsMeaning n w cells paths after stil (written_says (form_of plan) (told_whole plan.head stil).says)
    for_head head checked p =
        let own = own_head stil text head is_text checked.head_is in
        let here : (told_whole head stil).fault ≡ None = ap (λ (h : StilHead). (told_whole h stil).fault) (sym p.head_is) ∙ fine in
        let whole = told_is head stil own.end here in
        let sound : (patterns_in head stil).fault ≡ None = sym (ap (λ (x : Told). x.fault) whole) ∙ here in
        let planned = are_planned t text cells macros n d head paths rules moved checked legal none in
        let kept = keeps_meaning texts fit anew text stil head n w cells d paths (new_paths paths rules moved) after own planned p.same_cells p.fits same keeps sound in
        let new = new_paths paths rules moved in
        let front = written_head (chains_for text head n cells paths new) head text in
        let form : Form = record { head = λ (x : List ℕ). front; statement = written_with head.chains (moved_call (chains_along n cells paths) (chains_along n cells new)) } in
        let head_is : plan.head_text ≡ front = p.text_is ∙ ap (λ (l : List ℕ). written_head (chains_for l head n cells paths new) head l) own.own in
        let by_plan : out_by plan.head plan.head_text plan.map ≡ out_by head front (chains_along n cells paths, chains_along n cells new) = λ i. out_by (p.head_is i) (head_is i) (p.chains i) in
        subst (KeepsMeaning n w cells paths after stil) (sym (by_plan ∙ ap (λ (x : Told). written_says form x.says) whole)) kept

    pub for_any : (head : Option StilHead) → IsChecked (with_head t text) cells macros n d head paths rules → ArePatternsPlanned n cells paths (new_paths paths rules moved) (Some text) head (Some plan)
        → KeepsMeaning n w cells paths after stil (written_says (form_of plan) (told_whole plan.head stil).says)
    for_any None checked p = absurd p
    for_any (Some head) checked p = for_head head checked p

pub written_law : TextsLaw → FitLaw → AnewLaw → MeaningLaw
written_law texts fit anew t verilog def nets_cut plan text stil is_text made planned none fine =
    for_any texts fit anew t text stil is_text none plan fine made.cells made.macros made.netlist made.written made.design made.paths made.after made.rules made.plan made.legal made.read_off.same
    (keeps_names t.verilog made.netlist made.cells made.design made.paths (new_paths made.paths made.rules made.plan) made.edits verilog made.written made.verilog_is) made.head made.checked planned
