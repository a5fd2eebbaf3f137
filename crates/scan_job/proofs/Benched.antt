-- What `reorder` says of patterns that are taken whole, where a plan was made for them.
use Rattle.std.proofs.Common.{◌≡◌, ◌≤◌, ℕ, List, [], ◌∷◌, length, take, drop, Option, Some, None, Err, true, inl, inr, ap, sym, subst, ◌∙◌}
use Rattle.std.proofs.lemmas.List.{at_drop_all}
use Rattle.base_types.specs.declared.fault.Fault.{Fault}
use Rattle.base_types.specs.declared.fault.ReadFault.{ReadFault}
use Rattle.base_types.specs.declared.fault.ReadFault.TheVariants as faults
use Rattle.base_types.specs.FirstFault.{IfFault, IsFirstFault}
use Rattle.stil_calls.specs.declared.judging.Judging.TheVariants.{Lengths}
use Rattle.stil_calls.specs.Scans.{bits_of}
use Rattle.stil_calls.specs.Statements.{IsFaultOf}
use Rattle.stil_head.specs.Heads.{DenotesHead}
use Rattle.stil_reader.specs.Sayings.{Head, Told, after, told_whole}
use Rattle.stil_reader.specs.Patterns.{patterns_told, statements_in}
use Rattle.stil_reader.proofs.Whole.{whole_law}
use Rattle.stil_types.specs.declared.head.StilHead.{StilHead}
use Rattle.stil_types.specs.declared.statement.PatternStatement.{PatternStatement}
use Rattle.stil_tester.specs.declared.chains.Chains.{Chains}
use Rattle.stil_tester.specs.Shifting.{bit_counts}
use Rattle.stil_parts.specs.declared.gap.Comment.TheVariants.{Outside}
use Rattle.stil_parts.specs.Heads.{head_end}
use Rattle.same_files.proofs.Sets.{shown}
use Rattle.same_files.proofs.OwnHeads.{IsOwnHead, own_head}
use Rattle.declared_chains.specs.Files.{IsHeadText}
use Rattle.design_files.specs.Files.{Texts, with_head}
use Rattle.design_files.specs.Faults.{HoldsInFiles, IsFilesFault}
use Rattle.written_meaning.specs.Laws.{MeaningLaw}
use Rattle.retargeted_patterns.specs.declared.figures.PatternFigures.{PatternFigures}
use Rattle.retargeted_patterns.specs.Figures.{figures_of}
use Rattle.retargeted_patterns.specs.Progress.{Progress, after_all, at_first, FiguresLaw}
use Rattle.reorder_command.specs.declared.reorder.Reordered.{Reordered}
use Rattle.reorder_command.specs.declared.patterns.PatternPlan.{PatternPlan}
use Rattle.reorder_command.specs.PatternPlans.{IsReorderedWith}
use Rattle.scan_job.specs.declared.patterns.Made.{Made}
use Rattle.scan_job.specs.Commands.Patterns.{HoldsInRetargeting, all_figures_text}
use Rattle.scan_job.specs.Commands.Bench.{IsSaid, full_reorder}
use Rattle.scan_job.specs.Retargeting.{IsRetargetingFault, IsPlannedFor}
use Rattle.scan_job.proofs.Planned.{planned_outputs, are_planned, none_planned, fault_planned}
use Rattle.scan_job.proofs.PlanTaken.{planned_by, first_by}
use Rattle.scan_job.proofs.Played.{head_shows}

-- what was counted once all statements were written
pub counted : FiguresLaw → (head : StilHead) (old new : Chains) (statements : List PatternStatement) (index : ℕ) (now : Progress) → length statements ≤ index
    → after_all (drop index statements) now ≡ after_all statements (at_first head old new) → now.figures ≡ figures_of old new statements
counted law head old new statements index now all more =
    ap (λ (p : Progress). p.figures) (sym (at_drop_all (λ (xs : List PatternStatement). after_all xs now) statements index all) ∙ more ∙ law head old new statements)

-- the head shows that was parted from the bytes of a text
pub head_shows_in : (stil bytes text : List ℕ) (n : ℕ) → bytes ≡ stil → length stil ≤ 67108864 → head_end true Outside 0 bytes ≡ Some n → text ≡ take n bytes → IsHeadText stil text
head_shows_in stil bytes text n same small ends is = shown stil text n small (ap (head_end true Outside 0) (sym same) ∙ ends) (is ∙ ap (take n) same)

-- what was planned for texts, and what holds in none of them
pub planned_with : (t u : Texts) (text : List ℕ) (made : Reordered) (plan : PatternPlan) → u ≡ with_head t text → made.patterns ≡ Some plan
    → IsReorderedWith full_reorder.design.goal u made.verilog made.def made.figures made.patterns → IsReorderedWith full_reorder.design.goal (with_head t text) made.verilog made.def made.figures (Some plan)
planned_with t u text made plan same some reordered =
    subst (λ (x : Texts). IsReorderedWith full_reorder.design.goal x made.verilog made.def made.figures (Some plan)) same
    (subst (λ (o : Option PatternPlan). IsReorderedWith full_reorder.design.goal u made.verilog made.def made.figures o) some reordered)

pub files_refused : (t u : Texts) (stil text : List ℕ) → u ≡ with_head t text → IsHeadText stil text → (read : ReadFault) → IfFault {X = Reordered} (Err read) (IsFilesFault u) → IfFault {X = List ℕ} (Err read) (IsFirstFault (HoldsInRetargeting t stil))
files_refused t u stil text same shows (faults.Fault fault) first = first_by t stil fault text shows (subst (λ (x : Texts). IsFirstFault (HoldsInFiles x) fault) same first)
files_refused t u stil text same shows faults.NoMemory first = tt

module _ (t : Texts) (stil bytes text : List ℕ) (same : bytes ≡ stil) (shows : IsHeadText stil text) (written : Made) (plan : PatternPlan)
    (reordered : IsReorderedWith full_reorder.design.goal (with_head t text) written.verilog written.def written.figures (Some plan)) where
  of_text : DenotesHead text plan.head × (bit_counts plan.map.0 ≡ bits_of plan.head.chains)
  of_text = let r = reordered.reordered.made in planned_by text r.netlist r.cells r.paths _ r.head plan reordered.planned r.checked.head_is

  own : IsOwnHead stil text plan.head
  own = own_head stil text plan.head shows of_text.0

  pub fits : bit_counts plan.map.0 ≡ bits_of plan.head.chains
  fits = of_text.1

  pub denotes : DenotesHead bytes plan.head
  denotes = subst (λ (b : List ℕ). DenotesHead b plan.head) (sym same) own.denotes

  whole_is : told_whole plan.head stil ≡ after (Head (take plan.head.end stil) ∷ []) (patterns_told Lengths plan.head bytes)
  whole_is = whole_law stil plan.head plan.head.end own.end own.denotes ∙ ap (λ (b : List ℕ). after (Head (take plan.head.end stil) ∷ []) (patterns_told Lengths plan.head b)) (sym same)

  module _ (law : MeaningLaw) (sums : FiguresLaw) (u : Texts) (files : u ≡ with_head t text) (none : (fault : Fault) → HoldsInFiles u fault → ⊥) where
    planned : IsPlannedFor full_reorder.design.goal t stil written plan
    planned = record { text = text; head_is = shows; denotes = of_text.0; no_fault = λ fault held. none fault (subst (λ (x : Texts). HoldsInFiles x fault) (sym files) held); reordered = reordered }

    -- the report of this plan
    pub is_said : (figures : PatternFigures) (said : List ℕ) → figures ≡ figures_of plan.map.0 plan.map.1 (statements_in (patterns_told Lengths plan.head bytes).says) → said ≡ all_figures_text written.figures figures → IsSaid t stil said
    is_said figures said are is = record {
      outputs = planned_outputs written plan stil;
      are = are_planned law sums full_reorder t stil written plan planned;
      is = is ∙ ap (all_figures_text written.figures) (are ∙ ap (λ (told : Told). figures_of plan.map.0 plan.map.1 (statements_in told.says)) (sym whole_is));
    }

    pub none_made : (patterns_told Lengths plan.head bytes).fault ≡ None → (fault : Fault) → IsFirstFault (HoldsInRetargeting t stil) fault → ⊥
    none_made sound fault first = none_planned law sums full_reorder t stil written plan planned (ap (λ (told : Told). told.fault) whole_is ∙ sound) fault (inr (head_shows stil text shows, first))

    first_of : (fault : Fault) → IsFaultOf (patterns_told Lengths plan.head bytes).fault fault → IsFirstFault (HoldsInRetargeting t stil) fault
    first_of fault met = by (fault_planned law sums full_reorder t stil written plan planned fault (record { found = met.0; comes = ap (λ (told : Told). told.fault) whole_is ∙ met.1; is = met.2 }))
      where
        by : IsRetargetingFault t stil fault → IsFirstFault (HoldsInRetargeting t stil) fault
        by (inl none) = absurd (head_shows stil text shows none.0)
        by (inr first) = first.1

    pub patterns_refused : (read : ReadFault) → IfFault {X = PatternFigures} (Err read) (IsFaultOf (patterns_told Lengths plan.head bytes).fault) → IfFault {X = List ℕ} (Err read) (IsFirstFault (HoldsInRetargeting t stil))
    patterns_refused (faults.Fault fault) met = first_of fault met
    patterns_refused faults.NoMemory met = tt
