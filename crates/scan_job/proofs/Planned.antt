-- What follows where a plan was made for files and their patterns: the outputs by it, and that no fault was before them.
use Rattle.std.proofs.Common.{◌≡◌, ℕ, List, [], ◌∷◌, ◌++◌, Option, Some, None, refl, sym, ◌∙◌, ap, subst, inl, inr}
use Rattle.std.proofs.lemmas.Option.{same_Some}
use Rattle.base_types.specs.declared.fault.Fault.{Fault}
use Rattle.base_types.specs.FirstFault.{ComesBefore, IsFirstFault}
use Rattle.base_types.proofs.FirstFaults.{itself}
use Rattle.desk_io.specs.declared.outputs.Outputs.{Outputs}
use Rattle.stil_parts.specs.declared.part.PartFault.{PartFault}
use Rattle.stil_reader.specs.Sayings.{Head, Told, after, told_whole}
use Rattle.stil_reader.specs.Patterns.{statements_in}
use Rattle.stil_stream.specs.Streams.{fault_of}
use Rattle.stil_written.specs.Written.{written_says}
use Rattle.design_files.specs.Files.{Texts, with_head}
use Rattle.design_files.specs.Faults.{HoldsInFiles}
use Rattle.declared_chains.specs.Files.{IsHeadText}
use Rattle.declared_chains.specs.Faults.{IsPatternFault}
use Rattle.stil_types.specs.declared.head.StilHead.{StilHead}
use Rattle.stil_head.specs.Heads.{DenotesHead}
use Rattle.stil_head.proofs.Texts.{only_head}
use Rattle.written_meaning.specs.Meaning.{form_of}
use Rattle.written_meaning.specs.Laws.{MeaningLaw}
use Rattle.retargeted_patterns.specs.declared.figures.PatternFigures.{PatternFigures}
use Rattle.retargeted_patterns.specs.Figures.{figures_of}
use Rattle.retargeted_patterns.specs.Progress.{Progress, after_all, FiguresLaw}
use Rattle.reorder_command.specs.declared.patterns.PatternPlan.{PatternPlan}
use Rattle.scan_job.specs.declared.patterns.Made.{Made}
use Rattle.scan_job.specs.declared.commands.patterns.PatternsRequest.{PatternsRequest}
use Rattle.scan_job.specs.Commands.Patterns.{HoldsInRetargeting, Before, OfPatterns, AreRetargeted, IsPatternKind, figures_in}
use Rattle.scan_job.specs.Playing.{IsToldFault}
use Rattle.scan_job.specs.Retargeting.{IsRetargetingFault, IsPlannedFor, IsAllOf, IsFrontOf}
use Rattle.scan_job.specs.PatternPhases.{outputs_of, progress_of, AreOutputsFound}
use Rattle.scan_job.proofs.Played.{head_shows, one_text}
use Rattle.declared_chains.proofs.PatternKinds.{pattern_late}

-- the outputs of a plan, whose STIL text is the written form of all that is said
abbrev pub planned_outputs : Made → PatternPlan → List ℕ → Outputs
planned_outputs written planning stil =
    let told = told_whole planning.head stil in
    record (outputs_of written (figures_in planning told)) { stil = written_says (form_of planning) told.says }

module _ (law : MeaningLaw) (sums : FiguresLaw) (r : PatternsRequest) (t : Texts) (stil : List ℕ) (written : Made) (planning : PatternPlan) (planned : IsPlannedFor r.design.goal t stil written planning) where
  abbrev pub whole : Told
  whole = told_whole planning.head stil

  not_before : (text : List ℕ) (fault : Fault) → IsHeadText stil text → HoldsInFiles (with_head t text) fault → ⊥
  not_before text fault is held = planned.no_fault fault (subst (λ (x : List ℕ). HoldsInFiles (with_head t x) fault) (one_text stil planned.text text planned.head_is is) held)

  -- the patterns' fault is that of what is told beside the plan's head
  met_at : (text : List ℕ) (fault : Fault) → IsHeadText stil text → (met : IsPatternFault stil text fault) → whole.fault ≡ Some met.found
  met_at text fault is met =
      let same = only_head planned.text planning.head met.head planned.denotes (subst (λ (x : List ℕ). DenotesHead x met.head) (one_text stil planned.text text planned.head_is is) met.head_is) in
      ap (λ (h : StilHead). (told_whole h stil).fault) (sym same) ∙ met.says

  -- a fault of the files is one of the patterns
  pub late_fault : (fault : Fault) → IsRetargetingFault t stil fault → IsPatternKind fault.kind
  late_fault fault (inl none) = absurd (head_shows stil planned.text planned.head_is none.0)
  late_fault fault (inr first) = by first.1.holds
    where
      by : HoldsInRetargeting t stil fault → IsPatternKind fault.kind
      by (Before text is held) = absurd (not_before text fault is held)
      by (OfPatterns text is met) = subst (λ (f : Fault). IsPatternKind f.kind) (sym met.is) (pattern_late met.head stil is.len met.found is.ends met.says)

  pub none_planned : whole.fault ≡ None → (fault : Fault) → IsRetargetingFault t stil fault → ⊥
  none_planned sound fault (inl none) = head_shows stil planned.text planned.head_is none.0
  none_planned sound fault (inr first) = by first.1.holds
    where
      by : HoldsInRetargeting t stil fault → ⊥
      by (Before text is held) = not_before text fault is held
      by (OfPatterns text is met) = let both : None ≡ Some met.found = sym sound ∙ met_at text fault is met in absurd cc

  fault_first : (fault : Fault) → IsToldFault whole fault → IsFirstFault (HoldsInRetargeting t stil) fault
  fault_first fault told = record {
    holds = OfPatterns planned.text planned.head_is (record { head = planning.head; head_is = planned.denotes; found = told.found; says = told.comes; is = told.is });
    least = least;
  }
    where
      least : (g : Fault) → HoldsInRetargeting t stil g → ComesBefore g fault → ⊥
      least g (Before text is held) sooner = not_before text g is held
      least g (OfPatterns text is met) sooner =
          let one = same_Some _ _ (sym (met_at text g is met) ∙ told.comes) in
          let same : g ≡ fault = met.is ∙ ap fault_of one ∙ sym told.is in
          itself fault (subst (λ (x : Fault). ComesBefore x fault) same sooner)

  pub fault_planned : (fault : Fault) → IsToldFault whole fault → IsRetargetingFault t stil fault
  fault_planned fault told = inr (head_shows stil planned.text planned.head_is, fault_first fault told)

  -- where the files have no first fault, none is met in what is told
  sound : ((fault : Fault) → IsFirstFault (HoldsInRetargeting t stil) fault → ⊥) → whole.fault ≡ None
  sound none = by whole.fault refl
    where
      by : (o : Option PartFault) → whole.fault ≡ o → whole.fault ≡ None
      by None is = is
      by (Some found) is = absurd (none (fault_of found) (fault_first (fault_of found) (record { found = found; comes = is; is = refl })))

  pub are_planned : AreRetargeted r t stil (planned_outputs written planning stil)
  are_planned = record {
    text = planned.text;
    head_is = planned.head_is;
    figures = written.figures;
    plan = planning;
    made = planned.reordered;
    stil_text = refl;
    sound = sound;
    meaning = law t written.verilog written.def written.figures.nets_cut planning planned.text stil planned.head_is planned.reordered.reordered.made planned.reordered.planned planned.no_fault;
    console = refl;
  }

  pub found_planned : AreOutputsFound r t stil (planned_outputs written planning stil)
  found_planned = record { are = are_planned; no_fault = late_fault }

  -- what was put of the text behind the head

  module _ (text : List ℕ) (told : Told) (comes : whole ≡ after (Head text ∷ []) told) where
    pub sound_is : told.fault ≡ whole.fault
    sound_is = sym (ap (λ (x : Told). x.fault) comes)

    says_is : whole.says ≡ Head text ∷ told.says
    says_is = ap (λ (x : Told). x.says) comes

    written_is : written_says (form_of planning) whole.says ≡ planning.head_text ++ written_says (form_of planning) told.says
    written_is = ap (written_says (form_of planning)) says_is

    statements_are : statements_in whole.says ≡ statements_in told.says
    statements_are = ap statements_in says_is

    pub bytes_are : (bytes : List ℕ) → IsAllOf planning.head_text (progress_of planning) told bytes → bytes ≡ (planned_outputs written planning stil).stil
    bytes_are bytes all = all ∙ sym written_is

    pub front_is : (bytes : List ℕ) → IsFrontOf planning.head_text (progress_of planning) told bytes → (more : List ℕ) × ((planned_outputs written planning stil).stil ≡ bytes ++ more)
    front_is bytes front = (front.0, written_is ∙ front.1)

    pub figures_are : (figures : PatternFigures) → figures ≡ (after_all (statements_in told.says) (progress_of planning)).figures → figures ≡ figures_in planning whole
    figures_are figures is =
        is ∙ ap (λ (p : Progress). p.figures) (sums planning.head planning.map.0 planning.map.1 (statements_in told.says))
        ∙ ap (figures_of planning.map.0 planning.map.1) (sym statements_are)

    pub fault_is : (fault : Fault) → IsToldFault told fault → IsToldFault whole fault
    fault_is fault met = record { found = met.found; comes = sym sound_is ∙ met.comes; is = met.is }
