-- What planning by a taken head answers, from what the readers answer.
use Rattle.std.proofs.Common.{◌≡◌, ◌≢◌, ◌<◌, ◌≤◌, ℕ, suc, false, List, [], ◌∷◌, Option, Some, None, option_map, IfSome, Result, Ok, Err, refl, sym, ◌∙◌, ap, subst, arith, inl, inr}
use Rattle.std.proofs.lemmas.Option.{same_Some}
use Rattle.base_types.specs.declared.fault.Fault.{Fault}
use Rattle.base_types.specs.declared.fault.ReadFault.{ReadFault}
use Rattle.base_types.specs.declared.fault.ReadFault.TheVariants as faults
use Rattle.base_types.specs.Faults.{number_of}
use Rattle.base_types.specs.FirstFault.{ComesBefore, IsFirstFault, IfFault}
use Rattle.base_types.proofs.FirstFaults.{later}
use Rattle.netlist_core.specs.declared.netlist.Netlist.{Netlist}
use Rattle.cell_table.specs.Cells.{Cells}
use Rattle.chain_trace.specs.declared.path.Path.{Path}
use Rattle.desk_io.specs.declared.slot.Slot.TheVariants.{Stil, OutStil}
use Rattle.desk_io.specs.Desk.{SlotState, SameElsewhere, opened, closed}
use Rattle.desk_io.specs.Causes.{HasFailed, HasRisen}
use Rattle.stil_types.specs.declared.head.StilHead.{StilHead}
use Rattle.stil_head.specs.Heads.{DenotesHead}
use Rattle.stil_calls.specs.Scans.{bits_of}
use Rattle.stil_tester.specs.Shifting.{bit_counts}
use Rattle.stil_reader.specs.Sayings.{Head, Told, after, refusal, told_whole}
use Rattle.stil_stream.specs.Streams.{Streaming, fault_of, fresh}
use Rattle.stil_input.specs.declared.input.StilStop.{StilStop}
use Rattle.stil_input.specs.declared.input.StilStop.TheVariants.{Fault as OfText, Read, NoMemory}
use Rattle.stil_input.specs.Inputs.{Draws, coming, HasDrawn, HasDrawnAndFailed, Says, GivesHead, stop_of}
use Rattle.reorder_command.specs.declared.goal.Goal.{Goal}
use Rattle.design_files.specs.Files.{Texts, with_head, IsHeadIn}
use Rattle.design_files.specs.Faults.{HoldsInFiles, IsFilesFault}
use Rattle.design_files.proofs.Layers.{layered, least_number, rises}
use Rattle.design_files.proofs.LayerKinds.{among}
use Rattle.reorder_command.specs.declared.reorder.Reordered.{Reordered}
use Rattle.reorder_command.specs.declared.patterns.PatternPlan.{PatternPlan}
use Rattle.reorder_command.specs.PatternPlans.{ArePatternsPlanned, IsReorderedWith}
use Rattle.declared_chains.specs.Files.{IsHeadText}
use Rattle.scan_job.specs.declared.commands.patterns.PatternsRequest.{PatternsRequest}
use Rattle.scan_job.specs.declared.patterns.Ready.{Ready}
use Rattle.scan_job.specs.declared.stop.Stop.{Stop}
use Rattle.scan_job.specs.declared.stop.Stop.TheVariants.{NoForm, Refused, InputFailed, OutputFailed, NoMemory as OutOfMemory}
use Rattle.scan_job.specs.Commands.Patterns.{HoldsInRetargeting, Before, OfPatterns, IsPatternKind}
use Rattle.scan_job.specs.Requests.{ReorderPatterns, names_of}
use Rattle.scan_job.specs.TopCall.{Slots}
use Rattle.scan_job.specs.Phases.{HasSaid}
use Rattle.scan_job.specs.Retargeting.{IsFaultBefore, IsRetargetingFault, IsReadyWith, HasPlanned}
use Rattle.scan_job.specs.PatternPhases.{design_of, HasReadPatterns, HasFinishedPatterns}
use Rattle.scan_job.proofs.Played.{any_head, told_if, comes_whole, no_head, head_text_is, head_shows, one_text}
use Rattle.declared_chains.proofs.PatternKinds.{pattern_late}

-- the kinds of the design's faults come before those of patterns

pub files_early : (t : Texts) (fault : Fault) → HoldsInFiles t fault → number_of fault.kind < 80
files_early t fault held =
    let layer = layered t fault held in
    let kind = (among t layer.number fault layer.here).high in
    let n = layer.number in
    let most : least_number (suc n) ≤ 80
    = rises (suc n) (suc (suc (suc (suc (suc (suc (suc (suc (suc (suc (suc (suc (suc (suc n)))))))))))))) (omega arith) in
    omega (arith, kind, most)

-- a fault before the patterns is the first of the files, and of no kind of patterns
module _ (t : Texts) (stil : List ℕ) (fault : Fault) where
  pub first_by : (text : List ℕ) → IsHeadText stil text → IsFirstFault (HoldsInFiles (with_head t text)) fault → IsFirstFault (HoldsInRetargeting t stil) fault
  first_by text shown first = record { holds = Before text shown first.holds; least = least }
    where
      least : (g : Fault) → HoldsInRetargeting t stil g → ComesBefore g fault → ⊥
      least g (Before other is held) sooner = first.least g (subst (λ (x : List ℕ). HoldsInFiles (with_head t x) g) (one_text stil text other shown is) held) sooner
      least g (OfPatterns other is met) sooner =
          let low = files_early (with_head t text) fault first.holds in
          let high = (pattern_late met.head stil is.len met.found is.ends met.says).0 in
          let kind : number_of g.kind ≡ number_of met.found.kind = ap (λ (x : Fault). number_of x.kind) met.is in
          later fault g (omega (arith, low, high, kind)) sooner

  pub before_first : IsFaultBefore t stil fault → IsRetargetingFault t stil fault
  before_first (inl none) = inl none
  before_first (inr (text, shown, first)) = inr (head_shows stil text shown, first_by text shown first)

  pub before_early : IsFaultBefore t stil fault → IsPatternKind fault.kind → ⊥
  before_early (inl none) late =
      let low = late.0 in
      let kind : number_of fault.kind ≡ _ = ap (λ (x : Fault). number_of x.kind) none.1 in
      absurd (omega (arith, low, kind))
  before_early (inr (text, shown, first)) late =
      let low = late.0 in
      let high = files_early (with_head t text) fault first.holds in
      absurd (omega (arith, low, high))

-- where there is a head, patterns are planned for
pub some_planned : (text : List ℕ) (n : Netlist) (cells : Cells) (paths new : List Path) (o : Option StilHead) (patterns : Option PatternPlan) → ArePatternsPlanned n cells paths new (Some text) o patterns → (plan : PatternPlan) × (patterns ≡ Some plan)
some_planned text n cells paths new None None p = absurd p
some_planned text n cells paths new None (Some plan) p = absurd p
some_planned text n cells paths new (Some head) None p = absurd p
some_planned text n cells paths new (Some head) (Some plan) p = (plan, refl)

-- a plan for patterns keeps their head, whose calls fit the chains along the read paths
pub planned_by : (text : List ℕ) (n : Netlist) (cells : Cells) (paths new : List Path) (o : Option StilHead) (plan : PatternPlan) → ArePatternsPlanned n cells paths new (Some text) o (Some plan) → IsHeadIn (Some text) o
    → DenotesHead text plan.head × (bit_counts plan.map.0 ≡ bits_of plan.head.chains)
planned_by text n cells paths new None plan p is = absurd p
planned_by text n cells paths new (Some head) plan p is = (
  subst (λ (h : StilHead). DenotesHead text h) (sym p.head_is) is,
  ap (λ (m : _). bit_counts m.0) p.chains ∙ p.fits ∙ ap (λ (h : StilHead). bits_of h.chains) (sym p.head_is),
)

module _ (goal : Goal) (t : Texts) (s u : Streaming) (a b : SlotState) (is_fresh : s ≡ fresh) where
  -- the head was not handed out
  pub plan_stopped : (stop : StilStop) → GivesHead s u a b (Err stop) → HasPlanned goal t a b (Err stop)
  plan_stopped (OfText fault) gives = (
    (gives.2 any_head).drawn,
    told_if (λ stil. IsFaultBefore t stil fault) a.unread (λ stil told.
        let none = no_head any_head stil gives.0 (subst (λ (o : Option Told). IfSome o (λ w. w ≡ refusal gives.0)) (comes_whole any_head s a stil is_fresh told) (gives.2 any_head).comes) in
        inl (none.0, gives.1 ∙ ap fault_of none.1)),
  )
  plan_stopped Read drawn = drawn
  plan_stopped NoMemory drawn = drawn

  -- or it was

  module _ (text : List ℕ) (says : (head : StilHead) → Says head s u a b (Head text ∷ [])) where
    whole_of : (head : StilHead) (stil : List ℕ) → a.unread ≡ Some stil → Some (told_whole head stil) ≡ option_map (after (Head text ∷ [])) (coming head u b)
    whole_of head stil told = sym (comes_whole head s a stil is_fresh told) ∙ (says head).comes

    shown_by : (head : StilHead) (stil : List ℕ) (w : Option Told) → Some (told_whole head stil) ≡ option_map (after (Head text ∷ [])) w → IsHeadText stil text
    shown_by head stil None comes = absurd cc
    shown_by head stil (Some told) comes = head_text_is head stil text told (same_Some _ _ comes)

    shown : (stil : List ℕ) → a.unread ≡ Some stil → IsHeadText stil text
    shown stil told = shown_by any_head stil (coming any_head u b) (whole_of any_head stil told)

    pub plan_refused : (read : ReadFault) → IfFault {X = Reordered} (Err read) (IsFilesFault (with_head t text)) → HasPlanned goal t a b (Err (stop_of read))
    plan_refused (faults.Fault fault) first = ((says any_head).drawn, told_if (λ stil. IsFaultBefore t stil fault) a.unread (λ stil told. inr (text, shown stil told, first)))
    plan_refused faults.NoMemory first = (says any_head).drawn

    pub plan_ready : (made : Reordered) (ready : Ready) → IsReadyWith made u ready → IsReorderedWith goal (with_head t text) made.verilog made.def made.figures made.patterns
        → ((fault : Fault) → HoldsInFiles (with_head t text) fault → ⊥) → HasPlanned goal t a b (Ok ready)
    plan_ready made ready is reordered no_fault =
        let all : IsReorderedWith goal (with_head t text) ready.made.verilog ready.made.def ready.made.figures (Some ready.plan) = rw (is.verilog, is.def, is.figures, sym is.plan) reordered in
        let r = all.reordered.made in
        let p = planned_by text r.netlist r.cells r.paths _ r.head ready.plan all.planned r.checked.head_is in (
          (says any_head).drawn,
          subst (λ (v : Streaming). Draws v b) (sym is.input) (says any_head).draws,
          subst (λ (v : Streaming). v.in_head ≡ false) (sym is.input) (says any_head).behind,
          p.1,
          told_if _ a.unread (λ stil told. (
            record { text = text; head_is = shown stil told; denotes = p.0; no_fault = no_fault; reordered = all },
            (
              text,
              subst (λ (v : Streaming). Some (told_whole ready.plan.head stil) ≡ option_map (after (Head text ∷ [])) (coming ready.plan.head v b)) (sym is.input)
                  (whole_of ready.plan.head stil told),
            ),
          )),
        )

-- the STIL slot was opened, and the patterns weren't written

module _ (r : PatternsRequest) (texts : List (Option (List ℕ))) (b : Slots) where
  -- it could not be opened
  pub not_opened : (f : Slots) → SameElsewhere Stil b f → HasFailed (b Stil) (f Stil) → HasFinishedPatterns r texts b f (Err InputFailed)
  not_opened f first failed = record {
    elsewhere = λ slot ne other. first slot ne;
    out_faults = ap (λ (s : SlotState). s.faults) (first OutStil (λ e. cc));
    risen = failed.risen;
    begun = inl (first OutStil (λ e. cc));
  }

  module _ (c d : Slots) (first : SameElsewhere Stil b c) (opens : c Stil ≡ opened (b Stil)) (second : SameElsewhere Stil c d) where
    apart : (slot : _) → slot ≢ Stil → d slot ≡ b slot
    apart slot ne = second slot ne ∙ first slot ne

    pub read_failed : HasDrawnAndFailed (c Stil) (d Stil) → HasFinishedPatterns r texts b d (Err InputFailed)
    read_failed failed = record {
      elsewhere = λ slot ne other. apart slot ne;
      out_faults = ap (λ (s : SlotState). s.faults) (apart OutStil (λ e. cc));
      risen = subst (λ (n : ℕ). HasRisen n (d Stil).faults) (ap (λ (s : SlotState). s.faults) opens) failed.1.risen;
      begun = inl (apart OutStil (λ e. cc));
    }

    pub read_ran_out : HasDrawn (c Stil) (d Stil) → HasFinishedPatterns r texts b d (Err OutOfMemory)
    read_ran_out drawn = record {
      elsewhere = λ slot ne other. apart slot ne;
      faults = ap (λ (s : SlotState). s.faults) drawn.1.same ∙ ap (λ (s : SlotState). s.faults) opens;
      out_faults = ap (λ (s : SlotState). s.faults) (apart OutStil (λ e. cc));
      begun = inl (apart OutStil (λ e. cc));
    }

    module _ (drawn : HasDrawn (c Stil) (d Stil)) (e : Slots) (third : SameElsewhere Stil d e) where
      drawn_faults : (d Stil).faults ≡ (b Stil).faults
      drawn_faults = ap (λ (s : SlotState). s.faults) drawn.1.same ∙ ap (λ (s : SlotState). s.faults) opens

      pub close_failed : HasFailed (d Stil) (e Stil) → HasFinishedPatterns r texts b e (Err InputFailed)
      close_failed failed = record {
        elsewhere = λ slot ne other. third slot ne ∙ apart slot ne;
        out_faults = ap (λ (s : SlotState). s.faults) (third OutStil (λ e. cc) ∙ apart OutStil (λ e. cc));
        risen = subst (λ (n : ℕ). HasRisen n (e Stil).faults) drawn_faults failed.risen;
        begun = inl (third OutStil (λ e. cc) ∙ apart OutStil (λ e. cc));
      }

      module _ (closes : e Stil ≡ closed (d Stil)) (fault : Fault) (is : IfSome (c Stil).unread (λ stil. IsFaultBefore (design_of texts) stil fault)) where
        read_closed : HasReadPatterns b e
        read_closed = record {
          elsewhere = λ slot ne other. third slot ne ∙ apart slot ne;
          faults = ap (λ (s : SlotState). s.faults) closes ∙ drawn_faults;
          closed = ap (λ (s : SlotState). s.stage) closes;
        }

        out_same : e OutStil ≡ b OutStil
        out_same = third OutStil (λ e. cc) ∙ apart OutStil (λ e. cc)

        unread_same : (c Stil).unread ≡ (b Stil).unread
        unread_same = ap (λ (s : SlotState). s.unread) opens

        of_bytes : (P : List ℕ → Type 0) → ((stil : List ℕ) → IsFaultBefore (design_of texts) stil fault → P stil) → IfSome (b Stil).unread P
        of_bytes P step = subst (λ (o : Option (List ℕ)). IfSome o P) unread_same (by (c Stil).unread is)
          where
            by : (o : Option (List ℕ)) → IfSome o (λ stil. IsFaultBefore (design_of texts) stil fault) → IfSome o P
            by None held = tt
            by (Some stil) held = step stil held

        first_is : IfSome (b Stil).unread (λ stil. IsRetargetingFault (design_of texts) stil fault)
        first_is = of_bytes (λ stil. IsRetargetingFault (design_of texts) stil fault) (λ stil held. before_first (design_of texts) stil fault held)

        early : IfSome (b Stil).unread (λ stil. IsPatternKind fault.kind → ⊥)
        early = of_bytes (λ stil. IsPatternKind fault.kind → ⊥) (λ stil held. before_early (design_of texts) stil fault held)

        pub said_before : (f : Slots) (ended : Result (Unit {0}) Stop) → HasSaid (names_of (ReorderPatterns r)) fault e f ended → HasFinishedPatterns r texts b f ended
        said_before f (Ok done) said = absurd said
        said_before f (Err NoForm) said = absurd said
        said_before f (Err Refused) said = inl (record { fault = fault; between = e; read = read_closed; same = out_same; is = first_is; early = early; then_did = said })
        said_before f (Err InputFailed) said = absurd said
        said_before f (Err OutputFailed) said = inr (inr (inl (record { fault = fault; between = e; read = read_closed; same = out_same; is = first_is; early = early; then_did = said })))
        said_before f (Err OutOfMemory) same = record {
          elsewhere = λ slot ne other. same slot ∙ third slot ne ∙ apart slot ne;
          faults = ap (λ (s : SlotState). s.faults) (same Stil) ∙ read_closed.faults;
          out_faults = ap (λ (s : SlotState). s.faults) (same OutStil ∙ out_same);
          begun = inl (same OutStil ∙ out_same);
        }
