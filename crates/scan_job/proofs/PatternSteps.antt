-- What `reorder` does with the patterns from where the STIL slot is opened, from what each step does.
use Rattle.std.proofs.Common.{◌≡◌, ◌<◌, ◌⊎◌, ℕ, List, [], ◌∷◌, ◌++◌, Option, Some, None, option_map, IfSome, Result, Ok, Err, sym, ◌∙◌, ap, subst, append_assoc, append-nil, inl, inr}
use Rattle.std.proofs.lemmas.Option.{same_Some}
use Rattle.base_types.specs.declared.fault.Fault.{Fault}
use Rattle.desk_io.specs.declared.slot.Slot.{Slot}
use Rattle.desk_io.specs.declared.slot.Slot.TheVariants.{Stil, OutVerilog, OutDef, OutStil, OutSvg, Console}
use Rattle.desk_io.specs.declared.outputs.Outputs.{Outputs}
use Rattle.desk_io.specs.Desk.{SlotState, SameElsewhere, IsOutput, opened}
use Rattle.desk_io.specs.Causes.{HasRisen}
use Rattle.desk_io.specs.Names.{IsNamed}
use Rattle.desk_io.specs.Outputs.{output_at, turn, HasPutOutputs, HasStoppedPutting}
use Rattle.desk_io.specs.Prefixes.{IsAppended, IsAtEnd, HasPutFile, HoldsPrefix}
use Rattle.stil_reader.specs.Sayings.{Head, Told, after, told_whole}
use Rattle.stil_input.specs.declared.input.StilStop.TheVariants as causes
use Rattle.stil_input.specs.Inputs.{coming, HasDrawn, HasDrawnAndFailed}
use Rattle.written_meaning.specs.Laws.{MeaningLaw}
use Rattle.retargeted_patterns.specs.declared.figures.PatternFigures.{PatternFigures}
use Rattle.retargeted_patterns.specs.Progress.{FiguresLaw}
use Rattle.scan_job.specs.declared.commands.patterns.PatternsRequest.{PatternsRequest}
use Rattle.scan_job.specs.declared.patterns.Ready.{Ready}
use Rattle.scan_job.specs.declared.putting.PutStop.{PutStop}
use Rattle.scan_job.specs.declared.putting.PutStop.TheVariants as stops
use Rattle.scan_job.specs.declared.stop.Stop.{Stop}
use Rattle.scan_job.specs.declared.stop.Stop.TheVariants.{NoForm, Refused, InputFailed, OutputFailed, NoMemory}
use Rattle.scan_job.specs.Commands.Patterns.{AreRetargeted, last_names}
use Rattle.scan_job.specs.TopCall.{Slots, SameEverywhere}
use Rattle.scan_job.specs.Retargeting.{SameBut, IsPlannedFor, ComesBehind, IsPutOpen, IsAllOf, IsFrontOf}
use Rattle.scan_job.specs.PatternPhases.{design_of, outputs_of, progress_of, IsPutClosed, HasReadPatterns, HasClosedBoth, HasPutStil, HasPutAndClosed, HasPutAndFailed, IsEnded, HasWrittenReady, AreOutputsFound, HasWrittenOut, HasFoundWriting, HasFailedAtPatterns, HasRunOutAtPatterns, HasFailedAtOutput, HasFinishedPatterns}
use Rattle.scan_job.proofs.Phases.{all_held}
use Rattle.scan_job.proofs.PlayPhases.{told_since}
use Rattle.scan_job.proofs.Planned.{planned_outputs, are_planned, late_fault, found_planned, none_planned, fault_planned, sound_is, bytes_are, front_is, figures_are, fault_is}

-- from what was told beside a slot to what its bytes say

held_if : (P Q : List ℕ → Type 0) (u : Option (List ℕ)) → ((stil : List ℕ) → P stil → Q stil) → IfSome u P → IfSome u Q
held_if P Q None step held = tt
held_if P Q (Some stil) step held = step stil held

held_told : (P Q : Told → Type 0) (o : Option Told) → ((told : Told) → P told → Q told) → IfSome o P → IfSome o Q
held_told P Q None step held = tt
held_told P Q (Some told) step held = step told held

-- the same where something is told of what comes
told_by : (P Q : Told → Type 0) (o : Option Told) (whole : Told) (text : List ℕ) → Some whole ≡ option_map (after (Head text ∷ [])) o → IfSome o P
    → ((told : Told) → whole ≡ after (Head text ∷ []) told → P told → Q whole) → Q whole
told_by P Q None whole text comes held step = absurd cc
told_by P Q (Some told) whole text comes held step = step told (same_Some _ _ comes) held

-- the outputs that are put behind the patterns don't hang on the STIL text

pub last_outputs : (r : PatternsRequest) (outputs : Outputs) (bytes : List ℕ) (below : ℕ) (a b : Slots) → HasPutOutputs (last_names r) outputs below a b
    → HasPutOutputs (last_names r) (record outputs { stil = bytes }) below a b
last_outputs r outputs bytes below a b put = record { put = at; others = put.others }
  where
    at : (slot : Slot) → IsOutput slot → IsNamed (last_names r) slot → turn slot < below → HasPutFile (output_at (record outputs { stil = bytes }) slot) (a slot) (b slot)
    at OutVerilog output named lt = put.put OutVerilog output named lt
    at OutDef output named lt = put.put OutDef output named lt
    at OutSvg output named lt = put.put OutSvg output named lt
    at Console output named lt = put.put Console output named lt
    at OutStil output named lt = absurd cc
    at slot output named lt = absurd output

pub last_stopped : (r : PatternsRequest) (outputs : Outputs) (bytes : List ℕ) (a b : Slots) → HasStoppedPutting (last_names r) outputs a b → HasStoppedPutting (last_names r) (record outputs { stil = bytes }) a b
last_stopped r outputs bytes a b s = record {
  slot = s.slot;
  output = s.output;
  named = s.named;
  between = s.between;
  unread = s.unread;
  before = last_outputs r outputs bytes (turn s.slot) a s.between s.before;
  elsewhere = s.elsewhere;
  prefix = at s.slot s.output s.named s.prefix;
  risen = s.risen;
}
  where
    at : (slot : Slot) → IsOutput slot → IsNamed (last_names r) slot → HoldsPrefix (output_at outputs slot) (s.between slot) (b slot) → HoldsPrefix (output_at (record outputs { stil = bytes }) slot) (s.between slot) (b slot)
    at OutVerilog output named held = held
    at OutDef output named held = held
    at OutSvg output named held = held
    at Console output named held = held
    at OutStil output named held = absurd cc
    at slot output named held = absurd output

-- the STIL slot was opened, the head was taken and all was planned; then the patterns were written

module _ (law : MeaningLaw) (sums : FiguresLaw) (r : PatternsRequest) (texts : List (Option (List ℕ))) (ready : Ready) (b c d : Slots)
    (first : SameElsewhere Stil b c) (opens : c Stil ≡ opened (b Stil)) (second : SameElsewhere Stil c d) (drawn : HasDrawn (c Stil) (d Stil))
    (is : IfSome (c Stil).unread (λ stil. IsPlannedFor r.design.goal (design_of texts) stil ready.made ready.plan × ComesBehind stil ready.plan ready.input (d Stil))) where
  abbrev coming_on : Option Told
  coming_on = coming ready.plan.head ready.input (d Stil)

  -- what is told of what comes and what was planned hold of the bytes of the slot
  said_of : (P : Told → Type 0) (Q : List ℕ → Type 0) → IfSome coming_on P
      → ((stil : List ℕ) → IsPlannedFor r.design.goal (design_of texts) stil ready.made ready.plan → (text : List ℕ) (told : Told) → told_whole ready.plan.head stil ≡ after (Head text ∷ []) told → P told → Q stil)
      → IfSome (b Stil).unread Q
  said_of P Q held step =
      told_since b c first opens Q
      (held_if (λ stil. IsPlannedFor r.design.goal (design_of texts) stil ready.made ready.plan × ComesBehind stil ready.plan ready.input (d Stil)) Q (c Stil).unread
      (λ stil both. told_by P (λ whole. Q stil) coming_on (told_whole ready.plan.head stil) both.1.0 both.1.1 held (λ told comes p. step stil both.0 both.1.0 told comes p)) is)

  out_same : d OutStil ≡ b OutStil
  out_same = second OutStil (λ e. cc) ∙ first OutStil (λ e. cc)

  since_first : (m : Slots) → SameBut Stil OutStil d m → SameBut Stil OutStil b m
  since_first m third slot ns other = third slot ns other ∙ second slot ns ∙ first slot ns

  taken_faults : (m : SlotState) → HasDrawn (d Stil) m → m.faults ≡ (b Stil).faults
  taken_faults m more = ap (λ (s : SlotState). s.faults) more.1.same ∙ ap (λ (s : SlotState). s.faults) drawn.1.same ∙ ap (λ (s : SlotState). s.faults) opens

  risen_taken : (m : SlotState) → HasDrawnAndFailed (d Stil) m → HasRisen (b Stil).faults m.faults
  risen_taken m failed =
      subst (λ (n : ℕ). HasRisen n m.faults) (ap (λ (s : SlotState). s.faults) drawn.1.same ∙ ap (λ (s : SlotState). s.faults) opens) failed.1.risen

  -- a front of the text holds at the output
  front_held : (bytes : List ℕ) (new : SlotState) → HoldsPrefix bytes (d OutStil) new → IfSome coming_on (λ told. IsFrontOf ready.plan.head_text (progress_of ready.plan) told bytes)
      → IfSome (b Stil).unread (λ stil. (outputs : Outputs) × AreOutputsFound r (design_of texts) stil outputs × HoldsPrefix outputs.stil (b OutStil) new)
  front_held bytes new held front =
      said_of (λ told. IsFrontOf ready.plan.head_text (progress_of ready.plan) told bytes) _ front (λ stil planned text told comes some.
      let rest = front_is law sums r (design_of texts) stil ready.made ready.plan planned text told comes bytes some in
      (planned_outputs ready.made ready.plan stil, found_planned law sums r (design_of texts) stil ready.made ready.plan planned, longer stil rest.0 rest.1))
    where
      longer : (stil : List ℕ) (more : List ℕ) → (planned_outputs ready.made ready.plan stil).stil ≡ bytes ++ more → HoldsPrefix (planned_outputs ready.made ready.plan stil).stil (b OutStil) new
      longer stil more is = record {
        front = held.front;
        rest = held.rest ++ more;
        prefix = is ∙ ap (λ (l : List ℕ). l ++ more) held.prefix ∙ append_assoc held.front held.rest more;
        appended = subst (λ (s : SlotState). IsAppended held.front s new) out_same held.appended;
      }

  all_front : (told : Told) (bytes : List ℕ) → IsAllOf ready.plan.head_text (progress_of ready.plan) told bytes → IsFrontOf ready.plan.head_text (progress_of ready.plan) told bytes
  all_front told bytes all = ([], sym all ∙ sym (append-nil bytes))

  open_held : (bytes : List ℕ) (new : SlotState) → IsPutOpen bytes (d OutStil) new → HoldsPrefix bytes (d OutStil) new
  open_held bytes new put = all_held bytes (d OutStil) new put.appended

  -- the patterns were written to their end or their fault: a front at least
  ended_front : (m : Slots) (result : Result PatternFigures PutStop) → IsEnded result → HasPutStil ready result d m
      → (bytes : List ℕ) × IsPutOpen bytes (d OutStil) (m OutStil) × HasDrawn (d Stil) (m Stil) × IfSome coming_on (λ told. IsFrontOf ready.plan.head_text (progress_of ready.plan) told bytes)
  ended_front m (Ok figures) ended p =
      let (bytes, put, more, last, told) = p.put in
      (bytes, put, more, held_told _ _ coming_on (λ w q. all_front w bytes q.1) told)
  ended_front m (Err (stops.Input (causes.Fault fault))) ended p =
      let (bytes, put, more, told) = p.put in
      (bytes, put, more, held_told _ _ coming_on (λ w q. all_front w bytes q.1) told)
  ended_front m (Err (stops.Input causes.Read)) ended p = absurd ended
  ended_front m (Err (stops.Input causes.NoMemory)) ended p = absurd ended
  ended_front m (Err stops.Output) ended p = absurd ended

  -- both slots are closed behind them
  read_closed : (m e : Slots) → SameBut Stil OutStil d m → HasDrawn (d Stil) (m Stil) → HasClosedBoth m e (Ok tt) → HasReadPatterns b e
  read_closed m e third more shut = record {
    elsewhere = λ slot ns other. shut.0 slot ns other ∙ since_first m third slot ns other;
    faults = ap (λ (s : SlotState). s.faults) shut.1 ∙ taken_faults (m Stil) more;
    closed = ap (λ (s : SlotState). s.stage) shut.1;
  }

  put_closed : (m e : Slots) (bytes : List ℕ) → IsPutOpen bytes (d OutStil) (m OutStil) → HasClosedBoth m e (Ok tt) → IsPutClosed bytes (b OutStil) (e OutStil)
  put_closed m e bytes put shut = record {
    appended = ap (λ (s : SlotState). s.written) shut.2 ∙ subst (λ (s : SlotState). IsAppended bytes s (m OutStil)) out_same put.appended;
    faults = ap (λ (s : SlotState). s.faults) shut.2 ∙ put.faults ∙ ap (λ (s : SlotState). s.faults) out_same;
    closed = ap (λ (s : SlotState). s.stage) shut.2;
  }

  -- all was written
  written_out : (patterns : PatternFigures) (e : Slots) (did : Outputs → Slots → Type 0) → HasPutAndClosed ready (Ok patterns) d e
      → ((bytes : List ℕ) → did (record (outputs_of ready.made patterns) { stil = bytes }) e) → HasWrittenOut r texts b did
  written_out patterns e did put then_did =
      let (bytes, out, more, last, told) = put.put.put in
      record {
        outputs = record (outputs_of ready.made patterns) { stil = bytes };
        between = e;
        read = read_closed put.between e put.put.elsewhere more put.closed_both;
        at_end = subst (λ (s : SlotState). IsAtEnd s) (sym put.closed_both.1) last;
        put = put_closed put.between e bytes out put.closed_both;
        is = said_of _ _ told (λ stil planned text whole comes p.
            let same : record (outputs_of ready.made patterns) { stil = bytes } ≡ planned_outputs ready.made ready.plan stil
            = ap (λ (l : List ℕ). record (outputs_of ready.made patterns) { stil = l }) (bytes_are law sums r (design_of texts) stil ready.made ready.plan planned text whole comes bytes p.1)
            ∙ ap (λ (f : PatternFigures). record (outputs_of ready.made f) { stil = (planned_outputs ready.made ready.plan stil).stil }) (figures_are law sums r (design_of texts) stil ready.made ready.plan planned text whole comes patterns p.2) in (
              subst (λ (outputs : Outputs). AreRetargeted r (design_of texts) stil outputs) (sym same) (are_planned law sums r (design_of texts) stil ready.made ready.plan planned),
              none_planned law sums r (design_of texts) stil ready.made ready.plan planned (sym (sound_is law sums r (design_of texts) stil ready.made ready.plan planned text whole comes) ∙ p.0),
            ));
        then_did = then_did bytes;
      }

  -- the patterns' fault was found
  found_writing : (fault : Fault) (e : Slots) (did : Fault → Slots → Type 0) → HasPutAndClosed ready (Err (stops.Input (causes.Fault fault))) d e → did fault e → HasFoundWriting r texts b did
  found_writing fault e did put then_did =
      let (bytes, out, more, told) = put.put.put in
      record {
        fault = fault;
        between = e;
        bytes = bytes;
        read = read_closed put.between e put.put.elsewhere more put.closed_both;
        put = put_closed put.between e bytes out put.closed_both;
        is = said_of _ _ told (λ stil planned text whole comes p.
            let met = fault_planned law sums r (design_of texts) stil ready.made ready.plan planned fault (fault_is law sums r (design_of texts) stil ready.made ready.plan planned text whole comes fault p.0) in (
              met,
              late_fault law sums r (design_of texts) stil ready.made ready.plan planned fault met,
              record {
                outputs = planned_outputs ready.made ready.plan stil;
                are = are_planned law sums r (design_of texts) stil ready.made ready.plan planned;
                is = bytes_are law sums r (design_of texts) stil ready.made ready.plan planned text whole comes bytes p.1;
              },
            ));
        then_did = then_did;
      }

  -- a call failed, or memory ran out

  input_stopped : (f : Slots) → HasPutStil ready (Err (stops.Input causes.Read)) d f ⊎ HasPutAndFailed ready InputFailed d f → HasFailedAtPatterns r texts b f
  input_stopped f (inl p) =
      let (bytes, out, failed, front) = p.put in
      record {
        elsewhere = since_first f p.elsewhere;
        out_faults = out.faults ∙ ap (λ (s : SlotState). s.faults) out_same;
        risen = risen_taken (f Stil) failed;
        begun = inr (front_held bytes (f OutStil) (open_held bytes (f OutStil) out) front);
      }
  input_stopped f (inr p) =
      let (bytes, out, more, front) = ended_front p.between p.result p.ends p.put in
      record {
        elsewhere = λ slot ns other. p.failed.0 slot ns ∙ since_first p.between p.put.elsewhere slot ns other;
        out_faults = ap (λ (s : SlotState). s.faults) (p.failed.0 OutStil (λ e. cc)) ∙ out.faults ∙ ap (λ (s : SlotState). s.faults) out_same;
        risen = subst (λ (n : ℕ). HasRisen n (f Stil).faults) (taken_faults (p.between Stil) more) p.failed.1.risen;
        begun = inr (subst (λ (s : SlotState). IfSome (b Stil).unread (λ stil. (outputs : Outputs) × AreOutputsFound r (design_of texts) stil outputs × HoldsPrefix outputs.stil (b OutStil) s))
            (sym (p.failed.0 OutStil (λ e. cc))) (front_held bytes (p.between OutStil) (open_held bytes (p.between OutStil) out) front));
      }

  output_stopped : (f : Slots) → HasPutStil ready (Err stops.Output) d f ⊎ HasPutAndFailed ready OutputFailed d f → HasFailedAtOutput r texts b f
  output_stopped f (inl p) =
      let (bytes, failed, more, front) = p.put in
      record {
        elsewhere = since_first f p.elsewhere;
        faults = taken_faults (f Stil) more;
        risen = subst (λ (s : SlotState). HasRisen s.faults (f OutStil).faults) out_same failed.risen;
        begun = inr (front_held bytes (f OutStil) failed.prefix front);
      }
  output_stopped f (inr p) =
      let (bytes, out, more, front) = ended_front p.between p.result p.ends p.put in
      let same_written : (f OutStil).written ≡ (p.between OutStil).written = ap (λ (s : SlotState). s.written) p.failed.2.same in
      record {
        elsewhere = λ slot ns other. p.failed.0 slot ns other ∙ since_first p.between p.put.elsewhere slot ns other;
        faults = ap (λ (s : SlotState). s.faults) p.failed.1 ∙ taken_faults (p.between Stil) more;
        risen = subst (λ (n : ℕ). HasRisen n (f OutStil).faults) (out.faults ∙ ap (λ (s : SlotState). s.faults) out_same) p.failed.2.risen;
        begun = inr (front_held bytes (f OutStil) (all_held bytes (d OutStil) (f OutStil) (same_written ∙ out.appended)) front);
      }

  ran_out_writing : (f : Slots) → HasPutStil ready (Err (stops.Input causes.NoMemory)) d f → HasRunOutAtPatterns r texts b f
  ran_out_writing f p =
      let (bytes, out, more, front) = p.put in
      record {
        elsewhere = since_first f p.elsewhere;
        faults = taken_faults (f Stil) more;
        out_faults = out.faults ∙ ap (λ (s : SlotState). s.faults) out_same;
        begun = inr (front_held bytes (f OutStil) (open_held bytes (f OutStil) out) front);
      }

  ran_out_behind : (result : Result PatternFigures PutStop) → IsEnded result → (e f : Slots) → HasPutAndClosed ready result d e → SameEverywhere e f → HasRunOutAtPatterns r texts b f
  ran_out_behind result ended e f put same =
      let (bytes, out, more, front) = ended_front put.between result ended put.put in
      let read = read_closed put.between e put.put.elsewhere more put.closed_both in
      let shut = put_closed put.between e bytes out put.closed_both in
      let written : (f OutStil).written ≡ (put.between OutStil).written = ap (λ (s : SlotState). s.written) (same OutStil ∙ put.closed_both.2) in
      record {
        elsewhere = λ slot ns other. same slot ∙ read.elsewhere slot ns other;
        faults = ap (λ (s : SlotState). s.faults) (same Stil) ∙ read.faults;
        out_faults = ap (λ (s : SlotState). s.faults) (same OutStil) ∙ shut.faults;
        begun = inr (front_held bytes (f OutStil) (all_held bytes (d OutStil) (f OutStil) (written ∙ out.appended)) front);
      }

  pub written_finished : (f : Slots) (ended : Result (Unit {0}) Stop) → HasWrittenReady r ready d f ended → HasFinishedPatterns r texts b f ended
  written_finished f (Ok done) (patterns, e, put, others) = written_out patterns e _ put (λ bytes. last_outputs r (outputs_of ready.made patterns) bytes 5 e f others)
  written_finished f (Err NoForm) w = absurd w
  written_finished f (Err Refused) (fault, e, put, line) = inr (found_writing fault e _ put line)
  written_finished f (Err InputFailed) w = input_stopped f w
  written_finished f (Err OutputFailed) (inl p) = inl (output_stopped f (inl p))
  written_finished f (Err OutputFailed) (inr (inl p)) = inl (output_stopped f (inr p))
  written_finished f (Err OutputFailed) (inr (inr (inl (patterns, e, put, others)))) =
      inr (inl (written_out patterns e _ put (λ bytes. last_stopped r (outputs_of ready.made patterns) bytes e f others)))
  written_finished f (Err OutputFailed) (inr (inr (inr (fault, e, put, line)))) = inr (inr (inr (found_writing fault e _ put line)))
  written_finished f (Err NoMemory) (inl p) = ran_out_writing f p
  written_finished f (Err NoMemory) (inr (result, ends, e, put, same)) = ran_out_behind result ends e f put same
