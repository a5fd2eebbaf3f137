-- The steps by which patterns are written, on the slots of a desk: the STIL slot is read, and then its output is written.
use Rattle.std.proofs.Common.{◌≡◌, inl, inr, ℕ, false, List, [], ◌∷◌, ◌++◌, map, Option, Some, None, Result, Ok, Err, refl, sym, ◌∙◌, ap, subst, append-nil}
use Rattle.base_types.specs.declared.fault.Fault.{Fault}
use Rattle.desk_io.specs.declared.slot.Slot.TheVariants.{Stil, OutStil}
use Rattle.desk_io.specs.Desk.{SlotState, IsOpen, SameElsewhere, opened}
use Rattle.desk_io.specs.Causes.{HasFailed}
use Rattle.desk_io.specs.Prefixes.{HasPut, HasPutAndFailed}
use Rattle.stil_reader.specs.Sayings.{Saying, GapByte, Stated, named}
use Rattle.stil_reader.specs.Patterns.{statements_in}
use Rattle.stil_types.specs.declared.head.StilHead.{StilHead}
use Rattle.stil_types.specs.declared.statement.PatternStatement.{PatternStatement}
use Rattle.stil_stream.specs.Streams.{Streaming}
use Rattle.stil_input.specs.declared.input.StilStop.{StilStop}
use Rattle.stil_input.specs.declared.input.StilStop.TheVariants.{Fault as OfText, Read, NoMemory}
use Rattle.stil_input.specs.Inputs.{Draws, HasDrawn, Says, Gives, HasEnded}
use Rattle.stil_written.specs.Written.{Form, written_says}
use Rattle.stil_writer.specs.Loops.{written_with}
use Rattle.retarget.specs.Moved.{moved_call}
use Rattle.retargeted_patterns.specs.declared.figures.PatternFigures.{PatternFigures}
use Rattle.retargeted_patterns.specs.Progress.{Progress, after_all}
use Rattle.scan_job.specs.declared.putting.PutStop.{PutStop}
use Rattle.scan_job.specs.declared.putting.PutStop.TheVariants as stops
use Rattle.scan_job.specs.declared.commands.patterns.PatternsRequest.{PatternsRequest}
use Rattle.scan_job.specs.declared.patterns.Ready.{Ready}
use Rattle.scan_job.specs.declared.stop.Stop.{Stop}
use Rattle.scan_job.specs.declared.stop.Stop.TheVariants.{NoForm, Refused, InputFailed, OutputFailed, NoMemory as OutOfMemory}
use Rattle.scan_job.specs.Commands.Patterns.{last_names}
use Rattle.scan_job.specs.Requests.{ReorderPatterns, names_of}
use Rattle.scan_job.specs.Phases.{HasSaid}
use Rattle.scan_job.specs.PatternPhases.{outputs_of, HasClosedBoth, HasPutStil, HasPutOthers, HasWrittenReady}
use Rattle.scan_job.specs.TopCall.{Slots}
use Rattle.scan_job.specs.Retargeting.{SameBut, form_by, HasPutStated, HasPutOn}
use Rattle.scan_job.proofs.Retargeted.{HasWrittenSo, gap_none, written_none, written_more, output_failed, all_written, ran_out, met_stop, head_failed, open_failed, put_opened}

-- a gap is written as it is, and says no statement
pub gap_bytes : (form : Form) (text : List ℕ) (name : Option (List ℕ)) → text ≡ written_says form (map GapByte text ++ named name)
gap_bytes form [] None = refl
gap_bytes form [] (Some name) = refl
gap_bytes form (b ∷ bs) name = ap (λ (l : List ℕ). b ∷ l) (gap_bytes form bs name)

pub gap_progress : (text : List ℕ) (name : Option (List ℕ)) (q : Progress) → q ≡ after_all (statements_in (map GapByte text ++ named name)) q
gap_progress text name q = sym (ap (λ (ss : List PatternStatement). after_all ss q) (gap_none text name))

-- so much was written between two states of all slots
abbrev pub AreWrittenSo : List ℕ → Progress → Progress → Streaming → Streaming → Slots → Slots → Type 0
AreWrittenSo front p q s t a m = HasWrittenSo front p q s t (a Stil) (m Stil) (a OutStil) (m OutStil)

-- what all slots hold where writing ended
abbrev pub ArePutOn : List ℕ → Progress → Streaming → Slots → Slots → Result PatternFigures PutStop → Type 0
ArePutOn front p s a m result = HasPutOn front p s (a Stil) (m Stil) (a OutStil) (m OutStil) result

pub same_then : (a m k : Slots) → SameBut Stil OutStil a m → SameElsewhere Stil m k → SameBut Stil OutStil a k
same_then a m k first second slot ns other = second slot ns ∙ first slot ns other

pub same_put : (a k l : Slots) → SameBut Stil OutStil a k → SameElsewhere OutStil k l → SameBut Stil OutStil a l
same_put a k l first second slot ns other = second slot other ∙ first slot ns other

-- the new head

module _ (front : List ℕ) (p : Progress) (s : Streaming) (a m : Slots) (put_elsewhere : SameElsewhere OutStil a m) where
  stil_same : m Stil ≡ a Stil
  stil_same = put_elsewhere Stil (λ e. cc)

  pub begun : Draws s (a Stil) → s.in_head ≡ false → IsOpen (a OutStil) → HasPut front (a OutStil) (m OutStil) → AreWrittenSo front p p s s a m
  begun draws behind open_now put =
      subst (λ (x : SlotState). HasWrittenSo front p p s s (a Stil) x (a OutStil) (m OutStil)) (sym stil_same) (written_none front p s (a Stil) (a OutStil) (m OutStil) draws behind open_now put)

  pub not_begun : IsOpen (a OutStil) → HasPutAndFailed front (a OutStil) (m OutStil) → ArePutOn front p s a m (Err stops.Output)
  not_begun open_now failed =
      subst (λ (x : SlotState). HasPutOn front p s (a Stil) x (a OutStil) (m OutStil) (Err stops.Output)) (sym stil_same) (head_failed front p s (a Stil) (a OutStil) (m OutStil) open_now failed)

-- and what comes behind it

module _ (front : List ℕ) (p q : Progress) (s t : Streaming) (a m : Slots) (so : AreWrittenSo front p q s t a m) (u : Streaming) (k : Slots) (drawn_elsewhere : SameElsewhere Stil m k) where
  out_same : k OutStil ≡ m OutStil
  out_same = drawn_elsewhere OutStil (λ e. cc)

  at_out : (result : Result PatternFigures PutStop) → HasPutOn front p s (a Stil) (k Stil) (a OutStil) (m OutStil) result → ArePutOn front p s a k result
  at_out result put = subst (λ (x : SlotState). HasPutOn front p s (a Stil) (k Stil) (a OutStil) x result) (sym out_same) put

  pub stopped_at : (stop : StilStop) (head : StilHead) → head ≡ q.head → Gives head t u (m Stil) (k Stil) (Err stop) → ArePutOn front p s a k (Err (stops.Input stop))
  stopped_at stop head same gives =
      at_out (Err (stops.Input stop)) (met_stop front p q s t (a Stil) (m Stil) (a OutStil) (m OutStil) so u (k Stil) stop (subst (λ (h : StilHead). Gives h t u (m Stil) (k Stil) (Err stop)) same gives))

  pub ran_out_at : HasDrawn (m Stil) (k Stil) → ArePutOn front p s a k (Err (stops.Input NoMemory))
  ran_out_at drawn = at_out (Err (stops.Input NoMemory)) (ran_out front p q s t (a Stil) (m Stil) (a OutStil) (m OutStil) so (k Stil) drawn)

  pub ended_at : (figures : PatternFigures) (head : StilHead) → head ≡ q.head → HasEnded head t (m Stil) (k Stil) → figures ≡ q.figures → ArePutOn front p s a k (Ok figures)
  ended_at figures head same ended is =
      at_out (Ok figures) (all_written front p q s t (a Stil) (m Stil) (a OutStil) (m OutStil) so (k Stil) figures (subst (λ (h : StilHead). HasEnded h t (m Stil) (k Stil)) same ended) is)

  module _ (head : StilHead) (same : head ≡ q.head) (r : Progress) (said : List Saying) (text : List ℕ) (gives : Says head t u (m Stil) (k Stil) said) (form : text ≡ written_says (form_by front q) said) (l : Slots) (put_elsewhere : SameElsewhere OutStil k l) where
    says : Says q.head t u (m Stil) (k Stil) said
    says = subst (λ (h : StilHead). Says h t u (m Stil) (k Stil) said) same gives

    pub further : r ≡ after_all (statements_in said) q → HasPut text (k OutStil) (l OutStil) → AreWrittenSo front p r s u a l
    further is put =
        subst (λ (x : SlotState). HasWrittenSo front p r s u (a Stil) x (a OutStil) (l OutStil)) (sym (put_elsewhere Stil (λ e. cc)))
        (written_more front p q s t (a Stil) (m Stil) (a OutStil) (m OutStil) so u (k Stil) (l OutStil) r said text says is form (subst (λ (x : SlotState). HasPut text x (l OutStil)) out_same put))

    pub failed_at : HasPutAndFailed text (k OutStil) (l OutStil) → ArePutOn front p s a l (Err stops.Output)
    failed_at failed =
        subst (λ (x : SlotState). HasPutOn front p s (a Stil) x (a OutStil) (l OutStil) (Err stops.Output)) (sym (put_elsewhere Stil (λ e. cc)))
        (output_failed front p q s t (a Stil) (m Stil) (a OutStil) (m OutStil) so u (k Stil) (l OutStil) r said text says form (subst (λ (x : SlotState). HasPutAndFailed text x (l OutStil)) out_same failed))

  module _ (head : StilHead) (same : head ≡ q.head) (statement : PatternStatement) (gives : Says head t u (m Stil) (k Stil) (Stated statement ∷ [])) (r : Progress) (l : Slots) (put_elsewhere : SameElsewhere OutStil k l) where
    form : written_with q.head.chains (moved_call q.old_chains q.new_chains) statement ≡ written_says (form_by front q) (Stated statement ∷ [])
    form = sym (append-nil (written_with q.head.chains (moved_call q.old_chains q.new_chains) statement))

    pub stated_further : HasPutStated statement q r (k OutStil) (l OutStil) (Ok tt) → AreWrittenSo front p r s u a l
    stated_further (put, counted) = further head same r (Stated statement ∷ []) (written_with q.head.chains (moved_call q.old_chains q.new_chains) statement) gives form l put_elsewhere counted put

    pub stated_stopped : (stop : PutStop) → HasPutStated statement q r (k OutStil) (l OutStil) (Err stop) → ArePutOn front p s a l (Err stop)
    stated_stopped (stops.Input (OfText fault)) put = absurd put
    stated_stopped (stops.Input Read) put = absurd put
    stated_stopped (stops.Input NoMemory) out_kept =
        subst (λ (x : SlotState). HasPutOn front p s (a Stil) x (a OutStil) (l OutStil) (Err (stops.Input NoMemory))) (sym (put_elsewhere Stil (λ e. cc)))
        (subst (λ (x : SlotState). HasPutOn front p s (a Stil) (k Stil) (a OutStil) x (Err (stops.Input NoMemory))) (sym out_kept) (ran_out_at gives.drawn))
    stated_stopped stops.Output failed = failed_at head same r (Stated statement ∷ []) (written_with q.head.chains (moved_call q.old_chains q.new_chains) statement) gives form l put_elsewhere failed

-- the output was opened for it

module _ (front : List ℕ) (p : Progress) (s : Streaming) (a k : Slots) (open_elsewhere : SameElsewhere OutStil a k) where
  read_same : k Stil ≡ a Stil
  read_same = open_elsewhere Stil (λ e. cc)

  pub not_opened : HasFailed (a OutStil) (k OutStil) → ArePutOn front p s a k (Err stops.Output)
  not_opened failed = subst (λ (x : SlotState). HasPutOn front p s (a Stil) x (a OutStil) (k OutStil) (Err stops.Output)) (sym read_same) (open_failed front p s (a Stil) (a OutStil) (k OutStil) failed)

  pub put_behind : (text : List ℕ) (q : Progress) (f : Slots) (result : Result PatternFigures PutStop) → text ≡ front → q ≡ p → k OutStil ≡ opened (a OutStil) → ArePutOn text q s k f result → ArePutOn front p s a f result
  put_behind text q f result text_is q_is opens put =
      put_opened (a OutStil) (k OutStil) (f OutStil) opens front p s (a Stil) (f Stil) result
      (subst (λ (x : SlotState). HasPutOn front p s x (f Stil) (k OutStil) (f OutStil) result) read_same
      (subst (λ (r : Progress). HasPutOn front r s (k Stil) (f Stil) (k OutStil) (f OutStil) result) q_is
      (subst (λ (l : List ℕ). HasPutOn l q s (k Stil) (f Stil) (k OutStil) (f OutStil) result) text_is put)))

-- both slots were closed behind the patterns, and then all else was put, or the fault was said

module _ (r : PatternsRequest) (ready : Ready) (a m e f : Slots) (closes : HasClosedBoth m e (Ok tt)) where
  pub others_put : (patterns : PatternFigures) → HasPutStil ready (Ok patterns) a m → (ended : Result (Unit {0}) Stop) → HasPutOthers (last_names r) (outputs_of ready.made patterns) e f ended → HasWrittenReady r ready a f ended
  others_put patterns put (Ok done) others = (patterns, e, record { between = m; put = put; closed_both = closes }, others)
  others_put patterns put (Err NoForm) others = absurd others
  others_put patterns put (Err Refused) others = absurd others
  others_put patterns put (Err InputFailed) others = absurd others
  others_put patterns put (Err OutputFailed) others = inr (inr (inl (patterns, e, record { between = m; put = put; closed_both = closes }, others)))
  others_put patterns put (Err OutOfMemory) same = inr (Ok patterns, tt, e, record { between = m; put = put; closed_both = closes }, same)

  pub fault_said : (fault : Fault) → HasPutStil ready (Err (stops.Input (OfText fault))) a m → (ended : Result (Unit {0}) Stop) → HasSaid (names_of (ReorderPatterns r)) fault e f ended → HasWrittenReady r ready a f ended
  fault_said fault put (Ok done) said = absurd said
  fault_said fault put (Err NoForm) said = absurd said
  fault_said fault put (Err Refused) said = (fault, e, record { between = m; put = put; closed_both = closes }, said)
  fault_said fault put (Err InputFailed) said = absurd said
  fault_said fault put (Err OutputFailed) said = inr (inr (inr (fault, e, record { between = m; put = put; closed_both = closes }, said)))
  fault_said fault put (Err OutOfMemory) same = inr (Err (stops.Input (OfText fault)), tt, e, record { between = m; put = put; closed_both = closes }, same)
