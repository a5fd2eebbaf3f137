-- What a run of `play` leaves, from what its phases leave.
use Rattle.std.proofs.Common.{◌≡◌, ◌<◌, ◌≤◌, ◌^◌, ◌⊎◌, ℕ, List, length, Option, Some, IfSome, Result, Ok, Err, refl, sym, ◌∙◌, ap, subst, arith, inl, inr}
use Rattle.base_types.specs.declared.fault.Fault.{Fault}
use Rattle.base_types.specs.FirstFault.{IsFirstFault}
use Rattle.desk_io.specs.declared.slot.Slot.{Slot}
use Rattle.desk_io.specs.declared.slot.Slot.TheVariants.{Table, Lef, Verilog, Def, Stil, NewVerilog, NewStil, Log, OutVerilog, OutDef, OutStil, OutSvg, Console}
use Rattle.desk_io.specs.Number.{number}
use Rattle.desk_io.specs.Desk.{SlotState, SameElsewhere, IsInput, IsOutput, IsOpen, IsClosed, AllUnopened, opened, closed}
use Rattle.desk_io.specs.Causes.{HasRisen}
use Rattle.desk_io.specs.Prefixes.{IsAtEnd, IsAppended, HasPutFile, HoldsPrefix}
use Rattle.desk_io.specs.Names.{IsNamed}
use Rattle.desk_io.specs.Inputs.{input_at, HasTakenInputs, HasStoppedAt}
use Rattle.desk_io.specs.Outputs.{output_at, saying}
use Rattle.stil_input.specs.Inputs.{HasDrawn}
use Rattle.scan_job.specs.declared.commands.play.PlayRequest.{PlayRequest}
use Rattle.scan_job.specs.declared.stop.Stop.{Stop}
use Rattle.scan_job.specs.declared.stop.Stop.TheVariants.{NoForm, Refused, InputFailed, OutputFailed, NoMemory}
use Rattle.scan_job.specs.Requests.{Request, Play, names_of}
use Rattle.scan_job.specs.Commands.Play.{first_names}
use Rattle.scan_job.specs.Faults.{IsOver, IsSizeFault, AreSmall, IsRunFault}
use Rattle.scan_job.specs.Texts.{AreOutputsOf}
use Rattle.scan_job.specs.TopCall.{Slots, IsUsed, Reads, SameUnused}
use Rattle.scan_job.specs.Ended.{IsDone, IsInputFailed, IsOutputFailed, IsOutOfMemory, HasEnded}
use Rattle.scan_job.specs.Phases.{HasSaid}
use Rattle.scan_job.specs.Playing.{IsPlayed, IsPlayFault}
use Rattle.scan_job.specs.PlayPhases.{HasReadStil, HasFailedAtStil, HasRunOutAtStil, HasFinishedPlay}
use Rattle.desk_io.proofs.Slots.{input_or_output, slot_cases, at_slot, apart}
use Rattle.scan_job.proofs.Sizes.{IsWhole, small_of, size_first}
use Rattle.scan_job.proofs.Phases.{text_is, state_same, unused_apart, used_or_not, appended_since, prefix_since, risen_since, not_open_closed, not_open_unopened, Found, put_line, failed_at_line, failed_untouched, ran_out_untouched, none_of, before_of, here_kept, output_as_was, unused_as_was, count_as_was, found_closed}

-- the table and the netlist are what is taken before the STIL slot is opened

named_first : (r : PlayRequest) (slot : Slot) → IsInput slot → number slot < 4 → IsNamed (names_of (Play r)) slot → IsNamed (first_names r) slot
named_first r Table input low named = named
named_first r Lef input low named = absurd cc
named_first r Verilog input low named = named
named_first r Def input low named = absurd cc
named_first r Stil input low named = absurd (omega (arith, low))
named_first r NewVerilog input low named = absurd (omega (arith, low))
named_first r NewStil input low named = absurd (omega (arith, low))
named_first r Log input low named = absurd (omega (arith, low))
named_first r OutVerilog input low named = absurd input
named_first r OutDef input low named = absurd input
named_first r OutStil input low named = absurd input
named_first r OutSvg input low named = absurd input
named_first r Console input low named = absurd input

first_named : (r : PlayRequest) (slot : Slot) → IsNamed (first_names r) slot → IsNamed (names_of (Play r)) slot
first_named r Table named = named
first_named r Lef named = absurd cc
first_named r Verilog named = named
first_named r Def named = absurd cc
first_named r Stil named = absurd cc
first_named r NewVerilog named = absurd cc
first_named r NewStil named = absurd cc
first_named r Log named = absurd cc
first_named r OutVerilog named = absurd cc
first_named r OutDef named = absurd cc
first_named r OutStil named = absurd cc
first_named r OutSvg named = absurd cc
first_named r Console named = named

pub first_low : (r : PlayRequest) (slot : Slot) → IsInput slot → IsNamed (first_names r) slot → number slot < 4
first_low r Table input named = omega arith
first_low r Lef input named = omega arith
first_low r Verilog input named = omega arith
first_low r Def input named = omega arith
first_low r Stil input named = absurd cc
first_low r NewVerilog input named = absurd cc
first_low r NewStil input named = absurd cc
first_low r Log input named = absurd cc
first_low r OutVerilog input named = absurd input
first_low r OutDef input named = absurd input
first_low r OutStil input named = absurd input
first_low r OutSvg input named = absurd input
first_low r Console input named = absurd input

pub before_stil : (r : PlayRequest) (slot : Slot) → number slot < 4 → IsWhole (Play r) slot
before_stil r slot low = inr (λ e. let same = ap number e in absurd (omega (arith, low, same)))

-- so they are the inputs of the request before the STIL file
pub taken_first : (r : PlayRequest) (below most : ℕ) (texts : List (Option (List ℕ))) (a b : Slots) → most ≤ 4 → most ≤ below → (below ≤ most) ⊎ (4 ≤ most)
    → HasTakenInputs (first_names r) below texts a b → HasTakenInputs (names_of (Play r)) most texts a b
taken_first r below most texts a b four within all taken = record {
  taken = λ slot input named lt. taken.taken slot input (named_first r slot input (omega (arith, lt, four)) named) (omega (arith, lt, within));
  small = λ slot input named lt. taken.small slot input (named_first r slot input (omega (arith, lt, four)) named) (omega (arith, lt, within));
  others = λ slot none. taken.others slot (λ input named lt. none input (first_named r slot named) (low slot input named lt));
  no_text = λ slot none. taken.no_text slot (λ input named lt. none input (first_named r slot named) (low slot input named lt));
}
  where
    low : (slot : Slot) → IsInput slot → IsNamed (first_names r) slot → number slot < below → number slot < most
    low slot input named lt = elim all [
      | inl e ↦ omega (arith, lt, e)
      | inr e ↦ let four = first_low r slot input named in omega (arith, four, e)
    ]

pub stopped_first : (r : PlayRequest) (slot : Slot) (a b : Slots) (did : SlotState → SlotState → Type 0)
    → HasStoppedAt (first_names r) slot a b did → HasStoppedAt (names_of (Play r)) slot a b did
stopped_first r slot a b did stopped =
    let low = first_low r slot stopped.input stopped.named in
    record {
      input = stopped.input;
      named = first_named r slot stopped.named;
      texts = stopped.texts;
      between = stopped.between;
      before = taken_first r (number slot) (number slot) stopped.texts a stopped.between (omega (arith, low)) (omega arith) (inl (omega arith)) stopped.before;
      elsewhere = stopped.elsewhere;
      here = stopped.here;
    }

-- what the calls on the STIL slot leave

module _ (b c : Slots) (elsewhere : SameElsewhere Stil b c) (opens : c Stil ≡ opened (b Stil)) where
  same_unread : (c Stil).unread ≡ (b Stil).unread
  same_unread = ap (λ (s : SlotState). s.unread) opens

  pub told_since : (P : List ℕ → Type 0) → IfSome (c Stil).unread P → IfSome (b Stil).unread P
  told_since P held = subst (λ (o : Option (List ℕ)). IfSome o P) same_unread held

  module _ (d : Slots) (further : SameElsewhere Stil c d) (drawn : HasDrawn (c Stil) (d Stil)) where
    drawn_faults : (d Stil).faults ≡ (b Stil).faults
    drawn_faults = ap (λ (s : SlotState). s.faults) drawn.1.same ∙ ap (λ (s : SlotState). s.faults) opens

    module _ (e : Slots) (last : SameElsewhere Stil d e) where
      pub read_stil : e Stil ≡ closed (d Stil) → HasReadStil b e
      read_stil closes = record {
        elsewhere = λ other ne. last other ne ∙ further other ne ∙ elsewhere other ne;
        faults = ap (λ (s : SlotState). s.faults) closes ∙ drawn_faults;
        closed = ap (λ (s : SlotState). s.stage) closes;
      }

-- memory ran out behind the closed slot
ran_out_closed : (b e f : Slots) → HasReadStil b e → ((slot : Slot) → f slot ≡ e slot) → HasRunOutAtStil b f
ran_out_closed b e f read same = record {
  elsewhere = λ other ne. same other ∙ read.elsewhere other ne;
  faults = ap (λ (s : SlotState). s.faults) (same Stil) ∙ read.faults;
}

-- what was said behind the closed slot ends the run of `play`

module _ (r : PlayRequest) (texts : List (Option (List ℕ))) (b e f : Slots) (read : HasReadStil b e) where
  pub said_finished : (fault : Fault) → IfSome (b Stil).unread (λ stil. IsPlayFault (input_at texts Table) (input_at texts Verilog) stil fault)
      → (ended : Result (Unit {0}) Stop) → HasSaid (names_of (Play r)) fault e f ended → HasFinishedPlay r texts b f ended
  said_finished fault is (Ok done) said = absurd said
  said_finished fault is (Err NoForm) said = absurd said
  said_finished fault is (Err Refused) said = record { fault = fault; between = e; read = read; is = is; then_did = said }
  said_finished fault is (Err InputFailed) said = absurd said
  said_finished fault is (Err OutputFailed) said = inr (record { fault = fault; between = e; read = read; is = is; then_did = said })
  said_finished fault is (Err NoMemory) same = ran_out_closed b e f read same

-- what stands where the table and the netlist were taken, and then the STIL slot was read

module _ (r : PlayRequest) (texts : List (Option (List ℕ))) (a b : Slots) (unopened : AllUnopened a) (taken : HasTakenInputs (names_of (Play r)) 4 texts a b) where
  abbrev request : Request
  request = Play r

  abbrev nothing : SlotState → SlotState → Type 0
  nothing old new = Unit {0}

  abbrev stopped : (e : Slots) → SameElsewhere Stil b e → HasStoppedAt (names_of request) Stil a e nothing
  stopped e elsewhere = record { input = tt; named = refl; texts = texts; between = b; before = taken; elsewhere = elsewhere; here = tt }

  file_is : (files : Slot → List ℕ) → Reads request files a → (slot : Slot) → IsInput slot → IsUsed request slot → number slot < 4 → input_at texts slot ≡ files slot
  file_is files holds slot input used low =
      let t = taken.taken slot input used low in
      text_is _ _ (input_at texts slot) (files slot) (holds slot input used) t.front t.at_end

  stil_kept : b Stil ≡ a Stil
  stil_kept = here_kept request Stil a b nothing (stopped b (λ other ne. refl))

  pub small_netlist : length (input_at texts Verilog) < 2 ^ 32
  small_netlist = let small = taken.small Verilog tt refl (omega arith) in omega (arith, small)

  -- what holds of the bytes of the STIL slot holds of its file
  of_file : (files : Slot → List ℕ) → Reads request files a → (P : List ℕ → Type 0) → IfSome (b Stil).unread P → P (files Stil)
  of_file files holds P held =
      let told : (b Stil).unread ≡ Some (files Stil) = ap (λ (s : SlotState). s.unread) stil_kept ∙ holds Stil tt refl in
      subst (λ (o : Option (List ℕ)). IfSome o P) told held

  module _ (files : Slot → List ℕ) (holds : Reads request files a) where
    table_is : input_at texts Table ≡ files Table
    table_is = file_is files holds Table tt refl (omega arith)

    verilog_is : input_at texts Verilog ≡ files Verilog
    verilog_is = file_is files holds Verilog tt refl (omega arith)

    small_at : (slot : Slot) → IsInput slot → number slot < 4 → IsUsed request slot → IsOver request slot (files slot) → ⊥
    small_at slot input low used =
        let small = taken.small slot input used low in
        let same = ap length (file_is files holds slot input used low) in
        small_of request slot (files slot) input (before_stil r slot low) (omega (arith, small, same))

    all_small : (IsOver request Stil (files Stil) → ⊥) → AreSmall request files
    all_small head Table input used = small_at Table input (omega arith) used
    all_small head Lef input used = small_at Lef input (omega arith) used
    all_small head Verilog input used = small_at Verilog input (omega arith) used
    all_small head Def input used = small_at Def input (omega arith) used
    all_small head Stil input used = head
    all_small head NewVerilog input used = absurd cc
    all_small head NewStil input used = absurd cc
    all_small head Log input used = absurd cc
    all_small head OutVerilog input used = absurd input
    all_small head OutDef input used = absurd input
    all_small head OutStil input used = absurd input
    all_small head OutSvg input used = absurd input
    all_small head Console input used = absurd input

    -- a fault that was answered is that of the run
    run_fault : (fault : Fault) → IsPlayFault (files Table) (files Verilog) (files Stil) fault → IsRunFault request files fault
    run_fault fault (inl none) =
        inl (subst (λ (f : Fault). IsFirstFault (IsSizeFault request files) f) (sym none.1)
        (size_first request files Stil tt refl none.0 (λ other input lt used. small_at other input lt used)))
    run_fault fault (inr first) = inr (all_small first.0, first.1)

    played : (said : List ℕ) → IfSome (b Stil).unread (λ stil. IsPlayed (input_at texts Table) (input_at texts Verilog) stil r.device said)
        → IsPlayed (files Table) (files Verilog) (files Stil) r.device said
    played said is =
        subst (λ (table : List ℕ). IsPlayed table (files Verilog) (files Stil) r.device said) table_is
        (subst (λ (verilog : List ℕ). IsPlayed (input_at texts Table) verilog (files Stil) r.device said) verilog_is
        (of_file files holds (λ stil. IsPlayed (input_at texts Table) (input_at texts Verilog) stil r.device said) is))

    found : (fault : Fault) → IfSome (b Stil).unread (λ stil. IsPlayFault (input_at texts Table) (input_at texts Verilog) stil fault) → IsRunFault request files fault
    found fault is =
        run_fault fault
        (subst (λ (table : List ℕ). IsPlayFault table (files Verilog) (files Stil) fault) table_is
        (subst (λ (verilog : List ℕ). IsPlayFault (input_at texts Table) verilog (files Stil) fault) verilog_is
        (of_file files holds (λ stil. IsPlayFault (input_at texts Table) (input_at texts Verilog) stil fault) is)))

    outputs_are : (said : List ℕ) → IsPlayed (files Table) (files Verilog) (files Stil) r.device said → AreOutputsOf request files (saying said)
    outputs_are said is = record { small = all_small is.head; no_fault = λ fault own. is.no_fault fault own.holds; texts = is.is }

  -- a fault was found, and nothing was written yet
  found_play : (e : Slots) (fault : Fault) → HasReadStil b e → IfSome (b Stil).unread (λ stil. IsPlayFault (input_at texts Table) (input_at texts Verilog) stil fault) → Found request fault a e
  found_play e fault read is =
      found_closed request Stil a e nothing (stopped e read.elsewhere) fault unopened read.closed read.faults (λ files holds. found files holds fault is)

  -- nothing was written yet, and all that was opened is closed
  module _ (e : Slots) (read : HasReadStil b e) where
    out_kept : (slot : Slot) → IsOutput slot → e slot ≡ a slot
    out_kept = output_as_was request Stil a e nothing (stopped e read.elsewhere)

    closed_at : (slot : Slot) → IsInput slot → IsUsed request slot → IsClosed (e slot)
    closed_at Table input used = state_same IsClosed (e Table) (b Table) (read.elsewhere Table (λ is. cc)) (taken.taken Table tt refl (omega arith)).closed
    closed_at Lef input used = absurd cc
    closed_at Verilog input used = state_same IsClosed (e Verilog) (b Verilog) (read.elsewhere Verilog (λ is. cc)) (taken.taken Verilog tt refl (omega arith)).closed
    closed_at Def input used = absurd cc
    closed_at Stil input used = read.closed
    closed_at NewVerilog input used = absurd cc
    closed_at NewStil input used = absurd cc
    closed_at Log input used = absurd cc
    closed_at OutVerilog input used = absurd input
    closed_at OutDef input used = absurd input
    closed_at OutStil input used = absurd input
    closed_at OutSvg input used = absurd input
    closed_at Console input used = absurd input

    end_at : IsAtEnd (e Stil) → (slot : Slot) → IsInput slot → IsUsed request slot → IsAtEnd (e slot)
    end_at last Table input used = state_same IsAtEnd (e Table) (b Table) (read.elsewhere Table (λ is. cc)) (taken.taken Table tt refl (omega arith)).at_end
    end_at last Lef input used = absurd cc
    end_at last Verilog input used = state_same IsAtEnd (e Verilog) (b Verilog) (read.elsewhere Verilog (λ is. cc)) (taken.taken Verilog tt refl (omega arith)).at_end
    end_at last Def input used = absurd cc
    end_at last Stil input used = last
    end_at last NewVerilog input used = absurd cc
    end_at last NewStil input used = absurd cc
    end_at last Log input used = absurd cc
    end_at last OutVerilog input used = absurd input
    end_at last OutDef input used = absurd input
    end_at last OutStil input used = absurd input
    end_at last OutSvg input used = absurd input
    end_at last Console input used = absurd input

    unused_kept : SameUnused request a e
    unused_kept = unused_as_was request Stil a e nothing (stopped e read.elsewhere)

    count_kept : (slot : Slot) → (e slot).faults ≡ (a slot).faults
    count_kept = count_as_was request Stil a e nothing (stopped e read.elsewhere) read.faults

    none_open : (slot : Slot) → IsOpen (e slot) → ⊥
    none_open slot open_now = elim (input_or_output slot) [
      | inl input ↦ elim (used_or_not request slot) [
        | inl used ↦ not_open_closed (e slot) (closed_at slot input used) open_now
        | inr unused ↦ not_open_unopened (a slot) (unopened slot) (state_same IsOpen (a slot) (e slot) (sym (unused_kept slot unused)) open_now)
      ]
      | inr output ↦ not_open_unopened (a slot) (unopened slot) (state_same IsOpen (a slot) (e slot) (sym (out_kept slot output)) open_now)
    ]

    module _ (c : Slots) (second : SameElsewhere Console e c) where
      unused_since : SameUnused request a c
      unused_since slot unused = second slot (unused_apart request slot Console unused refl) ∙ unused_kept slot unused

      only_console : (slot : Slot) → IsOutput slot → IsUsed request slot → slot ≡ Console
      only_console Console output used = refl
      only_console OutVerilog output used = absurd cc
      only_console OutDef output used = absurd cc
      only_console OutStil output used = absurd cc
      only_console OutSvg output used = absurd cc
      only_console Table output used = absurd output
      only_console Lef output used = absurd output
      only_console Verilog output used = absurd output
      only_console Def output used = absurd output
      only_console Stil output used = absurd output
      only_console NewVerilog output used = absurd output
      only_console NewStil output used = absurd output
      only_console Log output used = absurd output

      input_since : (slot : Slot) → IsInput slot → c slot ≡ e slot
      input_since slot input = second slot (apart slot Console input tt)

      -- the console was put
      put_out : (said : List ℕ) → IsAtEnd (e Stil) → HasPutFile said (e Console) (c Console)
          → IfSome (b Stil).unread (λ stil. IsPlayed (input_at texts Table) (input_at texts Verilog) stil r.device said) → IsDone request a c
      put_out said last put is = record {
        unused = unused_since;
        none_open = λ slot open_now. elim (slot_cases slot Console) [
          | inl same ↦ not_open_closed (c Console) put.closed (at_slot (λ s. IsOpen (c s)) slot Console same open_now)
          | inr ne ↦ none_open slot (state_same IsOpen (e slot) (c slot) (sym (second slot ne)) open_now)
        ];
        closed = λ slot used. elim (input_or_output slot) [
          | inl input ↦ state_same IsClosed (c slot) (e slot) (input_since slot input) (closed_at slot input used)
          | inr output ↦ at_slot (λ s. IsClosed (c s)) Console slot (sym (only_console slot output used)) put.closed
        ];
        read = λ slot input used. state_same IsAtEnd (c slot) (e slot) (input_since slot input) (end_at last slot input used);
        counts = λ slot. elim (slot_cases slot Console) [
          | inl same ↦ at_slot (λ s. (c s).faults ≡ (a s).faults) Console slot (sym same) (put.faults ∙ count_kept Console)
          | inr ne ↦ ap (λ (s : SlotState). s.faults) (second slot ne) ∙ count_kept slot
        ];
        done = λ files holds. record {
          outputs = saying said;
          are = outputs_are files holds said (played files holds said is);
          texts = λ slot output used. at_slot (λ s. IsAppended (output_at (saying said) s) (a s) (c s)) Console slot (sym (only_console slot output used))
              (appended_since said (a Console) (e Console) (c Console) (out_kept Console tt) put.appended);
        };
      }

      -- or it failed
      put_failed : (said : List ℕ) → HoldsPrefix said (e Console) (c Console) → HasRisen (e Console).faults (c Console).faults
          → IfSome (b Stil).unread (λ stil. IsPlayed (input_at texts Table) (input_at texts Verilog) stil r.device said) → IsOutputFailed request a c
      put_failed said prefix risen is = record {
        unused = unused_since;
        rose = record { slot = Console; is = tt; risen = risen_since _ (a Console) (e Console) (out_kept Console tt) risen };
        inputs = λ slot input. ap (λ (s : SlotState). s.faults) (input_since slot input) ∙ count_kept slot;
        prefixes = λ files holds. inr (inl (record {
          outputs = saying said;
          are = before_of request files (saying said) (outputs_are files holds said (played files holds said is));
          faultless = inl (none_of request files (saying said) (outputs_are files holds said (played files holds said is)));
          prefixes = λ slot output used. at_slot (λ s. HoldsPrefix (output_at (saying said) s) (a s) (c s)) Console slot (sym (only_console slot output used))
              (prefix_since said (a Console) (e Console) (c Console) (out_kept Console tt) prefix);
        }));
      }

  stil_failed : (c : Slots) → HasFailedAtStil b c → IsInputFailed request a c
  stil_failed c failed =
      failed_untouched request a c (unused_as_was request Stil a c nothing (stopped c failed.elsewhere))
      (record { slot = Stil; is = tt; risen = risen_since _ (a Stil) (b Stil) stil_kept failed.risen }) (output_as_was request Stil a c nothing (stopped c failed.elsewhere))

  stil_ran_out : (c : Slots) → HasRunOutAtStil b c → IsOutOfMemory request a c
  stil_ran_out c out =
      ran_out_untouched request a c (unused_as_was request Stil a c nothing (stopped c out.elsewhere)) (count_as_was request Stil a c nothing (stopped c out.elsewhere) out.faults)
      (output_as_was request Stil a c nothing (stopped c out.elsewhere))

  pub play_finished : (c : Slots) (ended : Result (Unit {0}) Stop) → HasFinishedPlay r texts b c ended → HasEnded request a c ended
  play_finished c (Ok done) p = put_out p.between p.read c p.then_did.elsewhere p.said p.at_end p.then_did.put p.is
  play_finished c (Err NoForm) f = absurd f
  play_finished c (Err Refused) f = put_line request f.fault a f.between c (λ late. late) (found_play f.between f.fault f.read f.is) f.then_did
  play_finished c (Err InputFailed) failed = stil_failed c failed
  play_finished c (Err OutputFailed) (inl p) = put_failed p.between p.read c p.then_did.elsewhere p.said p.then_did.prefix p.then_did.risen p.is
  play_finished c (Err OutputFailed) (inr f) = failed_at_line request f.fault a f.between c (λ late. late) (found_play f.between f.fault f.read f.is) f.then_did
  play_finished c (Err NoMemory) out = stil_ran_out c out
