-- What a run of `reorder` with patterns leaves, from what its phases leave.
use Rattle.std.proofs.Common.{◌≡◌, ◌≢◌, ◌<◌, ◌⊎◌, ℕ, List, Option, Result, Ok, Err, refl, sym, ◌∙◌, ap, subst, arith, inl, inr}
use Rattle.base_types.specs.declared.fault.Fault.{Fault}
use Rattle.desk_io.specs.declared.slot.Slot.{Slot}
use Rattle.desk_io.specs.declared.slot.Slot.TheVariants.{Table, Lef, Verilog, Def, Stil, NewVerilog, NewStil, Log, OutVerilog, OutDef, OutStil, OutSvg, Console}
use Rattle.desk_io.specs.declared.outputs.Outputs.{Outputs}
use Rattle.desk_io.specs.Desk.{SlotState, SameElsewhere, IsOutput, IsOpen, IsClosed, AllUnopened}
use Rattle.desk_io.specs.Prefixes.{IsAtEnd, IsAppended, HoldsPrefix}
use Rattle.desk_io.specs.Names.{IsNamed}
use Rattle.desk_io.specs.Inputs.{HasTakenInputs}
use Rattle.desk_io.specs.Outputs.{output_at, turn, HasPutOutputs, HasStoppedPutting}
use Rattle.design_files.specs.Files.{Texts}
use Rattle.scan_job.specs.declared.commands.patterns.PatternsRequest.{PatternsRequest}
use Rattle.scan_job.specs.declared.stop.Stop.{Stop}
use Rattle.scan_job.specs.declared.stop.Stop.TheVariants.{NoForm, Refused, InputFailed, OutputFailed, NoMemory}
use Rattle.scan_job.specs.Requests.{Request, ReorderPatterns, names_of}
use Rattle.scan_job.specs.Commands.Check.{design_in}
use Rattle.scan_job.specs.Commands.Patterns.{AreRetargeted, IsWrittenBefore, IsPatternKind, last_names}
use Rattle.scan_job.specs.Faults.{IsRunFault}
use Rattle.scan_job.specs.Texts.{AreOutputsOf}
use Rattle.scan_job.specs.TopCall.{Slots, IsUsed, Reads, SameDesign, HoldsTextBefore, AreFilesRefused, HasWritten}
use Rattle.scan_job.specs.Ended.{IsDone, IsRefused, IsInputFailed, IsOutputFailed, IsOutOfMemory, HasEnded}
use Rattle.scan_job.specs.Phases.{HasPutLine, HasFailedAtLine}
use Rattle.scan_job.specs.Retargeting.{IsRetargetingFault}
use Rattle.scan_job.specs.PatternPhases.{IsPutClosed, HasReadPatterns, AreOutputsFound, HasBegunStil, HasWrittenOut, HasFoundBefore, HasFoundWriting, HasFailedAtPatterns, HasRunOutAtPatterns, HasFailedAtOutput, HasFinishedPatterns}
use Rattle.desk_io.proofs.Slots.{below_cases, input_or_output, not_both, slot_cases, at_slot, apart, early_turn}
use Rattle.scan_job.proofs.Phases.{state_same, unused_apart, used_or_not, nothing_held, all_held, appended_since, prefix_since, risen_since, none_of, before_of, not_open_closed}
use Rattle.scan_job.proofs.PatternFrames.{last_used, stil_or_last, b_out, b_stil, of_files, run_fault, small_is, none_is, none_before, e_unused, e_out, e_design, e_count, in_count, e_closed, e_end, e_open}

-- the closed output isn't open
shut : (bytes : List ℕ) (old new : SlotState) → IsPutClosed bytes old new → IsOpen new → ⊥
shut bytes old new put open_now = not_open_closed new put.closed open_now

module _ (r : PatternsRequest) (texts : List (Option (List ℕ))) (a b : Slots) (unopened : AllUnopened a) (taken : HasTakenInputs (names_of (ReorderPatterns r)) 4 texts a b) where
  abbrev request : Request
  request = ReorderPatterns r

  -- the STIL output isn't open where it is as it was
  out_unopened : (s : SlotState) → s ≡ b OutStil → IsOpen s → ⊥
  out_unopened s same open_now =
      let first : s ≡ a OutStil = same ∙ b_out r texts a b unopened taken OutStil tt in
      let never = unopened OutStil in
      let opens = ap (λ (t : SlotState). t.stage) first in
      absurd cc

  -- the outputs at a stop, where nothing but the STIL output was begun
  prefixes_at : (c : Slots) (outputs : Outputs) → c OutVerilog ≡ a OutVerilog → c OutDef ≡ a OutDef → c OutSvg ≡ a OutSvg → c Console ≡ a Console → HoldsPrefix outputs.stil (a OutStil) (c OutStil)
      → (slot : Slot) → IsOutput slot → IsUsed request slot → HoldsPrefix (output_at outputs slot) (a slot) (c slot)
  prefixes_at c outputs verilog def svg console stil OutStil output used = stil
  prefixes_at c outputs verilog def svg console stil OutVerilog output used = nothing_held _ _ _ verilog
  prefixes_at c outputs verilog def svg console stil OutDef output used = nothing_held _ _ _ def
  prefixes_at c outputs verilog def svg console stil OutSvg output used = nothing_held _ _ _ svg
  prefixes_at c outputs verilog def svg console stil Console output used = nothing_held _ _ _ console
  prefixes_at c outputs verilog def svg console stil slot output used = absurd output

  begun_since : (c : Slots) → HasBegunStil r texts b c → c OutVerilog ≡ a OutVerilog → c OutDef ≡ a OutDef → c OutSvg ≡ a OutSvg → c Console ≡ a Console
      → (files : Slot → List ℕ) → Reads request files a → HasWritten request files a c
  begun_since c (inl same) verilog def svg console files holds = inl kept
    where
      kept : (slot : Slot) → IsOutput slot → c slot ≡ a slot
      kept OutStil output = same ∙ b_out r texts a b unopened taken OutStil tt
      kept OutVerilog output = verilog
      kept OutDef output = def
      kept OutSvg output = svg
      kept Console output = console
      kept slot output = absurd output
  begun_since c (inr held) verilog def svg console files holds =
      let found = of_files r texts a b unopened taken files holds (λ t stil. (outputs : Outputs) × AreOutputsFound r t stil outputs × HoldsPrefix outputs.stil (b OutStil) (c OutStil)) held in
      inr (inl (record {
        outputs = found.0;
        are = record { no_fault = none_before r texts a b unopened taken files holds found.0 found.1.are found.1.no_fault; texts = found.1.are };
        prefixes = prefixes_at c found.0 verilog def svg console (prefix_since _ (a OutStil) (b OutStil) (c OutStil) (b_out r texts a b unopened taken OutStil tt) found.2);
        faultless = inr kept;
      }))
    where
      kept : (slot : Slot) → IsOutput slot → slot ≢ OutStil → c slot ≡ a slot
      kept OutStil output ne = absurd (ne refl)
      kept OutVerilog output ne = verilog
      kept OutDef output ne = def
      kept OutSvg output ne = svg
      kept Console output ne = console
      kept slot output ne = absurd output

  -- a call failed, or memory ran out, while the patterns were read and written

  patterns_failed : (c : Slots) → HasFailedAtPatterns r texts b c → IsInputFailed request a c
  patterns_failed c f =
      let design = e_design r texts a b unopened taken c f.elsewhere in
      let console = e_out r texts a b unopened taken c f.elsewhere Console tt (λ is. cc) in
      record {
        unused = e_unused r texts a b unopened taken c f.elsewhere;
        rose = record { slot = Stil; is = tt; risen = risen_since _ (a Stil) (b Stil) (b_stil r texts a b unopened taken) f.risen };
        outputs = λ slot output. elim (slot_cases slot OutStil) [
          | inl is ↦ at_slot (λ s. (c s).faults ≡ (a s).faults) OutStil slot (sym is) (f.out_faults ∙ ap (λ (s : SlotState). s.faults) (b_out r texts a b unopened taken OutStil tt))
          | inr ne ↦ ap (λ (s : SlotState). s.faults) (e_out r texts a b unopened taken c f.elsewhere slot output ne)
        ];
        design = design;
        silent = console;
        prefixes = begun_since c f.begun design.verilog design.def design.svg console;
      }

  patterns_ran_out : (c : Slots) → HasRunOutAtPatterns r texts b c → IsOutOfMemory request a c
  patterns_ran_out c f =
      let design = e_design r texts a b unopened taken c f.elsewhere in
      let console = e_out r texts a b unopened taken c f.elsewhere Console tt (λ is. cc) in
      record {
        unused = e_unused r texts a b unopened taken c f.elsewhere;
        counts = e_count r texts a b unopened taken c f.elsewhere f.faults f.out_faults;
        design = design;
        silent = console;
        prefixes = begun_since c f.begun design.verilog design.def design.svg console;
      }

  output_failed : (c : Slots) → HasFailedAtOutput r texts b c → IsOutputFailed request a c
  output_failed c f =
      let design = e_design r texts a b unopened taken c f.elsewhere in
      let console = e_out r texts a b unopened taken c f.elsewhere Console tt (λ is. cc) in
      record {
        unused = e_unused r texts a b unopened taken c f.elsewhere;
        rose = record { slot = OutStil; is = tt; risen = risen_since _ (a OutStil) (b OutStil) (b_out r texts a b unopened taken OutStil tt) f.risen };
        inputs = in_count r texts a b unopened taken c f.elsewhere f.faults;
        prefixes = begun_since c f.begun design.verilog design.def design.svg console;
      }

  -- a fault was found, and both STIL slots are closed

  module _ (fault : Fault) (e : Slots) (read : HasReadPatterns b e) (not_open : IsOpen (e OutStil) → ⊥) (out_faults : (e OutStil).faults ≡ (b OutStil).faults)
      (first : (files : Slot → List ℕ) → Reads request files a → IsRunFault request files fault)
      (same : (files : Slot → List ℕ) → Reads request files a → (IsPatternKind fault.kind → ⊥) → e OutStil ≡ a OutStil)
      (begun : (files : Slot → List ℕ) → Reads request files a → IsPatternKind fault.kind → HoldsTextBefore request files fault a e) (c : Slots) where
    console_kept : e Console ≡ a Console
    console_kept = e_out r texts a b unopened taken e read.elsewhere Console tt (λ is. cc)

    counts_kept : (slot : Slot) → (e slot).faults ≡ (a slot).faults
    counts_kept = e_count r texts a b unopened taken e read.elsewhere read.faults out_faults

    module _ (second : SameElsewhere Console e c) where
      design_since : SameDesign a c
      design_since =
          let design = e_design r texts a b unopened taken e read.elsewhere in
          record { verilog = second OutVerilog (λ is. cc) ∙ design.verilog; def = second OutDef (λ is. cc) ∙ design.def; svg = second OutSvg (λ is. cc) ∙ design.svg }

      out_since : c OutStil ≡ e OutStil
      out_since = second OutStil (λ is. cc)

      files_since : (files : Slot → List ℕ) → Reads request files a → AreFilesRefused request files fault a c
      files_since files holds = record {
        design = design_since;
        stil = λ early. out_since ∙ same files holds early;
        stil_begun = λ late. let held = begun files holds late in record {
          text = held.text;
          is = held.is;
          whole = subst (λ (s : SlotState). IsAppended held.text (a OutStil) s) (sym out_since) held.whole;
        };
      }

    fault_said : HasPutLine (names_of request) fault e c → IsRefused request a c
    fault_said put = record {
      unused = λ slot unused. put.elsewhere slot (unused_apart request slot Console unused refl) ∙ e_unused r texts a b unopened taken e read.elsewhere slot unused;
      none_open = λ slot open_now. elim (slot_cases slot Console) [
        | inl is ↦ not_open_closed (c Console) put.put.closed (at_slot (λ s. IsOpen (c s)) slot Console is open_now)
        | inr ne ↦ e_open r texts a b unopened taken e read.elsewhere read.closed not_open slot (state_same IsOpen (e slot) (c slot) (sym (put.elsewhere slot ne)) open_now)
      ];
      counts = λ slot. elim (slot_cases slot Console) [
        | inl is ↦ at_slot (λ s. (c s).faults ≡ (a s).faults) Console slot (sym is) (put.put.faults ∙ counts_kept Console)
        | inr ne ↦ ap (λ (s : SlotState). s.faults) (put.elsewhere slot ne) ∙ counts_kept slot
      ];
      design = design_since put.elsewhere;
      refused = λ files holds. record {
        fault = fault;
        first = first files holds;
        outputs = files_since put.elsewhere files holds;
        line = appended_since _ (a Console) (e Console) (c Console) console_kept put.put.appended;
      };
    }

    fault_failed : HasFailedAtLine (names_of request) fault e c → IsOutputFailed request a c
    fault_failed failed = record {
      unused = λ slot unused. failed.elsewhere slot (unused_apart request slot Console unused refl) ∙ e_unused r texts a b unopened taken e read.elsewhere slot unused;
      rose = record { slot = Console; is = tt; risen = risen_since _ (a Console) (e Console) console_kept failed.risen };
      inputs = λ slot input. ap (λ (s : SlotState). s.faults) (failed.elsewhere slot (apart slot Console input tt)) ∙ counts_kept slot;
      prefixes = λ files holds. inr (inr (record {
        fault = fault;
        first = first files holds;
        outputs = files_since failed.elsewhere files holds;
        prefix = prefix_since _ (a Console) (e Console) (c Console) console_kept failed.prefix;
      }));
    }

  -- before the STIL output was opened

  module _ (did : Fault → Slots → Type 0) (f : HasFoundBefore r texts b did) where
    before_first : (files : Slot → List ℕ) → Reads request files a → IsRunFault request files f.fault
    before_first files holds = run_fault r texts a b unopened taken files holds f.fault (of_files r texts a b unopened taken files holds (λ t stil. IsRetargetingFault t stil f.fault) f.is)

    before_same : (files : Slot → List ℕ) → Reads request files a → (IsPatternKind f.fault.kind → ⊥) → f.between OutStil ≡ a OutStil
    before_same files holds early = f.same ∙ b_out r texts a b unopened taken OutStil tt

    before_begun : (files : Slot → List ℕ) → Reads request files a → IsPatternKind f.fault.kind → HoldsTextBefore request files f.fault a f.between
    before_begun files holds late = absurd (of_files r texts a b unopened taken files holds (λ t stil. IsPatternKind f.fault.kind → ⊥) f.early late)

    before_said : (c : Slots) → HasPutLine (names_of request) f.fault f.between c → IsRefused request a c
    before_said c = fault_said f.fault f.between f.read (out_unopened (f.between OutStil) f.same) (ap (λ (s : SlotState). s.faults) f.same) before_first before_same before_begun c

    before_failed : (c : Slots) → HasFailedAtLine (names_of request) f.fault f.between c → IsOutputFailed request a c
    before_failed c = fault_failed f.fault f.between f.read (out_unopened (f.between OutStil) f.same) (ap (λ (s : SlotState). s.faults) f.same) before_first before_same before_begun c

  -- or while the patterns were written

  module _ (did : Fault → Slots → Type 0) (f : HasFoundWriting r texts b did) where
    abbrev IsFoundIn : Texts → List ℕ → Type 0
    IsFoundIn t stil = IsRetargetingFault t stil f.fault × IsPatternKind f.fault.kind × IsWrittenBefore r t stil f.bytes

    writing_is : (files : Slot → List ℕ) → Reads request files a → IsFoundIn (design_in files) (files Stil)
    writing_is files holds = of_files r texts a b unopened taken files holds IsFoundIn f.is

    writing_first : (files : Slot → List ℕ) → Reads request files a → IsRunFault request files f.fault
    writing_first files holds = run_fault r texts a b unopened taken files holds f.fault (writing_is files holds).0

    writing_same : (files : Slot → List ℕ) → Reads request files a → (IsPatternKind f.fault.kind → ⊥) → f.between OutStil ≡ a OutStil
    writing_same files holds early = absurd (early (writing_is files holds).1)

    writing_begun : (files : Slot → List ℕ) → Reads request files a → IsPatternKind f.fault.kind → HoldsTextBefore request files f.fault a f.between
    writing_begun files holds late = record {
      text = f.bytes;
      is = (writing_is files holds).2;
      whole = appended_since _ (a OutStil) (b OutStil) (f.between OutStil) (b_out r texts a b unopened taken OutStil tt) f.put.appended;
    }

    writing_said : (c : Slots) → HasPutLine (names_of request) f.fault f.between c → IsRefused request a c
    writing_said c = fault_said f.fault f.between f.read (shut f.bytes (b OutStil) (f.between OutStil) f.put) f.put.faults writing_first writing_same writing_begun c

    writing_failed : (c : Slots) → HasFailedAtLine (names_of request) f.fault f.between c → IsOutputFailed request a c
    writing_failed c = fault_failed f.fault f.between f.read (shut f.bytes (b OutStil) (f.between OutStil) f.put) f.put.faults writing_first writing_same writing_begun c

  -- all patterns were written

  module _ (did : Outputs → Slots → Type 0) (w : HasWrittenOut r texts b did) where
    abbrev e : Slots
    e = w.between

    out_kept : (slot : Slot) → IsOutput slot → slot ≢ OutStil → e slot ≡ a slot
    out_kept = e_out r texts a b unopened taken e w.read.elsewhere

    count_kept : (slot : Slot) → (e slot).faults ≡ (a slot).faults
    count_kept = e_count r texts a b unopened taken e w.read.elsewhere w.read.faults w.put.faults

    none_open : (slot : Slot) → IsOpen (e slot) → ⊥
    none_open = e_open r texts a b unopened taken e w.read.elsewhere w.read.closed (shut w.outputs.stil (b OutStil) (e OutStil) w.put)

    stil_appended : IsAppended w.outputs.stil (a OutStil) (e OutStil)
    stil_appended = appended_since _ (a OutStil) (b OutStil) (e OutStil) (b_out r texts a b unopened taken OutStil tt) w.put.appended

    outputs_are : (files : Slot → List ℕ) → Reads request files a → AreOutputsOf request files w.outputs
    outputs_are files holds =
        let found = of_files r texts a b unopened taken files holds (λ t stil. AreRetargeted r t stil w.outputs × ((fault : Fault) → IsRetargetingFault t stil fault → ⊥)) w.is in
        record { small = small_is r texts a b unopened taken files holds w.outputs found.0; no_fault = none_is r texts a b unopened taken files holds w.outputs found.0 found.1; texts = found.0 }

    last_apart : (slot : Slot) → IsNamed (last_names r) slot → slot ≢ OutStil
    last_apart OutStil named is = absurd cc
    last_apart OutVerilog named is = cc
    last_apart OutDef named is = cc
    last_apart OutSvg named is = cc
    last_apart Console named is = cc
    last_apart Table named is = absurd cc
    last_apart Lef named is = absurd cc
    last_apart Verilog named is = absurd cc
    last_apart Def named is = absurd cc
    last_apart Stil named is = absurd cc
    last_apart NewVerilog named is = absurd cc
    last_apart NewStil named is = absurd cc
    last_apart Log named is = absurd cc

    module _ (c : Slots) where
      last_or_not : (slot : Slot) → (IsOutput slot × IsNamed (last_names r) slot) ⊎ (IsOutput slot → IsNamed (last_names r) slot → turn slot < 5 → ⊥)
      last_or_not slot = elim (input_or_output slot) [
        | inl input ↦ inr (λ output named lt. not_both slot input output)
        | inr output ↦ elim (used_or_not request slot) [
          | inl used ↦ elim (stil_or_last r slot output used) [
            | inl is ↦ inr (λ writes named lt. last_apart slot named is)
            | inr named ↦ inl (output, named)
          ]
          | inr unused ↦ inr (λ writes named lt. unused (last_used r slot named))
        ]
      ]

      put_out : HasPutOutputs (last_names r) w.outputs 5 e c → IsDone request a c
      put_out put =
          let stil_same : c OutStil ≡ e OutStil = put.others OutStil (λ output named lt. last_apart OutStil named refl) in
          record {
            unused = λ slot unused. put.others slot (λ output named lt. unused (last_used r slot named)) ∙ e_unused r texts a b unopened taken e w.read.elsewhere slot unused;
            none_open = λ slot open_now. elim (last_or_not slot) [
              | inl t ↦ not_open_closed (c slot) (put.put slot t.0 t.1 (early_turn slot t.0)).closed open_now
              | inr none ↦ none_open slot (state_same IsOpen (e slot) (c slot) (sym (put.others slot none)) open_now)
            ];
            closed = λ slot used. elim (input_or_output slot) [
              | inl input ↦ state_same IsClosed (c slot) (e slot) (put.others slot (λ output named lt. not_both slot input output))
                  (e_closed r texts a b unopened taken e w.read.elsewhere w.read.closed slot input used)
              | inr output ↦ elim (stil_or_last r slot output used) [
                | inl is ↦ at_slot (λ s. IsClosed (c s)) OutStil slot (sym is) (state_same IsClosed (c OutStil) (e OutStil) stil_same w.put.closed)
                | inr named ↦ (put.put slot output named (early_turn slot output)).closed
              ]
            ];
            read = λ slot input used. state_same IsAtEnd (c slot) (e slot) (put.others slot (λ output named lt. not_both slot input output))
                (e_end r texts a b unopened taken e w.read.elsewhere w.at_end slot input used);
            counts = λ slot. elim (last_or_not slot) [
              | inl t ↦ (put.put slot t.0 t.1 (early_turn slot t.0)).faults ∙ count_kept slot
              | inr none ↦ ap (λ (s : SlotState). s.faults) (put.others slot none) ∙ count_kept slot
            ];
            done = λ files holds. record {
              outputs = w.outputs;
              are = outputs_are files holds;
              texts = λ slot output used. elim (stil_or_last r slot output used) [
                | inl is ↦ at_slot (λ s. IsAppended (output_at w.outputs s) (a s) (c s)) OutStil slot (sym is)
                    (subst (λ (s : SlotState). IsAppended w.outputs.stil (a OutStil) s) (sym stil_same) stil_appended)
                | inr named ↦ appended_since _ (a slot) (e slot) (c slot) (out_kept slot output (last_apart slot named)) (put.put slot output named (early_turn slot output)).appended
              ];
            };
          }

      put_failed : HasStoppedPutting (last_names r) w.outputs e c → IsOutputFailed request a c
      put_failed s =
          let at : Slot = s.slot in
          let ne : at ≢ OutStil = last_apart at s.named in
          let here : s.between at ≡ e at = s.before.others at (λ output named lt. absurd (omega (arith, lt))) in
          let stil_same : c OutStil ≡ e OutStil = s.elsewhere OutStil (λ is. ne (sym is)) ∙ s.before.others OutStil (λ output named lt. last_apart OutStil named refl) in
          record {
            unused = λ slot unused. s.elsewhere slot (unused_apart request slot at unused (last_used r at s.named)) ∙ s.before.others slot (λ output named lt. unused (last_used r slot named))
                ∙ e_unused r texts a b unopened taken e w.read.elsewhere slot unused;
            rose = record { slot = at; is = s.output; risen = risen_since _ (a at) (s.between at) (here ∙ out_kept at s.output ne) s.risen };
            inputs = λ slot input.
                ap (λ (state : SlotState). state.faults) (s.elsewhere slot (apart slot at input s.output) ∙ s.before.others slot (λ output named lt. not_both slot input output)) ∙ count_kept slot;
            prefixes = λ files holds. inr (inl (record {
              outputs = w.outputs;
              are = before_of request files w.outputs (outputs_are files holds);
              faultless = inl (none_of request files w.outputs (outputs_are files holds));
              prefixes = λ slot output used. elim (stil_or_last r slot output used) [
                | inl is ↦ at_slot (λ t. HoldsPrefix (output_at w.outputs t) (a t) (c t)) OutStil slot (sym is)
                    (all_held _ _ _ (subst (λ (state : SlotState). IsAppended w.outputs.stil (a OutStil) state) (sym stil_same) stil_appended))
                | inr named ↦ elim (slot_cases slot at) [
                  | inl is ↦ at_slot (λ t. HoldsPrefix (output_at w.outputs t) (a t) (c t)) at slot (sym is)
                      (prefix_since _ (a at) (s.between at) (c at) (here ∙ out_kept at s.output ne) s.prefix)
                  | inr other ↦ below_cases (HoldsPrefix (output_at w.outputs slot) (a slot) (c slot)) (turn slot) (turn at)
                      (λ lt. all_held _ _ _ (subst (λ (state : SlotState). IsAppended (output_at w.outputs slot) (a slot) state) (sym (s.elsewhere slot other))
                      (appended_since _ (a slot) (e slot) (s.between slot) (out_kept slot output (last_apart slot named)) (s.before.put slot output named lt).appended)))
                      (λ nlt. nothing_held _ _ _ (s.elsewhere slot other ∙ s.before.others slot (λ writes names lt. nlt lt) ∙ out_kept slot output (last_apart slot named)))
                ]
              ];
            }));
          }

  pub patterns_finished : (c : Slots) (ended : Result (Unit {0}) Stop) → HasFinishedPatterns r texts b c ended → HasEnded request a c ended
  patterns_finished c (Ok done) w = put_out _ w c w.then_did
  patterns_finished c (Err NoForm) f = absurd f
  patterns_finished c (Err Refused) (inl f) = before_said _ f c f.then_did
  patterns_finished c (Err Refused) (inr f) = writing_said _ f c f.then_did
  patterns_finished c (Err InputFailed) f = patterns_failed c f
  patterns_finished c (Err OutputFailed) (inl f) = output_failed c f
  patterns_finished c (Err OutputFailed) (inr (inl w)) = put_failed _ w c w.then_did
  patterns_finished c (Err OutputFailed) (inr (inr (inl f))) = before_failed _ f c f.then_did
  patterns_finished c (Err OutputFailed) (inr (inr (inr f))) = writing_failed _ f c f.then_did
  patterns_finished c (Err NoMemory) f = patterns_ran_out c f
