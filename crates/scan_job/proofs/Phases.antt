-- What a run leaves, from what its phases leave.
use Rattle.std.proofs.Common.{◌≡◌, ◌≢◌, ◌<◌, ◌≤◌, ◌^◌, ◌⊎◌, ℕ, false, List, [], ◌++◌, length, Option, Some, None, option_map, IfSome, IsSome, Result, Ok, Err, refl, sym, ◌∙◌, ap, subst, append-nil, length-append, arith, inl, inr}
use Rattle.base_types.specs.declared.fault.Fault.{Fault}
use Rattle.base_types.specs.declared.kind.Kind.{Kind}
use Rattle.desk_io.specs.declared.slot.Slot.{Slot}
use Rattle.desk_io.specs.declared.slot.Slot.TheVariants.{Table, OutVerilog, OutDef, OutStil, OutSvg, Console}
use Rattle.desk_io.specs.declared.outputs.Outputs.{Outputs}
use Rattle.desk_io.specs.Number.{number}
use Rattle.desk_io.specs.Desk.{SlotState, SameElsewhere, IsInput, IsOutput, IsUnopened, IsOpen, IsClosed, AllUnopened}
use Rattle.desk_io.specs.Causes.{HasRisen, SameCounts, SomeRose}
use Rattle.desk_io.specs.Prefixes.{IsAtEnd, IsAppended, HasTakenFile, IsTooLarge, HasFailedToTake, HasRunOut, HoldsPrefix}
use Rattle.desk_io.specs.Names.{name_at}
use Rattle.desk_io.specs.Inputs.{limit_of, input_at, HasTakenInputs, HasStoppedAt}
use Rattle.desk_io.specs.Outputs.{output_at, turn}
use Rattle.scan_job.specs.declared.stop.Stop.{Stop}
use Rattle.scan_job.specs.declared.stop.Stop.TheVariants.{NoForm, Refused, InputFailed, OutputFailed, NoMemory}
use Rattle.scan_words.specs.declared.order.Order.{Order}
use Rattle.scan_job.specs.Requests.{Request, order_of, command_of, names_of}
use Rattle.scan_job.specs.Faults.{size_fault, IsOver, AreSmall, IsCommandFault, IsRunFault, HasNoFault, IsFoundWriting}
use Rattle.scan_job.specs.Texts.{AreOutputsOf, AreOutputsBefore}
use Rattle.scan_job.specs.TopCall.{Slots, IsUsed, Reads, SameEverywhere, SameUnused, SameOutputs, SameDesign, AreFilesRefused}
use Rattle.scan_job.specs.Ended.{IsDone, IsRefused, IsInputFailed, IsOutputFailed, IsOutOfMemory, HasEnded, HasRunOrder}
use Rattle.scan_job.specs.Phases.{HasPutLine, HasFailedAtLine, HasSaid, AreInLimits, AreJudged, HasPutAll, HasPutSome, HasFinished}
use Rattle.desk_io.proofs.Slots.{below_cases, slot_cases, input_or_output, not_both, at_slot, apart, low_number, early_turn}
use Rattle.scan_job.proofs.Asked.{command_same, texts_same}
use Rattle.scan_job.proofs.Sizes.{IsWhole, over_of, small_of, size_first, size_none}

-- what was taken to the end is the whole file
pub text_is : (u v : Option (List ℕ)) (text file : List ℕ) → u ≡ Some file → u ≡ option_map (λ rest. text ++ rest) v → IfSome v (λ rest. rest ≡ []) → text ≡ file
text_is u None text file holds front at_end = cc
text_is u (Some rest) text file holds front at_end =
    let whole : text ++ rest ≡ file = cc in
    sym (append-nil text) ∙ ap (λ r. text ++ r) (sym at_end) ∙ whole

over_limit : (u v : Option (List ℕ)) (taken file : List ℕ) (limit : ℕ) → u ≡ Some file → u ≡ option_map (λ rest. taken ++ rest) v → limit < length taken → limit < length file
over_limit u None taken file limit holds front over = cc
over_limit u (Some rest) taken file limit holds front over =
    let whole : taken ++ rest ≡ file = cc in
    omega (arith, ap length whole, length-append taken rest)

-- a slot is used or not
pub used_or_not : (request : Request) (slot : Slot) → IsUsed request slot ⊎ (IsUsed request slot → ⊥)
used_or_not request slot = cases (name_at (names_of request) slot)
  where
    cases : (o : Option (List ℕ)) → IsSome o ⊎ (IsSome o → ⊥)
    cases None = inr (λ h. absurd cc)
    cases (Some name) = inl refl

-- a slot that isn't used is another than one that is
pub unused_apart : (request : Request) (slot here : Slot) → (IsUsed request slot → ⊥) → IsUsed request here → slot ≢ here
unused_apart request slot here unused used e = unused (at_slot (IsUsed request) here slot (sym e) used)

pub state_same : (P : SlotState → Type 0) (one other : SlotState) → one ≡ other → P other → P one
state_same P one other e held = subst P (sym e) held

appended_none : (o : Option (List ℕ)) → o ≡ option_map (λ w. w ++ []) o
appended_none None = refl
appended_none (Some w) = ap Some (sym (append-nil w))

pub nothing_held : (bytes : List ℕ) (old new : SlotState) → new ≡ old → HoldsPrefix bytes old new
nothing_held bytes old new same = record { front = []; rest = bytes; prefix = refl; appended = ap (λ (s : SlotState). s.written) same ∙ appended_none old.written }

pub all_held : (bytes : List ℕ) (old new : SlotState) → IsAppended bytes old new → HoldsPrefix bytes old new
all_held bytes old new appended = record { front = bytes; rest = []; prefix = sym (append-nil bytes); appended = appended }

pub prefix_since : (bytes : List ℕ) (a b c : SlotState) → b ≡ a → HoldsPrefix bytes b c → HoldsPrefix bytes a c
prefix_since bytes a b c e held = subst (λ (s : SlotState). HoldsPrefix bytes s c) e held

pub appended_since : (bytes : List ℕ) (a b c : SlotState) → b ≡ a → IsAppended bytes b c → IsAppended bytes a c
appended_since bytes a b c e held = subst (λ (s : SlotState). IsAppended bytes s c) e held

pub risen_since : (now : ℕ) (a b : SlotState) → b ≡ a → HasRisen b.faults now → HasRisen a.faults now
risen_since now a b e risen = subst (λ (s : SlotState). HasRisen s.faults now) e risen

-- the inputs of a request were taken

module _ (request : Request) (texts : List (Option (List ℕ))) (a b : Slots) (taken : HasTakenInputs (names_of request) 8 texts a b) where
  taken_here : (slot : Slot) → IsInput slot → IsUsed request slot → HasTakenFile (input_at texts slot) (a slot) (b slot)
  taken_here slot input used = taken.taken slot input used (low_number slot input)

  output_kept : (slot : Slot) → IsOutput slot → b slot ≡ a slot
  output_kept slot output = taken.others slot (λ input used lt. not_both slot input output)

  unused_kept : (slot : Slot) → (IsUsed request slot → ⊥) → b slot ≡ a slot
  unused_kept slot unused = taken.others slot (λ input used lt. unused used)

  counts_kept : (slot : Slot) → (b slot).faults ≡ (a slot).faults
  counts_kept slot = elim (input_or_output slot) [
    | inl input ↦ elim (used_or_not request slot) [
      | inl used ↦ (taken_here slot input used).faults
      | inr unused ↦ ap (λ (s : SlotState). s.faults) (unused_kept slot unused)
    ]
    | inr output ↦ ap (λ (s : SlotState). s.faults) (output_kept slot output)
  ]

  module _ (whole : (command_of request).streams ≡ false) (files : Slot → List ℕ) (holds : Reads request files a) where
    file_is : (slot : Slot) → IsInput slot → IsUsed request slot → input_at texts slot ≡ files slot
    file_is slot input used =
        let t = taken_here slot input used in
        text_is _ _ (input_at texts slot) (files slot) (holds slot input used) t.front t.at_end

    is_small : AreSmall request files
    is_small slot input used =
        let small = taken.small slot input used (low_number slot input) in
        let same = ap length (file_is slot input used) in
        small_of request slot (files slot) input (inl whole) (omega (arith, small, same))

    found_first : (fault : Fault) → IsCommandFault request (input_at texts) fault → IsRunFault request files fault
    found_first fault found = inr (is_small, command_same request (input_at texts) files fault file_is found)

    judged_outputs : (outputs : Outputs) → AreJudged request texts outputs → AreOutputsOf request files outputs
    judged_outputs outputs judged = record {
      small = is_small;
      no_fault = λ fault own. judged.no_fault fault (command_same request files (input_at texts) fault (λ slot input used. sym (file_is slot input used)) own);
      texts = texts_same request (input_at texts) files outputs file_is judged.are;
    }

pub none_of : (request : Request) (files : Slot → List ℕ) (outputs : Outputs) → AreOutputsOf request files outputs → HasNoFault request files
none_of request files outputs are fault (inl large) = size_none request files are.small fault large.holds
none_of request files outputs are fault (inr own) = are.no_fault fault own.1

pub before_of : (request : Request) (files : Slot → List ℕ) (outputs : Outputs) → AreOutputsOf request files outputs → AreOutputsBefore request files outputs
before_of request files outputs are = record { no_fault = λ fault is. absurd (none_of request files outputs are fault is); texts = are.texts }

-- no output was touched, nor anything said

pub design_kept : (a c : Slots) → SameOutputs a c → SameDesign a c
design_kept a c same = record { verilog = same OutVerilog tt; def = same OutDef tt; svg = same OutSvg tt }

pub failed_untouched : (request : Request) (a c : Slots) → SameUnused request a c → SomeRose IsInput a c → SameOutputs a c → IsInputFailed request a c
failed_untouched request a c unused rose same = record {
  unused = unused;
  rose = rose;
  outputs = λ slot output. ap (λ (s : SlotState). s.faults) (same slot output);
  design = design_kept a c same;
  silent = same Console tt;
  prefixes = λ files holds. inl same;
}

pub ran_out_untouched : (request : Request) (a c : Slots) → SameUnused request a c → SameCounts a c → SameOutputs a c → IsOutOfMemory request a c
ran_out_untouched request a c unused counts same = record { unused = unused; counts = counts; design = design_kept a c same; silent = same Console tt; prefixes = λ files holds. inl same }

-- there was no memory before anything was done
pub no_memory : (request : Request) (order : Order) (a : Slots) → order_of request ≡ order → HasRunOrder order a a (Err NoMemory)
no_memory request order a is = record { request = request; is = is; ended = ran_out_untouched request a a (λ slot unused. refl) (λ slot. refl) (λ slot output. refl) }

-- a fault was found before any output was touched

pub record Found (request : Request) (fault : Fault) (a b : Slots) : Type 0 where
  pub unused : SameUnused request a b
  pub outputs : SameOutputs a b
  pub counts : SameCounts a b
  pub none_open : (slot : Slot) → IsOpen (b slot) → ⊥
  pub first : (files : Slot → List ℕ) → Reads request files a → IsRunFault request files fault

pub not_open_closed : (s : SlotState) → IsClosed s → IsOpen s → ⊥
not_open_closed s shut open_now = cc

pub not_open_unopened : (s : SlotState) → IsUnopened s → IsOpen s → ⊥
not_open_unopened s never open_now = cc

module _ (request : Request) (fault : Fault) (a b c : Slots) (early : IsFoundWriting request fault.kind → ⊥) (f : Found request fault a b) where
  module _ (second : SameElsewhere Console b c) where
    unused_since : SameUnused request a c
    unused_since slot unused = second slot (unused_apart request slot Console unused refl) ∙ f.unused slot unused

    design_since : SameDesign a c
    design_since = record {
      verilog = second OutVerilog (λ e. cc) ∙ f.outputs OutVerilog tt;
      def = second OutDef (λ e. cc) ∙ f.outputs OutDef tt;
      svg = second OutSvg (λ e. cc) ∙ f.outputs OutSvg tt;
    }

    files_since : (files : Slot → List ℕ) → AreFilesRefused request files fault a c
    files_since files = record {
      design = design_since;
      stil = λ early. second OutStil (λ e. cc) ∙ f.outputs OutStil tt;
      stil_begun = λ late. absurd (early late);
    }

  pub put_line : HasPutLine (names_of request) fault b c → IsRefused request a c
  put_line put = record {
    unused = unused_since put.elsewhere;
    none_open = λ slot open_now. elim (slot_cases slot Console) [
      | inl e ↦ not_open_closed (c Console) put.put.closed (at_slot (λ s. IsOpen (c s)) slot Console e open_now)
      | inr ne ↦ f.none_open slot (state_same IsOpen (b slot) (c slot) (sym (put.elsewhere slot ne)) open_now)
    ];
    counts = λ slot. elim (slot_cases slot Console) [
      | inl e ↦ at_slot (λ s. (c s).faults ≡ (a s).faults) Console slot (sym e) (put.put.faults ∙ f.counts Console)
      | inr ne ↦ ap (λ (s : SlotState). s.faults) (put.elsewhere slot ne) ∙ f.counts slot
    ];
    design = design_since put.elsewhere;
    refused = λ files holds. record {
      fault = fault;
      first = f.first files holds;
      outputs = files_since put.elsewhere files;
      line = appended_since _ (a Console) (b Console) (c Console) (f.outputs Console tt) put.put.appended;
    };
  }

  pub failed_at_line : HasFailedAtLine (names_of request) fault b c → IsOutputFailed request a c
  failed_at_line failed = record {
    unused = unused_since failed.elsewhere;
    rose = record { slot = Console; is = tt; risen = risen_since _ (a Console) (b Console) (f.outputs Console tt) failed.risen };
    inputs = λ slot input. ap (λ (s : SlotState). s.faults) (failed.elsewhere slot (apart slot Console input tt)) ∙ f.counts slot;
    prefixes = λ files holds. inr (inr (record {
      fault = fault;
      first = f.first files holds;
      outputs = files_since failed.elsewhere files;
      prefix = prefix_since _ (a Console) (b Console) (c Console) (f.outputs Console tt) failed.prefix;
    }));
  }

  pub ran_out : SameEverywhere b c → IsOutOfMemory request a c
  ran_out same = ran_out_untouched request a c (λ slot unused. same slot ∙ f.unused slot unused) (λ slot. ap (λ (s : SlotState). s.faults) (same slot) ∙ f.counts slot)
      (λ slot output. same slot ∙ f.outputs slot output)

  pub said_ended : (ended : Result (Unit {0}) Stop) → HasSaid (names_of request) fault b c ended → HasEnded request a c ended
  said_ended (Ok done) said = absurd said
  said_ended (Err NoForm) said = absurd said
  said_ended (Err Refused) said = put_line said
  said_ended (Err InputFailed) said = absurd said
  said_ended (Err OutputFailed) said = failed_at_line said
  said_ended (Err NoMemory) said = ran_out said

-- the taking of the inputs stopped at one of them

module _ (request : Request) (slot : Slot) (a b : Slots) (did : SlotState → SlotState → Type 0) (stopped : HasStoppedAt (names_of request) slot a b did) where
  pub here_kept : stopped.between slot ≡ a slot
  here_kept = stopped.before.others slot (λ input used lt. absurd (omega (arith, lt)))

  slot_or_not : (other : Slot) → (other ≡ slot) ⊎ (other ≢ slot)
  slot_or_not other = slot_cases other slot

  other_kept : (other : Slot) → other ≢ slot → ((IsInput other → IsUsed request other → number other < number slot → ⊥) → b other ≡ a other)
  other_kept other ne none = stopped.elsewhere other ne ∙ stopped.before.others other none

  pub output_as_was : (other : Slot) → IsOutput other → b other ≡ a other
  output_as_was other output = other_kept other (λ e. apart slot other stopped.input output (sym e)) (λ input used lt. not_both other input output)

  pub unused_as_was : (other : Slot) → (IsUsed request other → ⊥) → b other ≡ a other
  unused_as_was other unused = other_kept other (unused_apart request other slot unused stopped.named) (λ input used lt. unused used)

  pub early : (other : Slot) → ((IsInput other × IsUsed request other × (number other < number slot))) ⊎ (IsInput other → IsUsed request other → number other < number slot → ⊥)
  early other = elim (input_or_output other) [
    | inr output ↦ inr (λ input used lt. not_both other input output)
    | inl input ↦ elim (used_or_not request other) [
      | inr unused ↦ inr (λ reads used lt. unused used)
      | inl used ↦ below_cases ((IsInput other × IsUsed request other × (number other < number slot)) ⊎ (IsInput other → IsUsed request other → number other < number slot → ⊥)) (number other) (number slot)
          (λ lt. inl (input, used, lt)) (λ nlt. inr (λ reads uses lt. nlt lt))
    ]
  ]

  count_before : (other : Slot) → (stopped.between other).faults ≡ (a other).faults
  count_before other = elim (early other) [
    | inl t ↦ (stopped.before.taken other t.0 t.1 t.2).faults
    | inr none ↦ ap (λ (s : SlotState). s.faults) (stopped.before.others other none)
  ]

  pub count_as_was : (b slot).faults ≡ (stopped.between slot).faults → (other : Slot) → (b other).faults ≡ (a other).faults
  count_as_was here other = elim (slot_or_not other) [
    | inl e ↦ at_slot (λ s. (b s).faults ≡ (a s).faults) slot other (sym e) (here ∙ ap (λ (s : SlotState). s.faults) here_kept)
    | inr ne ↦ ap (λ (s : SlotState). s.faults) (stopped.elsewhere other ne) ∙ count_before other
  ]

  -- the slots that were opened are closed, so a fault that was found is found
  pub found_closed : (fault : Fault) → AllUnopened a → IsClosed (b slot) → (b slot).faults ≡ (stopped.between slot).faults
      → ((files : Slot → List ℕ) → Reads request files a → IsRunFault request files fault) → Found request fault a b
  found_closed fault unopened shut faults first = record {
    unused = unused_as_was;
    outputs = output_as_was;
    counts = count_as_was faults;
    none_open = λ other open_now. elim (slot_or_not other) [
      | inl e ↦ not_open_closed (b slot) shut (at_slot (λ s. IsOpen (b s)) other slot e open_now)
      | inr ne ↦ not_open_before other (state_same IsOpen (stopped.between other) (b other) (sym (stopped.elsewhere other ne)) open_now)
    ];
    first = first;
  }
    where
      not_open_before : (other : Slot) → IsOpen (stopped.between other) → ⊥
      not_open_before other open_now = elim (early other) [
        | inl t ↦ not_open_closed (stopped.between other) (stopped.before.taken other t.0 t.1 t.2).closed open_now
        | inr none ↦ not_open_unopened (a other) (unopened other) (state_same IsOpen (a other) (stopped.between other) (sym (stopped.before.others other none)) open_now)
      ]

  -- the inputs that were taken before are small
  pub small_before : ((other : Slot) → number other < number slot → IsWhole request other) → (files : Slot → List ℕ) → Reads request files a
      → (other : Slot) → IsInput other → number other < number slot → IsUsed request other → IsOver request other (files other) → ⊥
  small_before whole files holds other input lt used =
      let t = stopped.before.taken other input used lt in
      let same = ap length (text_is _ _ (input_at stopped.texts other) (files other) (holds other input used) t.front t.at_end) in
      let small = stopped.before.small other input used lt in
      small_of request other (files other) input (whole other lt) (omega (arith, same, small))

-- an input was too large

module _ (request : Request) (slot : Slot) (a b : Slots) (unopened : AllUnopened a) (whole : (other : Slot) → number other ≤ number slot → IsWhole request other)
    (stopped : HasStoppedAt (names_of request) slot a b (IsTooLarge (limit_of slot))) where
  abbrev large : SlotState → SlotState → Type 0
  large = IsTooLarge (limit_of slot)

  over : (files : Slot → List ℕ) → Reads request files a → IsOver request slot (files slot)
  over files holds =
      over_of request slot (files slot) stopped.input (whole slot (omega arith))
      (over_limit _ _ stopped.here.taken (files slot) (limit_of slot)
      (ap (λ (s : SlotState). s.unread) (here_kept request slot a b large stopped) ∙ holds slot stopped.input stopped.named) stopped.here.front stopped.here.over)

  pub found_large : Found request (size_fault slot) a b
  found_large = found_closed request slot a b large stopped (size_fault slot) unopened stopped.here.closed stopped.here.faults
      (λ files holds. inl (size_first request files slot stopped.input stopped.named (over files holds)
      (small_before request slot a b large stopped (λ other lt. whole other (omega (arith, lt))) files holds)))

-- an input failed, or memory ran out

pub input_failed : (request : Request) (slot : Slot) (a b : Slots) → HasStoppedAt (names_of request) slot a b HasFailedToTake → IsInputFailed request a b
input_failed request slot a b stopped =
    failed_untouched request a b (unused_as_was request slot a b HasFailedToTake stopped)
    (record { slot = slot; is = stopped.input; risen = risen_since _ (a slot) (stopped.between slot) (here_kept request slot a b HasFailedToTake stopped) stopped.here.risen })
    (output_as_was request slot a b HasFailedToTake stopped)

pub inputs_ran_out : (request : Request) (slot : Slot) (a b : Slots) → HasStoppedAt (names_of request) slot a b HasRunOut → IsOutOfMemory request a b
inputs_ran_out request slot a b stopped =
    ran_out_untouched request a b (unused_as_was request slot a b HasRunOut stopped) (count_as_was request slot a b HasRunOut stopped stopped.here.faults)
    (output_as_was request slot a b HasRunOut stopped)

-- all inputs were taken, and then the command finished

module _ (request : Request) (texts : List (Option (List ℕ))) (a b c : Slots) (unopened : AllUnopened a) (whole : (command_of request).streams ≡ false)
    (early : (kind : Kind) → IsFoundWriting request kind → ⊥)
    (taken : HasTakenInputs (names_of request) 8 texts a b) where
  abbrev kept : (slot : Slot) → IsOutput slot → b slot ≡ a slot
  kept slot output = output_kept request texts a b taken slot output

  not_open : (slot : Slot) → IsOpen (b slot) → ⊥
  not_open slot open_now = elim (input_or_output slot) [
    | inl input ↦ elim (used_or_not request slot) [
      | inl used ↦ not_open_closed (b slot) (taken_here request texts a b taken slot input used).closed open_now
      | inr unused ↦ not_open_unopened (a slot) (unopened slot) (state_same IsOpen (a slot) (b slot) (sym (unused_kept request texts a b taken slot unused)) open_now)
    ]
    | inr output ↦ not_open_unopened (a slot) (unopened slot) (state_same IsOpen (a slot) (b slot) (sym (kept slot output)) open_now)
  ]

  found_own : (fault : Fault) → IsCommandFault request (input_at texts) fault → Found request fault a b
  found_own fault found = record {
    unused = unused_kept request texts a b taken;
    outputs = kept;
    counts = counts_kept request texts a b taken;
    none_open = not_open;
    first = λ files holds. found_first request texts a b taken whole files holds fault found;
  }

  put_all : HasPutAll request texts b c → IsDone request a c
  put_all p = record {
    unused = λ slot unused. p.put.others slot (λ output used lt. unused used) ∙ unused_kept request texts a b taken slot unused;
    none_open = λ slot open_now. elim (put_or_not slot) [
      | inl t ↦ not_open_closed (c slot) (p.put.put slot t.0 t.1 (early_turn slot t.0)).closed open_now
      | inr none ↦ not_open slot (state_same IsOpen (b slot) (c slot) (sym (p.put.others slot none)) open_now)
    ];
    closed = λ slot used. elim (input_or_output slot) [
      | inl input ↦ state_same IsClosed (c slot) (b slot) (p.put.others slot (λ output uses lt. not_both slot input output)) (taken_here request texts a b taken slot input used).closed
      | inr output ↦ (p.put.put slot output used (early_turn slot output)).closed
    ];
    read = λ slot input used. state_same IsAtEnd (c slot) (b slot) (p.put.others slot (λ output uses lt. not_both slot input output)) (taken_here request texts a b taken slot input used).at_end;
    counts = λ slot. elim (put_or_not slot) [
      | inl t ↦ (p.put.put slot t.0 t.1 (early_turn slot t.0)).faults ∙ counts_kept request texts a b taken slot
      | inr none ↦ ap (λ (s : SlotState). s.faults) (p.put.others slot none) ∙ counts_kept request texts a b taken slot
    ];
    done = λ files holds. record {
      outputs = p.outputs;
      are = judged_outputs request texts a b taken whole files holds p.outputs p.judged;
      texts = λ slot output used. appended_since _ (a slot) (b slot) (c slot) (kept slot output) (p.put.put slot output used (early_turn slot output)).appended;
    };
  }
    where
      put_or_not : (slot : Slot) → (IsOutput slot × IsUsed request slot) ⊎ (IsOutput slot → IsUsed request slot → turn slot < 5 → ⊥)
      put_or_not slot = elim (input_or_output slot) [
        | inl input ↦ inr (λ output used lt. not_both slot input output)
        | inr output ↦ elim (used_or_not request slot) [
          | inl used ↦ inl (output, used)
          | inr unused ↦ inr (λ writes used lt. unused used)
        ]
      ]

  put_some : HasPutSome request texts b c → IsOutputFailed request a c
  put_some p =
      let s = p.stopped in
      let at : Slot = s.slot in
      let here : s.between at ≡ b at = s.before.others at (λ output used lt. absurd (omega (arith, lt))) in
      record {
        unused = λ slot unused.
            s.elsewhere slot (unused_apart request slot at unused s.named)
            ∙ s.before.others slot (λ output used lt. unused used) ∙ unused_kept request texts a b taken slot unused;
        rose = record { slot = at; is = s.output; risen = risen_since _ (a at) (s.between at) (here ∙ kept at s.output) s.risen };
        inputs = λ slot input.
            ap (λ (state : SlotState). state.faults) (s.elsewhere slot (apart slot at input s.output) ∙ s.before.others slot (λ output used lt. not_both slot input output))
            ∙ counts_kept request texts a b taken slot;
        prefixes = λ files holds. inr (inl (record {
          outputs = p.outputs;
          are = before_of request files p.outputs (judged_outputs request texts a b taken whole files holds p.outputs p.judged);
          faultless = inl (none_of request files p.outputs (judged_outputs request texts a b taken whole files holds p.outputs p.judged));
          prefixes = λ slot output used. elim (slot_cases slot at) [
            | inl e ↦ at_slot (λ t. HoldsPrefix (output_at p.outputs t) (a t) (c t)) at slot (sym e)
                (prefix_since _ (a at) (s.between at) (c at) (here ∙ kept at s.output) s.prefix)
            | inr ne ↦ below_cases (HoldsPrefix (output_at p.outputs slot) (a slot) (c slot)) (turn slot) (turn at)
                (λ lt. all_held _ _ _ (subst (λ (state : SlotState). IsAppended (output_at p.outputs slot) (a slot) state) (sym (s.elsewhere slot ne))
                (appended_since _ (a slot) (b slot) (s.between slot) (kept slot output) (s.before.put slot output used lt).appended)))
                (λ nlt. nothing_held _ _ _ (s.elsewhere slot ne ∙ s.before.others slot (λ writes uses lt. nlt lt) ∙ kept slot output))
          ];
        }));
      }

  pub finished : (ended : Result (Unit {0}) Stop) → HasFinished request texts b c ended → HasEnded request a c ended
  finished (Ok done) f = put_all f
  finished (Err NoForm) f = absurd f
  finished (Err Refused) f = put_line request f.fault a b c (early f.fault.kind) (found_own f.fault f.first) f.then_did
  finished (Err InputFailed) f = absurd f
  finished (Err OutputFailed) (inl p) = put_some p
  finished (Err OutputFailed) (inr f) = failed_at_line request f.fault a b c (early f.fault.kind) (found_own f.fault f.first) f.then_did
  finished (Err NoMemory) same = ran_out_untouched request a c (λ slot unused. same slot ∙ unused_kept request texts a b taken slot unused)
      (λ slot. ap (λ (s : SlotState). s.faults) (same slot) ∙ counts_kept request texts a b taken slot) (λ slot output. same slot ∙ kept slot output)

-- no file of an input is longer than its limit
pub limit_small : (slot : Slot) → limit_of slot < 2 ^ 32
limit_small Table = omega arith
limit_small slot = omega arith

pub in_limits : (request : Request) (texts : List (Option (List ℕ))) (a b : Slots) → HasTakenInputs (names_of request) 8 texts a b → AreInLimits texts
in_limits request texts a b taken slot input = elim (used_or_not request slot) [
  | inl used ↦ taken.small slot input used (low_number slot input)
  | inr unused ↦ let none = ap length (taken.no_text slot (λ reads used lt. unused used)) in omega (arith, none)
]

-- so the readers can count its bytes
pub countable : (texts : List (Option (List ℕ))) → AreInLimits texts → (slot : Slot) → IsInput slot → length (input_at texts slot) < 2 ^ 32
countable texts limits slot input = let small = limits slot input in let limit = limit_small slot in omega (arith, small, limit)
