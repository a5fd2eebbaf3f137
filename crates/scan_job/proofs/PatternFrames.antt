-- What a run of `reorder` with patterns leaves at the slots, before the other outputs are put.
use Rattle.std.proofs.Common.{◌≡◌, ◌≢◌, ◌<◌, ◌⊎◌, ℕ, List, Option, IfSome, refl, sym, ◌∙◌, ap, subst, arith, inl, inr}
use Rattle.base_types.specs.declared.fault.Fault.{Fault}
use Rattle.base_types.specs.FirstFault.{IsFirstFault}
use Rattle.desk_io.specs.declared.slot.Slot.{Slot}
use Rattle.desk_io.specs.declared.slot.Slot.TheVariants.{Table, Lef, Verilog, Def, Stil, NewVerilog, NewStil, Log, OutVerilog, OutDef, OutStil, OutSvg, Console}
use Rattle.desk_io.specs.declared.outputs.Outputs.{Outputs}
use Rattle.desk_io.specs.Number.{number}
use Rattle.desk_io.specs.Desk.{SlotState, IsInput, IsOutput, IsOpen, IsClosed, AllUnopened}
use Rattle.desk_io.specs.Prefixes.{IsAtEnd}
use Rattle.desk_io.specs.Inputs.{input_at, HasTakenInputs}
use Rattle.desk_io.specs.Names.{IsNamed}
use Rattle.design_files.specs.Files.{Texts}
use Rattle.scan_job.specs.declared.commands.patterns.PatternsRequest.{PatternsRequest}
use Rattle.scan_job.specs.Requests.{Request, ReorderPatterns, names_of}
use Rattle.scan_job.specs.Commands.Check.{design_in}
use Rattle.scan_job.specs.Commands.Patterns.{AreRetargeted, IsPatternKind, first_names, last_names}
use Rattle.scan_job.specs.Faults.{IsOver, IsSizeFault, AreSmall, IsRunFault, HasNoCommandFault, HasNoFaultBefore}
use Rattle.scan_job.specs.TopCall.{Slots, IsUsed, Reads, SameUnused, SameDesign}
use Rattle.scan_job.specs.Retargeting.{SameBut, IsRetargetingFault}
use Rattle.scan_job.specs.PatternPhases.{design_of}
use Rattle.desk_io.proofs.Slots.{input_or_output, slot_cases, at_slot, apart}
use Rattle.scan_job.proofs.Agreeing.{design_same}
use Rattle.scan_job.proofs.Sizes.{size_first, size_none}
use Rattle.scan_job.proofs.Phases.{state_same, unused_apart, used_or_not, not_open_closed, not_open_unopened, output_as_was, unused_as_was, count_as_was}
use Rattle.scan_job.proofs.Streamed.{AreFirst, stopped_at, stil_kept, file_is, of_file, small_at, all_small}
use Rattle.scan_job.proofs.Played.{head_shows}

-- the files of the design are what is taken before the STIL slot is opened

named_first : (r : PatternsRequest) (slot : Slot) → IsInput slot → number slot < 4 → IsUsed (ReorderPatterns r) slot → IsNamed (first_names r) slot
named_first r Table input low named = refl
named_first r Lef input low named = refl
named_first r Verilog input low named = refl
named_first r Def input low named = refl
named_first r Stil input low named = absurd (omega (arith, low))
named_first r NewVerilog input low named = absurd (omega (arith, low))
named_first r NewStil input low named = absurd (omega (arith, low))
named_first r Log input low named = absurd (omega (arith, low))
named_first r OutVerilog input low named = absurd input
named_first r OutDef input low named = absurd input
named_first r OutStil input low named = absurd input
named_first r OutSvg input low named = absurd input
named_first r Console input low named = absurd input

-- they are slots of the request
first_used : (r : PatternsRequest) (slot : Slot) → IsNamed (first_names r) slot → IsUsed (ReorderPatterns r) slot
first_used r Table named = refl
first_used r Lef named = refl
first_used r Verilog named = refl
first_used r Def named = refl
first_used r Console named = refl
first_used r slot named = absurd cc

-- so are those that are put behind the patterns
pub last_used : (r : PatternsRequest) (slot : Slot) → IsNamed (last_names r) slot → IsUsed (ReorderPatterns r) slot
last_used r OutVerilog named = refl
last_used r OutDef named = refl
last_used r Console named = refl
last_used r slot named = absurd cc

first_low : (r : PatternsRequest) (slot : Slot) → IsInput slot → IsNamed (first_names r) slot → number slot < 4
first_low r Table input named = omega arith
first_low r Lef input named = omega arith
first_low r Verilog input named = omega arith
first_low r Def input named = omega arith
first_low r Stil input named = absurd cc
first_low r NewVerilog input named = absurd cc
first_low r NewStil input named = absurd cc
first_low r Log input named = absurd cc
first_low r OutVerilog input named = absurd input
first_low r OutDef input named = absurd input
first_low r OutStil input named = absurd input
first_low r OutSvg input named = absurd input
first_low r Console input named = absurd input

pub are_first : (r : PatternsRequest) → AreFirst (ReorderPatterns r) (first_names r)
are_first r = record { named = named_first r; used = first_used r; low = first_low r; stil = refl }

-- an output that is used is that of the patterns, or is put behind them
pub stil_or_last : (r : PatternsRequest) (slot : Slot) → IsOutput slot → IsUsed (ReorderPatterns r) slot → (slot ≡ OutStil) ⊎ IsNamed (last_names r) slot
stil_or_last r OutStil output used = inl refl
stil_or_last r OutVerilog output used = inr refl
stil_or_last r OutDef output used = inr refl
stil_or_last r OutSvg output used = absurd cc
stil_or_last r Console output used = inr refl
stil_or_last r Table output used = absurd output
stil_or_last r Lef output used = absurd output
stil_or_last r Verilog output used = absurd output
stil_or_last r Def output used = absurd output
stil_or_last r Stil output used = absurd output
stil_or_last r NewVerilog output used = absurd output
stil_or_last r NewStil output used = absurd output
stil_or_last r Log output used = absurd output

-- the STIL file is the last input
low_input : (r : PatternsRequest) (slot : Slot) → IsInput slot → IsUsed (ReorderPatterns r) slot → slot ≢ Stil → number slot < 4
low_input r Table input used ne = omega arith
low_input r Lef input used ne = omega arith
low_input r Verilog input used ne = omega arith
low_input r Def input used ne = omega arith
low_input r Stil input used ne = absurd (ne refl)
low_input r NewVerilog input used ne = absurd cc
low_input r NewStil input used ne = absurd cc
low_input r Log input used ne = absurd cc
low_input r slot input used ne = absurd input

abbrev nothing : SlotState → SlotState → Type 0
nothing old new = Unit {0}

module _ (r : PatternsRequest) (texts : List (Option (List ℕ))) (a b : Slots) (unopened : AllUnopened a) (taken : HasTakenInputs (names_of (ReorderPatterns r)) 4 texts a b) where
  abbrev request : Request
  request = ReorderPatterns r

  pub b_out : (slot : Slot) → IsOutput slot → b slot ≡ a slot
  b_out = output_as_was request Stil a b nothing (stopped_at request refl texts a b taken b (λ other ne. refl))

  pub b_count : (slot : Slot) → (b slot).faults ≡ (a slot).faults
  b_count = count_as_was request Stil a b nothing (stopped_at request refl texts a b taken b (λ other ne. refl)) refl

  pub b_stil : b Stil ≡ a Stil
  b_stil = stil_kept request refl texts a b taken

  b_closed : (slot : Slot) → IsInput slot → IsUsed request slot → slot ≢ Stil → IsClosed (b slot)
  b_closed slot input used ne = (taken.taken slot input used (low_input r slot input used ne)).closed

  b_end : (slot : Slot) → IsInput slot → IsUsed request slot → slot ≢ Stil → IsAtEnd (b slot)
  b_end slot input used ne = (taken.taken slot input used (low_input r slot input used ne)).at_end

  b_unused : SameUnused request a b
  b_unused = unused_as_was request Stil a b nothing (stopped_at request refl texts a b taken b (λ other ne. refl))

  -- what the files are

  module _ (files : Slot → List ℕ) (holds : Reads request files a) where
    design_is : design_of texts ≡ design_in files
    design_is = design_same (input_at texts) files (at Table tt refl (omega arith)) (at Lef tt refl (omega arith)) (at Verilog tt refl (omega arith)) (at Def tt refl (omega arith))
      where
        at : (slot : Slot) → IsInput slot → IsUsed request slot → number slot < 4 → input_at texts slot ≡ files slot
        at slot input used low = file_is request refl texts a b taken files holds slot input used low

    -- what holds of the texts that were taken and of the bytes of the STIL slot holds of the files
    pub of_files : (P : Texts → List ℕ → Type 0) → IfSome (b Stil).unread (λ stil. P (design_of texts) stil) → P (design_in files) (files Stil)
    of_files P held = subst (λ (t : Texts). P t (files Stil)) design_is (of_file request refl texts a b taken files holds (λ stil. P (design_of texts) stil) held)

    -- a fault that was found is that of the run
    pub run_fault : (fault : Fault) → IsRetargetingFault (design_in files) (files Stil) fault → IsRunFault request files fault
    run_fault fault (inl none) =
        inl (subst (λ (f : Fault). IsFirstFault (IsSizeFault request files) f) (sym none.1)
        (size_first request files Stil tt refl none.0 (λ other input lt used. small_at request refl texts a b taken files holds other input lt used)))
    run_fault fault (inr first) = inr (all_small request refl texts a b taken files holds (low_input r) first.0, first.1)

    module _ (outputs : Outputs) (are : AreRetargeted r (design_in files) (files Stil) outputs) where
      shows : IsOver request Stil (files Stil) → ⊥
      shows over = head_shows (files Stil) are.text are.head_is over

      -- a fault of the run is one of the files
      own_fault : (fault : Fault) → IsRunFault request files fault → IsRetargetingFault (design_in files) (files Stil) fault
      own_fault fault (inl large) = absurd (size_none request files (all_small request refl texts a b taken files holds (low_input r) shows) fault large.holds)
      own_fault fault (inr own) = inr (shows, own.1)

      pub small_is : AreSmall request files
      small_is = all_small request refl texts a b taken files holds (low_input r) shows

      pub none_is : ((fault : Fault) → IsRetargetingFault (design_in files) (files Stil) fault → ⊥) → HasNoCommandFault request files
      none_is none fault own = none fault (inr (shows, own))

      pub none_before : ((fault : Fault) → IsRetargetingFault (design_in files) (files Stil) fault → IsPatternKind fault.kind) → HasNoFaultBefore request files
      none_before late fault is = late fault (own_fault fault is)

  -- what stands where no slot changed but both of STIL

  module _ (e : Slots) (elsewhere : SameBut Stil OutStil b e) where
    pub e_unused : SameUnused request a e
    e_unused slot unused = elsewhere slot (unused_apart request slot Stil unused refl) (unused_apart request slot OutStil unused refl) ∙ b_unused slot unused

    pub e_out : (slot : Slot) → IsOutput slot → slot ≢ OutStil → e slot ≡ a slot
    e_out slot output ne = elsewhere slot (λ is. apart Stil slot tt output (sym is)) ne ∙ b_out slot output

    pub e_in : (slot : Slot) → IsInput slot → slot ≢ Stil → e slot ≡ b slot
    e_in slot input ne = elsewhere slot ne (λ is. apart slot OutStil input tt is)

    pub e_design : SameDesign a e
    e_design = record { verilog = e_out OutVerilog tt (λ is. cc); def = e_out OutDef tt (λ is. cc); svg = e_out OutSvg tt (λ is. cc) }

    pub e_count : (e Stil).faults ≡ (b Stil).faults → (e OutStil).faults ≡ (b OutStil).faults → (slot : Slot) → (e slot).faults ≡ (a slot).faults
    e_count stil out slot = elim (slot_cases slot Stil) [
      | inl is ↦ at_slot (λ s. (e s).faults ≡ (a s).faults) Stil slot (sym is) (stil ∙ b_count Stil)
      | inr ne ↦ elim (slot_cases slot OutStil) [
        | inl is ↦ at_slot (λ s. (e s).faults ≡ (a s).faults) OutStil slot (sym is) (out ∙ b_count OutStil)
        | inr other ↦ ap (λ (s : SlotState). s.faults) (elsewhere slot ne other) ∙ b_count slot
      ]
    ]

    pub in_count : (e Stil).faults ≡ (b Stil).faults → (slot : Slot) → IsInput slot → (e slot).faults ≡ (a slot).faults
    in_count stil slot input = elim (slot_cases slot Stil) [
      | inl is ↦ at_slot (λ s. (e s).faults ≡ (a s).faults) Stil slot (sym is) (stil ∙ b_count Stil)
      | inr ne ↦ ap (λ (s : SlotState). s.faults) (e_in slot input ne) ∙ b_count slot
    ]

    pub e_closed : IsClosed (e Stil) → (slot : Slot) → IsInput slot → IsUsed request slot → IsClosed (e slot)
    e_closed stil slot input used = elim (slot_cases slot Stil) [
      | inl is ↦ at_slot (λ s. IsClosed (e s)) Stil slot (sym is) stil
      | inr ne ↦ state_same IsClosed (e slot) (b slot) (e_in slot input ne) (b_closed slot input used ne)
    ]

    pub e_end : IsAtEnd (e Stil) → (slot : Slot) → IsInput slot → IsUsed request slot → IsAtEnd (e slot)
    e_end stil slot input used = elim (slot_cases slot Stil) [
      | inl is ↦ at_slot (λ s. IsAtEnd (e s)) Stil slot (sym is) stil
      | inr ne ↦ state_same IsAtEnd (e slot) (b slot) (e_in slot input ne) (b_end slot input used ne)
    ]

    pub e_open : IsClosed (e Stil) → (IsOpen (e OutStil) → ⊥) → (slot : Slot) → IsOpen (e slot) → ⊥
    e_open stil out slot open_now = elim (input_or_output slot) [
      | inl input ↦ elim (used_or_not request slot) [
        | inl used ↦ not_open_closed (e slot) (e_closed stil slot input used) open_now
        | inr unused ↦ not_open_unopened (a slot) (unopened slot) (state_same IsOpen (a slot) (e slot) (sym (e_unused slot unused)) open_now)
      ]
      | inr output ↦ elim (slot_cases slot OutStil) [
        | inl is ↦ out (at_slot (λ s. IsOpen (e s)) slot OutStil is open_now)
        | inr ne ↦ not_open_unopened (a slot) (unopened slot) (state_same IsOpen (a slot) (e slot) (sym (e_out slot output ne)) open_now)
      ]
    ]
