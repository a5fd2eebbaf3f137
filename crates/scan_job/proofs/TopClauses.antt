-- The clauses of the top call, from how its run ended.
use Rattle.std.proofs.Common.{◌≡◌, ◌<◌, ◌⊎◌, ℕ, List, [], Result, Ok, Err, sym, ◌∙◌, ap, subst, append-nil, arith, inl, inr}
use Rattle.std.proofs.lemmas.Option.{same_Some}
use Rattle.base_types.specs.declared.fault.Fault.{Fault}
use Rattle.desk_io.specs.declared.slot.Slot.{Slot}
use Rattle.desk_io.specs.declared.slot.Slot.TheVariants.{OutVerilog, OutDef, OutSvg, Console}
use Rattle.desk_io.specs.Desk.{SlotState, IsOutput}
use Rattle.desk_io.specs.Prefixes.{IsAppended, HoldsPrefix}
use Rattle.scan_words.specs.declared.order.Order.{Order}
use Rattle.scan_words.specs.Written.{Says}
use Rattle.scan_words.proofs.Written.{says_read}
use Rattle.scan_job.specs.declared.stop.Stop.{Stop}
use Rattle.scan_job.specs.declared.stop.Stop.TheVariants.{NoForm, Refused, InputFailed, OutputFailed, NoMemory}
use Rattle.scan_job.specs.Requests.{Request, Asks, order_of}
use Rattle.scan_job.specs.Faults.{IsRunFault, HasNoFault}
use Rattle.scan_job.specs.TopCall.{Slots, SaysNothing, SameEverywhere, SameUnused, SameDesign, Reads, NoneRose, HasDone, HasRefused, HasWritten, AllClosed, AllRead}
use Rattle.scan_job.proofs.Asked.{order_once}
use Rattle.scan_job.proofs.Phases.{none_of, before_of}
use Rattle.scan_job.specs.Ended.{IsDone, IsRefused, IsInputFailed, IsOutputFailed, IsOutOfMemory, HasRun, status_of}

-- the words say one order at most
pub says_one : (words : List (List ℕ)) (one other : Order) → Says words one → Says words other → one ≡ other
says_one words one other first second = same_Some _ _ (sym (says_read words one first) ∙ says_read words other second)

asks_one : (words : List (List ℕ)) (one other : Request) → Asks words one → Asks words other → one ≡ other
asks_one words one other first second = order_once one other (says_one words (order_of one) (order_of other) first second)

for_request : (words : List (List ℕ)) (P : Request → Type 0) (one other : Request) → Asks words one → Asks words other → P one → P other
for_request words P one other first second held = subst P (asks_one words one other first second) held

all_held : (bytes : List ℕ) (old new : SlotState) → IsAppended bytes old new → HoldsPrefix bytes old new
all_held bytes old new appended = record { front = bytes; rest = []; prefix = sym (append-nil bytes); appended = appended }

module _ (words : List (List ℕ)) (old new : Slots) where
  pub no_form : (ended : Result (Unit {0}) Stop) (status : ℕ) → status ≡ status_of ended → HasRun words old new ended → status ≡ 1 → SaysNothing words
  no_form (Err NoForm) status is run one = run.0
  no_form (Err NoMemory) status is run one = absurd (omega arith)
  no_form (Ok done) status is run one = absurd (omega arith)
  no_form (Err Refused) status is run one = absurd (omega arith)
  no_form (Err InputFailed) status is run one = absurd (omega arith)
  no_form (Err OutputFailed) status is run one = absurd (omega arith)

  pub unopened : (ended : Result (Unit {0}) Stop) → HasRun words old new ended → SaysNothing words → SameEverywhere old new
  unopened (Err NoForm) run none = run.1
  unopened (Err NoMemory) (inl same) none = same
  unopened (Err NoMemory) (inr run) none = absurd (none (order_of run.0) run.1)
  unopened (Ok done) run none = absurd (none (order_of run.0) run.1)
  unopened (Err Refused) run none = absurd (none (order_of run.0) run.1)
  unopened (Err InputFailed) run none = absurd (none (order_of run.0) run.1)
  unopened (Err OutputFailed) run none = absurd (none (order_of run.0) run.1)

  abbrev same_design : ((slot : Slot) → IsOutput slot → new slot ≡ old slot) → SameDesign old new
  same_design same = record { verilog = same OutVerilog tt; def = same OutDef tt; svg = same OutSvg tt }

  pub untouched : (ended : Result (Unit {0}) Stop) (status : ℕ) → status ≡ status_of ended → HasRun words old new ended
      → (status ≡ 1) ⊎ (status ≡ 2) ⊎ (status ≡ 3) ⊎ (status ≡ 5) → SameDesign old new
  untouched (Err NoForm) status is run one = same_design (λ slot output. run.1 slot)
  untouched (Err NoMemory) status is (inl same) one = same_design (λ slot output. same slot)
  untouched (Err NoMemory) status is (inr run) one = run.2.design
  untouched (Ok done) status is run one = absurd (omega arith)
  untouched (Err Refused) status is run one = run.2.design
  untouched (Err InputFailed) status is run one = run.2.design
  untouched (Err OutputFailed) status is run one = absurd (omega arith)

  pub silent : (ended : Result (Unit {0}) Stop) (status : ℕ) → status ≡ status_of ended → HasRun words old new ended
      → (status ≡ 1) ⊎ (status ≡ 3) ⊎ (status ≡ 5) → new Console ≡ old Console
  silent (Err NoForm) status is run one = run.1 Console
  silent (Err NoMemory) status is (inl same) one = same Console
  silent (Err NoMemory) status is (inr run) one = run.2.silent
  silent (Ok done) status is run one = absurd (omega arith)
  silent (Err Refused) status is run one = absurd (omega arith)
  silent (Err InputFailed) status is run one = run.2.silent
  silent (Err OutputFailed) status is run one = absurd (omega arith)

  -- an output's count rose: that was answered, or memory ran out at words
  pub output_answered : (ended : Result (Unit {0}) Stop) (status : ℕ) → status ≡ status_of ended → HasRun words old new ended
      → (slot : Slot) → IsOutput slot → (old slot).faults < (new slot).faults → (status ≡ 4) ⊎ (status ≡ 5)
  output_answered (Ok done) status is run slot output rose = let same = run.2.counts slot in absurd (omega (arith, same, rose))
  output_answered (Err NoForm) status is run slot output rose = let same = ap (λ (s : SlotState). s.faults) (run.1 slot) in absurd (omega (arith, same, rose))
  output_answered (Err NoMemory) status is run slot output rose = inr is
  output_answered (Err Refused) status is run slot output rose = let same = run.2.counts slot in absurd (omega (arith, same, rose))
  output_answered (Err InputFailed) status is run slot output rose = let same = run.2.outputs slot output in absurd (omega (arith, same, rose))
  output_answered (Err OutputFailed) status is run slot output rose = inl is

  module _ (request : Request) (says : Asks words request) where
    pub unused : (ended : Result (Unit {0}) Stop) → HasRun words old new ended → SameUnused request old new
    unused (Ok done) run = (for_request words (λ r. IsDone r old new) run.0 request run.1 says run.2).unused
    unused (Err NoForm) run = λ slot none. run.1 slot
    unused (Err NoMemory) (inl same) = λ slot none. same slot
    unused (Err NoMemory) (inr run) = (for_request words (λ r. IsOutOfMemory r old new) run.0 request run.1 says run.2).unused
    unused (Err Refused) run = (for_request words (λ r. IsRefused r old new) run.0 request run.1 says run.2).unused
    unused (Err InputFailed) run = (for_request words (λ r. IsInputFailed r old new) run.0 request run.1 says run.2).unused
    unused (Err OutputFailed) run = (for_request words (λ r. IsOutputFailed r old new) run.0 request run.1 says run.2).unused

    pub closed : (ended : Result (Unit {0}) Stop) (status : ℕ) → status ≡ status_of ended → HasRun words old new ended → status ≡ 0 → AllClosed request new
    closed (Ok done) status is run zero = (for_request words (λ r. IsDone r old new) run.0 request run.1 says run.2).closed
    closed (Err NoForm) status is run zero = absurd (omega arith)
    closed (Err NoMemory) status is run zero = absurd (omega arith)
    closed (Err Refused) status is run zero = absurd (omega arith)
    closed (Err InputFailed) status is run zero = absurd (omega arith)
    closed (Err OutputFailed) status is run zero = absurd (omega arith)

    pub read : (ended : Result (Unit {0}) Stop) (status : ℕ) → status ≡ status_of ended → HasRun words old new ended → status ≡ 0 → AllRead request new
    read (Ok done) status is run zero = (for_request words (λ r. IsDone r old new) run.0 request run.1 says run.2).read
    read (Err NoForm) status is run zero = absurd (omega arith)
    read (Err NoMemory) status is run zero = absurd (omega arith)
    read (Err Refused) status is run zero = absurd (omega arith)
    read (Err InputFailed) status is run zero = absurd (omega arith)
    read (Err OutputFailed) status is run zero = absurd (omega arith)

    module _ (files : Slot → List ℕ) (holds : Reads request files old) where
      pub refuses : (ended : Result (Unit {0}) Stop) (status : ℕ) → status ≡ status_of ended → HasRun words old new ended
          → (fault : Fault) → IsRunFault request files fault → NoneRose old new → (status ≡ 2) ⊎ (status ≡ 5)
      refuses (Err NoForm) status is run fault first none = absurd (run.0 (order_of request) says)
      refuses (Err NoMemory) status is run fault first none = inr is
      refuses (Ok done) status is run fault first none =
          let had : HasDone request files old new = (for_request words (λ r. IsDone r old new) run.0 request run.1 says run.2).done files holds in
          absurd (none_of request files had.outputs had.are fault first)
      refuses (Err Refused) status is run fault first none = inl is
      refuses (Err InputFailed) status is run fault first none = absurd (none run.2.rose.slot run.2.rose.risen)
      refuses (Err OutputFailed) status is run fault first none = absurd (none run.2.rose.slot run.2.rose.risen)

      pub complete : (ended : Result (Unit {0}) Stop) (status : ℕ) → status ≡ status_of ended → HasRun words old new ended
          → HasNoFault request files → NoneRose old new → (status ≡ 0) ⊎ (status ≡ 5)
      complete (Err NoForm) status is run fine none = absurd (run.0 (order_of request) says)
      complete (Err NoMemory) status is run fine none = inr is
      complete (Ok done) status is run fine none = inl is
      complete (Err Refused) status is run fine none =
          let had : HasRefused request files old new = (for_request words (λ r. IsRefused r old new) run.0 request run.1 says run.2).refused files holds in
          absurd (fine had.fault had.first)
      complete (Err InputFailed) status is run fine none = absurd (none run.2.rose.slot run.2.rose.risen)
      complete (Err OutputFailed) status is run fine none = absurd (none run.2.rose.slot run.2.rose.risen)

      pub all_done : (ended : Result (Unit {0}) Stop) (status : ℕ) → status ≡ status_of ended → HasRun words old new ended → status ≡ 0 → HasDone request files old new
      all_done (Ok done) status is run zero = (for_request words (λ r. IsDone r old new) run.0 request run.1 says run.2).done files holds
      all_done (Err NoForm) status is run zero = absurd (omega arith)
      all_done (Err NoMemory) status is run zero = absurd (omega arith)
      all_done (Err Refused) status is run zero = absurd (omega arith)
      all_done (Err InputFailed) status is run zero = absurd (omega arith)
      all_done (Err OutputFailed) status is run zero = absurd (omega arith)

      pub refusal : (ended : Result (Unit {0}) Stop) (status : ℕ) → status ≡ status_of ended → HasRun words old new ended → status ≡ 2 → HasRefused request files old new
      refusal (Err Refused) status is run two = (for_request words (λ r. IsRefused r old new) run.0 request run.1 says run.2).refused files holds
      refusal (Ok done) status is run two = absurd (omega arith)
      refusal (Err NoForm) status is run two = absurd (omega arith)
      refusal (Err NoMemory) status is run two = absurd (omega arith)
      refusal (Err InputFailed) status is run two = absurd (omega arith)
      refusal (Err OutputFailed) status is run two = absurd (omega arith)

      begun : HasDone request files old new → HasWritten request files old new
      begun had = inr (inl (record { outputs = had.outputs; are = before_of request files had.outputs had.are; prefixes = λ slot output used. all_held _ _ _ (had.texts slot output used); faultless = inl (none_of request files had.outputs had.are) }))

      begun_refusing : HasRefused request files old new → HasWritten request files old new
      begun_refusing had = inr (inr (record { fault = had.fault; first = had.first; outputs = had.outputs; prefix = all_held _ _ _ had.line }))

      pub prefixes : (ended : Result (Unit {0}) Stop) → HasRun words old new ended → HasWritten request files old new
      prefixes (Err NoForm) run = absurd (run.0 (order_of request) says)
      prefixes (Err NoMemory) (inl same) = inl (λ slot output. same slot)
      prefixes (Err NoMemory) (inr run) = (for_request words (λ r. IsOutOfMemory r old new) run.0 request run.1 says run.2).prefixes files holds
      prefixes (Ok done) run = begun ((for_request words (λ r. IsDone r old new) run.0 request run.1 says run.2).done files holds)
      prefixes (Err Refused) run = begun_refusing ((for_request words (λ r. IsRefused r old new) run.0 request run.1 says run.2).refused files holds)
      prefixes (Err InputFailed) run = (for_request words (λ r. IsInputFailed r old new) run.0 request run.1 says run.2).prefixes files holds
      prefixes (Err OutputFailed) run = (for_request words (λ r. IsOutputFailed r old new) run.0 request run.1 says run.2).prefixes files holds
