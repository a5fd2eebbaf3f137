-- The first of the files that are too large.
use Rattle.std.proofs.Common.{◌≡◌, ◌≢◌, ◌<◌, ◌≤◌, ◌⊎◌, ℕ, Bool, true, false, List, length, Ordering, Less, Equal, Greater, refl, subst, arith, inl, inr}
use Rattle.std.specs.Ordering.{nat_cmp, ordering_then}
use Rattle.std.proofs.lemmas.Cmp.{ranked}
use Rattle.base_types.specs.declared.fault.Fault.{Fault}
use Rattle.base_types.specs.FirstFault.{file_number, ComesBefore, IsFirstFault}
use Rattle.desk_io.specs.declared.slot.Slot.{Slot}
use Rattle.desk_io.specs.declared.slot.Slot.TheVariants.{Table, Lef, Verilog, Def, Stil, NewVerilog, NewStil, Log, OutVerilog, OutDef, OutStil, OutSvg, Console}
use Rattle.desk_io.specs.Number.{number}
use Rattle.desk_io.specs.FileKinds.{file_of}
use Rattle.desk_io.specs.Desk.{IsInput}
use Rattle.desk_io.specs.Names.{IsNamed}
use Rattle.desk_io.specs.Inputs.{limit_of}
use Rattle.desk_io.specs.declared.slot.Way.{Way}
use Rattle.desk_io.specs.declared.slot.Way.TheVariants.{In, Out}
use Rattle.desk_io.specs.Ways.{way_of, IsIn, limit_in, IsLonger}
use Rattle.scan_job.specs.Requests.{Request, command_of, names_of}
use Rattle.scan_job.specs.Faults.{size_fault, IsOverAt, IsOver, IsSizeFault, AreSmall}

-- the inputs are taken in the order of their files
in_order : (slot : Slot) → IsInput slot → file_number (file_of slot) ≡ number slot
in_order Table reads = refl
in_order Lef reads = refl
in_order Verilog reads = refl
in_order Def reads = refl
in_order Stil reads = refl
in_order NewVerilog reads = refl
in_order NewStil reads = refl
in_order Log reads = refl
in_order slot reads = absurd reads

by_file : (m n : ℕ) (r : Ordering) → r ≡ nat_cmp m n → ordering_then r Equal ≡ Less → m < n
by_file m n Less is h = ranked m n Less is
by_file m n Equal is h = absurd cc
by_file m n Greater is h = absurd cc

-- of two files that are too large the one that is taken first comes first
before : (one other : Slot) → IsInput one → IsInput other → ComesBefore (size_fault one) (size_fault other) → number one < number other
before one other reads_one reads_other h =
    let lt = by_file (file_number (file_of one)) (file_number (file_of other)) (nat_cmp (file_number (file_of one)) (file_number (file_of other))) refl h in
    let a = in_order one reads_one in
    let b = in_order other reads_other in
    omega (arith, lt, a, b)

-- a file is taken whole, and is not read as it comes
abbrev pub IsWhole : Request → Slot → Type 0
IsWhole request slot = ((command_of request).streams ≡ false) ⊎ (slot ≢ Stil)

-- such a file is too large where it has more bytes than its limit
longer : (way : Way) (text : List ℕ) → IsIn way → limit_in way < length text → IsLonger way text
longer (In limit) text reads over = over
longer (Out turn) text reads over = absurd reads

over_at : (streams : Bool) (slot : Slot) (text : List ℕ) → (streams ≡ false) ⊎ (slot ≢ Stil) → IsLonger (way_of slot) text → IsOverAt streams slot text
over_at false slot text whole over = over
over_at true Stil text (inl whole) over = absurd cc
over_at true Stil text (inr ne) over = absurd (ne refl)
over_at true Table text whole over = over
over_at true Lef text whole over = over
over_at true Verilog text whole over = over
over_at true Def text whole over = over
over_at true NewVerilog text whole over = over
over_at true NewStil text whole over = over
over_at true Log text whole over = over
over_at true OutVerilog text whole over = over
over_at true OutDef text whole over = over
over_at true OutStil text whole over = over
over_at true OutSvg text whole over = over
over_at true Console text whole over = over

pub over_of : (request : Request) (slot : Slot) (text : List ℕ) → IsInput slot → IsWhole request slot → limit_of slot < length text → IsOver request slot text
over_of request slot text input whole over = over_at (command_of request).streams slot text whole (longer (way_of slot) text input over)

-- and nowhere else
no_longer : (way : Way) (text : List ℕ) → IsIn way → length text ≤ limit_in way → IsLonger way text → ⊥
no_longer (In limit) text reads small over = absurd (omega (arith, small, over))
no_longer (Out turn) text reads small over = over

longer_at : (streams : Bool) (slot : Slot) (text : List ℕ) → (streams ≡ false) ⊎ (slot ≢ Stil) → IsOverAt streams slot text → IsLonger (way_of slot) text
longer_at false slot text whole over = over
longer_at true Stil text (inl whole) over = absurd cc
longer_at true Stil text (inr ne) over = absurd (ne refl)
longer_at true Table text whole over = over
longer_at true Lef text whole over = over
longer_at true Verilog text whole over = over
longer_at true Def text whole over = over
longer_at true NewVerilog text whole over = over
longer_at true NewStil text whole over = over
longer_at true Log text whole over = over
longer_at true OutVerilog text whole over = over
longer_at true OutDef text whole over = over
longer_at true OutStil text whole over = over
longer_at true OutSvg text whole over = over
longer_at true Console text whole over = over

pub small_of : (request : Request) (slot : Slot) (text : List ℕ) → IsInput slot → IsWhole request slot → length text ≤ limit_of slot → IsOver request slot text → ⊥
small_of request slot text input whole small over = no_longer (way_of slot) text input small (longer_at (command_of request).streams slot text whole over)

pub size_none : (request : Request) (files : Slot → List ℕ) → AreSmall request files → (fault : Fault) → IsSizeFault request files fault → ⊥
size_none request files small fault large = small large.slot large.input large.named large.over

pub size_first : (request : Request) (files : Slot → List ℕ) (slot : Slot) → IsInput slot → IsNamed (names_of request) slot → IsOver request slot (files slot)
    → ((other : Slot) → IsInput other → number other < number slot → IsNamed (names_of request) other → IsOver request other (files other) → ⊥)
    → IsFirstFault (IsSizeFault request files) (size_fault slot)
size_first request files slot input named over small = record {
  holds = record { slot = slot; input = input; named = named; over = over; is = refl };
  least = λ fault large first.
      let sooner = before large.slot slot large.input input (subst (λ (f : Fault). ComesBefore f (size_fault slot)) large.is first) in
      small large.slot large.input sooner large.named large.over;
}
