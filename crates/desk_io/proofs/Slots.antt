-- The slots: their numbers, which are read and which are written, and whether two are one.
use Rattle.std.proofs.Common.{◌≡◌, ◌≢◌, ◌<◌, ◌⊎◌, ℕ, Bool, true, false, nat_lt, refl, ap, subst, arith, inl, inr}
use Rattle.std.proofs.lemmas.Bool.Decides.{nat_tests}
use Rattle.desk_io.specs.declared.slot.Slot.{Slot}
use Rattle.desk_io.specs.declared.slot.Slot.TheVariants.{Table, Lef, Verilog, Def, Stil, NewVerilog, NewStil, Log, OutVerilog, OutDef, OutStil, OutSvg, Console}
use Rattle.desk_io.specs.declared.slot.Way.{Way}
use Rattle.desk_io.specs.declared.slot.Way.TheVariants.{In, Out}
use Rattle.desk_io.specs.Number.{number}
use Rattle.desk_io.specs.Ways.{way_of, IsIn, IsOut}
use Rattle.desk_io.specs.Desk.{IsInput, IsOutput}
use Rattle.desk_io.specs.Outputs.{turn}

pub number_small : (slot : Slot) → number slot < 13
number_small Table = omega arith
number_small Lef = omega arith
number_small Verilog = omega arith
number_small Def = omega arith
number_small Stil = omega arith
number_small NewVerilog = omega arith
number_small NewStil = omega arith
number_small Log = omega arith
number_small OutVerilog = omega arith
number_small OutDef = omega arith
number_small OutStil = omega arith
number_small OutSvg = omega arith
number_small Console = omega arith

-- no two slots have one number
pub number_once : (one other : Slot) → number one ≡ number other → one ≡ other
number_once Table Table e = refl
number_once Lef Lef e = refl
number_once Verilog Verilog e = refl
number_once Def Def e = refl
number_once Stil Stil e = refl
number_once NewVerilog NewVerilog e = refl
number_once NewStil NewStil e = refl
number_once Log Log e = refl
number_once OutVerilog OutVerilog e = refl
number_once OutDef OutDef e = refl
number_once OutStil OutStil e = refl
number_once OutSvg OutSvg e = refl
number_once Console Console e = refl
number_once one other e = absurd (omega arith)

-- one number is below another or not
pub below_cases : (X : Type 0) (m n : ℕ) → (m < n → X) → ((m < n → ⊥) → X) → X
below_cases X m n lower otherwise = cases (nat_lt m n) refl
  where
    cases : (t : Bool) → nat_lt m n ≡ t → X
    cases true e = lower (grind (arith, nat_tests))
    cases false e = otherwise (λ lt. let h : nat_lt m n ≡ true = grind (arith, nat_tests) in absurd cc)

-- two slots are one or not
pub slot_cases : (one other : Slot) → (one ≡ other) ⊎ (one ≢ other)
slot_cases one other =
    below_cases ((one ≡ other) ⊎ (one ≢ other)) (number one) (number other)
    (λ lt. inr (λ e. let same = ap number e in absurd (omega (arith, lt, same))))
    (λ low. below_cases ((one ≡ other) ⊎ (one ≢ other)) (number other) (number one)
    (λ lt. inr (λ e. let same = ap number e in absurd (omega (arith, lt, same))))
    (λ high. inl (number_once one other (between_same (number one) (number other) low high))))
  where
    between_same : (m n : ℕ) → (m < n → ⊥) → (n < m → ⊥) → m ≡ n
    between_same m n low high = grind arith

-- a slot is read or written, and never both
in_or_out : (way : Way) → IsIn way ⊎ IsOut way
in_or_out (In limit) = inl tt
in_or_out (Out turn) = inr tt

in_and_out : (way : Way) → IsIn way → IsOut way → ⊥
in_and_out (In limit) reads writes = writes
in_and_out (Out turn) reads writes = reads

pub input_or_output : (slot : Slot) → IsInput slot ⊎ IsOutput slot
input_or_output slot = in_or_out (way_of slot)

pub not_both : (slot : Slot) → IsInput slot → IsOutput slot → ⊥
not_both slot input output = in_and_out (way_of slot) input output

pub at_slot : (P : Slot → Type 0) (one other : Slot) → one ≡ other → P one → P other
at_slot P one other e held = subst P e held

-- an input is no output
pub apart : (input output : Slot) → IsInput input → IsOutput output → input ≢ output
apart input output reads writes e = not_both output (at_slot IsInput input output e reads) writes

-- the inputs come first
pub low_number : (slot : Slot) → IsInput slot → number slot < 8
low_number Table input = omega arith
low_number Lef input = omega arith
low_number Verilog input = omega arith
low_number Def input = omega arith
low_number Stil input = omega arith
low_number NewVerilog input = omega arith
low_number NewStil input = omega arith
low_number Log input = omega arith
low_number slot input = absurd input

-- each output has its turn
pub early_turn : (slot : Slot) → IsOutput slot → turn slot < 5
early_turn OutVerilog output = omega arith
early_turn OutDef output = omega arith
early_turn OutStil output = omega arith
early_turn OutSvg output = omega arith
early_turn Console output = omega arith
early_turn slot output = absurd output
