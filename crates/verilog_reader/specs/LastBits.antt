-- The last bits of a constant as two numbers: which bits are 1, and which are unknown.
use Rattle.std.specs.Prelude.{◌≡◌, ℕ, zero, suc, ◌/◌, ◌%◌, ◌≤◌, not, ◌==◌, if◌then◌else◌, List, [], ◌∷◌, ◌++◌, filter}
use Rattle.netlist_core.specs.declared.netlist.Bit.{Bit}
use Rattle.netlist_core.specs.declared.netlist.Bit.TheVariants.{Unknown}
use Rattle.verilog_reader.specs.declared.constant.LastBits.{LastBits}
use Rattle.verilog_reader.specs.Constants.{bit_of, fitted}

-- the digits of a constant alone
abbrev pub without_underscores : List ℕ → List ℕ
without_underscores digits = filter (λ c. not (c == 95)) digits

-- a bit, undefined where the mask says so
abbrev pub masked_bit : ℕ → ℕ → Bit
masked_bit one unknown = if unknown == 0 then bit_of one else Unknown

-- the last n bits, from the left
unfoldable pub masked_bits : ℕ → ℕ → ℕ → List Bit
masked_bits zero ones unknown = []
masked_bits (suc n) ones unknown = masked_bits n (ones / 2) (unknown / 2) ++ masked_bit (ones % 2) (unknown % 2) ∷ []

-- up to 128 of these bits are known from the right, with missing ones in front
pub record AreLastBits (fill : Bit) (bits : List Bit) (last : LastBits) : Type 0 where
  pub each : (n : ℕ) → n ≤ 128 → masked_bits n last.ones last.unknown ≡ fitted n fill bits
