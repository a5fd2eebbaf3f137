-- A constant has no net among its bits.
use Rattle.std.proofs.Common.{◌≡◌, ℕ, zero, suc, ◌-◌, ◌/◌, ◌%◌, Bool, true, false, cond, eqb, List, [], ◌∷◌, ◌++◌, length, map, replicate, drop, refl, ap, ◌∙◌}
use Rattle.std.specs.List.{flat_map}
use Rattle.std.specs.List.{AllByRecursion as Each}
use Rattle.verilog_syntax.specs.VerilogTokens.{is_unknown}
use Rattle.netlist_core.specs.declared.netlist.Bit.{Bit}
use Rattle.netlist_core.specs.declared.netlist.Bit.TheVariants.{Net, Zero, One, Unknown}
use Rattle.netlist_core.specs.declared.netlist.NetName.{NetName}
use Rattle.netlist_core.specs.Netlists.{NamedBit, named_bit}
use Rattle.verilog_names.specs.Values.{decimal_value}
use Rattle.verilog_checks.specs.ConstantSizes.{constant_size}
use Rattle.verilog_reader.specs.Constants.{bit_of, value_bits, digit_bits, digit_value, digit_width, fill_of, fitted, is_decimal_base, constant_base, constant_digits, constant_bits}

abbrev pub IsMark : Bit → Type 0
IsMark (Net net) = ⊥
IsMark Zero = Unit {0}
IsMark One = Unit {0}
IsMark Unknown = Unit {0}

each-append : (xs ys : List Bit) → Each IsMark xs → Each IsMark ys → Each IsMark (xs ++ ys)
each-append [] ys a b = b
each-append (x ∷ xs) ys a b = (a.0, each-append xs ys a.1 b)

each-drop : (n : ℕ) (xs : List Bit) → Each IsMark xs → Each IsMark (drop n xs)
each-drop zero xs a = a
each-drop (suc n) [] a = tt
each-drop (suc n) (x ∷ xs) a = each-drop n xs a.1

each-replicate : (n : ℕ) (b : Bit) → IsMark b → Each IsMark (replicate n b)
each-replicate zero b is = tt
each-replicate (suc n) b is = (is, each-replicate n b is)

bit_mark : (v : ℕ) → IsMark (bit_of v)
bit_mark v = by (eqb v 0)
  where
    by : (t : Bool) → IsMark (cond t Zero One)
    by true = tt
    by false = tt

value_marks : (n v : ℕ) → Each IsMark (value_bits n v)
value_marks zero v = tt
value_marks (suc n) v = each-append (value_bits n (v / 2)) (bit_of (v % 2) ∷ []) (value_marks n (v / 2)) (bit_mark (v % 2), tt)

digit_marks : (width c : ℕ) → Each IsMark (digit_bits width c)
digit_marks width c = by (is_unknown c)
  where
    by : (t : Bool) → Each IsMark (cond t (replicate width Unknown) (value_bits width (digit_value c)))
    by true = each-replicate width Unknown tt
    by false = value_marks width (digit_value c)

all_digits : (width : ℕ) (cs : List ℕ) → Each IsMark (flat_map (digit_bits width) cs)
all_digits width [] = tt
all_digits width (c ∷ cs) = each-append (digit_bits width c) (flat_map (digit_bits width) cs) (digit_marks width c) (all_digits width cs)

fill_mark : (cs : List ℕ) → IsMark (fill_of cs)
fill_mark [] = tt
fill_mark (c ∷ cs) = by (is_unknown c)
  where
    by : (t : Bool) → IsMark (cond t Unknown Zero)
    by true = tt
    by false = tt

pub marks : (text : List ℕ) → Each IsMark (constant_bits text)
unfolding constant_bits
marks text = by (is_decimal_base (constant_base text))
  where
    digits : List Bit
    digits = flat_map (digit_bits (digit_width (constant_base text))) (constant_digits text)

    by : (t : Bool) → Each IsMark (cond t (value_bits (constant_size text) (decimal_value (constant_digits text))) (fitted (constant_size text) (fill_of (constant_digits text)) digits))
    by true = value_marks (constant_size text) (decimal_value (constant_digits text))
    by false =
        each-append (replicate (constant_size text - length digits) (fill_of (constant_digits text))) (drop (length digits - constant_size text) digits)
        (each-replicate (constant_size text - length digits) (fill_of (constant_digits text)) (fill_mark (constant_digits text)))
        (each-drop (length digits - constant_size text) digits (all_digits (digit_width (constant_base text)) (constant_digits text)))

same_mark : (nets : List NetName) (b : Bit) → IsMark b → named_bit nets b ≡ named_bit [] b
same_mark nets (Net net) is = absurd is
same_mark nets Zero is = refl
same_mark nets One is = refl
same_mark nets Unknown is = refl

-- so its bits are the same over any nets
pub same_marks : (nets : List NetName) (bits : List Bit) → Each IsMark bits → map (named_bit nets) bits ≡ map (named_bit []) bits
same_marks nets [] are = refl
same_marks nets (b ∷ bits) are =
    ap (λ (n : NamedBit). n ∷ map (named_bit nets) bits) (same_mark nets b are.0) ∙ ap (λ (ns : List NamedBit). named_bit [] b ∷ ns) (same_marks nets bits are.1)
