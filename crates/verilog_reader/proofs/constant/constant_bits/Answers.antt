use Rattle.std.proofs.Common.{ℕ, ◌≡◌, List, sym, subst}
use Rattle.std.specs.Prelude.{IfOk}
use Rattle.netlist_core.specs.declared.netlist.Bit.{Bit}
use Rattle.verilog_checks.specs.ConstantSizes.{constant_size}
use Rattle.verilog_reader.specs.Constants.{constant_base, constant_digits, bits_in, constant_bits}
use Rattle.verilog_reader.specs.LastBits.{masked_bits, without_underscores}
use Rattle.verilog_reader.proofs.constant.constant_bits.Goals as goal

whole : (text digits : List ℕ) (size base : ℕ) (bits : List Bit) → bits ≡ bits_in size base (without_underscores digits)
    → constant_size text ≡ size → base ≡ constant_base text → without_underscores digits ≡ constant_digits text → bits ≡ constant_bits text
unfolding constant_bits
whole text digits size base bits are is base_is digits_are = rw (is, ← base_is, ← digits_are) are

pub returns : goal.returns
returns c =
    let text = c.args.text.now in
    let size = c.constant_size-size.result in
    let last = c.last_bits.result in
    let base = c.base_and_digits-base.result.0 in
    let digits = c.base_and_digits-base.result.1.now in
    let bits = whole text digits size base (masked_bits size last.ones last.unknown) (c.last_bits.ensures.value size c.constant_size-size.ensures.within) (sym c.constant_size-size.ensures.value) c.base_and_digits-base.ensures.base c.base_and_digits-base.ensures.digits in
    record { value = subst (λ (xs : List Bit). IfOk c.bits_of.result (λ read. read ≡ xs)) bits c.bits_of.ensures.value }
