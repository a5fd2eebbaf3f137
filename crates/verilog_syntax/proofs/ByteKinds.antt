-- The table of the kinds of bytes against the tests on bytes.
use Rattle.std.proofs.Common.{◌≡◌, ℕ, ◌==◌, ◌<◌, Bool, false, map, get_or, refl, ap, sym, ◌∙◌, arith}
use Rattle.std.proofs.lemmas.List.{get_or-map}
use Rattle.std.proofs.lemmas.List.FromFn.{get_or-map-range_with_len}
use Rattle.std.specs.Prelude.{nat_lt}
use Rattle.std.specs.List.{range_with_len}
use Rattle.verilog_syntax.specs.VerilogTokens.{is_blank, is_digit, is_word_start, is_word}
use Rattle.verilog_syntax.specs.declared.bytes.TheConstants.{KINDS}

-- a test of the kind at each place is a test of the byte
at_byte : (p q : ℕ → Bool) → map p KINDS ≡ map q (range_with_len 0 256) → (b : ℕ) → b < 256 → p (get_or KINDS b 0) ≡ q b
at_byte p q same b h =
    sym (get_or-map p KINDS b 0 false h) ∙ ap (λ t. get_or t b false) same ∙ get_or-map-range_with_len q 0 256 b b false h (omega arith)

pub blank_at : (b : ℕ) → b < 256 → (get_or KINDS b 0 == 1) ≡ is_blank b
blank_at b h = at_byte (λ (k : ℕ). k == 1) is_blank refl b h

pub start_at : (b : ℕ) → b < 256 → (get_or KINDS b 0 == 2) ≡ is_word_start b
start_at b h = at_byte (λ (k : ℕ). k == 2) is_word_start refl b h

pub digit_at : (b : ℕ) → b < 256 → (get_or KINDS b 0 == 3) ≡ is_digit b
digit_at b h = at_byte (λ (k : ℕ). k == 3) is_digit refl b h

pub word_at : (b : ℕ) → b < 256 → nat_lt 1 (get_or KINDS b 0) ≡ is_word b
word_at b h = at_byte (λ (k : ℕ). nat_lt 1 k) is_word refl b h
