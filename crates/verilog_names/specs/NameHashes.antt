-- What a `NameHasher` computes.
use Rattle.std.specs.Prelude.{ℕ, ◌+◌, ◌*◌, ◌/◌, ◌%◌, ◌^◌, ◌-◌, List, [], ◌∷◌, bit_and, bit_xor, nat_le, if◌then◌else◌}
use Rattle.std.specs.Hash.DefaultHasher as sip
use Rattle.verilog_syntax.specs.VerilogTokens.{is_digit}
use Rattle.verilog_names.specs.declared.name_hash.NameHasher.{NameHasher}
use Rattle.verilog_names.specs.declared.name_hash.NameState.{NameState}

-- the key of a text: SipHash-1-3 of all its bytes
abbrev pub keyed : List ℕ → NameState
keyed text = record { key = sip.finish (sip.write sip.initial text) }

-- nothing hashed yet
abbrev pub started : NameState → NameHasher
started s = record { state = s.key; word = 1; last = 0 }

-- an odd number whose bits look random
abbrev pub mixer : ℕ
mixer = 0x9e37_79b9_7f4a_7c15

-- the two halves of the 128 bits of a product, joined by xor
unfoldable pub folded : ℕ → ℕ → ℕ
folded a b = bit_xor (bit_and (a * b) (2 ^ 64 - 1)) (a * b / 2 ^ 64)

-- one more byte waits below the mark, and seven are folded
abbrev pub pushed : NameHasher → ℕ → NameHasher
pushed h b =
    let word = (h.word * 256 % 2 ^ 64 + b) % 2 ^ 64 in
    if nat_le (2 ^ 56) word then record h { state = folded (bit_xor h.state word) mixer; word = 1 } else record h { word = word }

-- the state after a write: of one byte alone does it change, which pushes out the last
abbrev pub written : NameHasher → List ℕ → NameHasher
written h [] = h
written h (b ∷ []) = record (pushed h h.last) { last = b }
written h (b ∷ c ∷ bs) = h

-- all bytes but a digit at the end, spread over all numbers
abbrev pub spread : NameHasher → ℕ
spread h = folded (bit_xor h.state h.word) (bit_xor mixer (if is_digit h.last then 0 else h.last))

-- the digit at the end
abbrev pub digit : NameHasher → ℕ
digit h = if is_digit h.last then h.last - 48 else 0

-- the number of a name, its highest eight bits mixed: five names that differ in a digit at their end share a number but for these
abbrev pub finished : NameHasher → ℕ
finished h = bit_xor ((spread h + digit h / 5) % 2 ^ 64) ((spread h + digit h) % 2 ^ 64 * mixer % 2 ^ 64 / 2 ^ 56 * 2 ^ 56 % 2 ^ 64)
