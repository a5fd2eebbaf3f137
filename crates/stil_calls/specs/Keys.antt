-- The keys of names: numbers that are alike where the names are.
use Rattle.std.specs.Prelude.{ℕ, ◌+◌, ◌-◌, ◌*◌, ◌%◌, ◌^◌, Bool, true, ◌&&◌, nat_lt, if◌then◌else◌, List, [], ◌∷◌}
use Rattle.stil_syntax.specs.Digits.{is_digit}

-- the number of the digits, with one byte more
abbrev pub number_behind : ℕ → ℕ → ℕ
number_behind number b = if is_digit b then ((number * 10) % 2 ^ 32 + (b - 48)) % 2 ^ 32 else number

-- the other bytes, with one more
abbrev pub letters_behind : ℕ → ℕ → ℕ
letters_behind letters b = if is_digit b then letters else ((letters * 31) % 2 ^ 32 + b) % 2 ^ 32

-- the key of a name of which these bytes are left
abbrev pub key_from : ℕ → ℕ → List ℕ → ℕ
key_from number letters [] = ((number * 4294967296) % 2 ^ 64 + letters) % 2 ^ 64
key_from number letters (b ∷ bs) = key_from (number_behind number b) (letters_behind letters b) bs

-- the key of a name
abbrev pub key_of : List ℕ → ℕ
key_of name = key_from 0 0 name

-- behind a key: each is greater than the one before it
abbrev pub keys_rise_beside : ℕ → List ℕ → Bool
keys_rise_beside last [] = true
keys_rise_beside last (key ∷ keys) = nat_lt last key && keys_rise_beside key keys

-- each key is greater than the one before it
abbrev pub keys_rise : List ℕ → Bool
keys_rise [] = true
keys_rise (key ∷ keys) = keys_rise_beside key keys
