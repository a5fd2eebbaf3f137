-- What is kept of the names of bits.
use Rattle.std.specs.Prelude.{◌≡◌, ◌==◌, ◌&&◌, ℕ, Bool, List, Option, option_map}
use Rattle.std.specs.Borrow.{Bor}
use Rattle.std.specs.HashMap.{HashMap, get}
use Rattle.std.specs.List.{find}
use Rattle.chain_trace.specs.declared.path.BitId.{BitId}
use Rattle.head_writer.specs.declared.names.NamedBit.{NamedBit}
use Rattle.head_writer.specs.NewChains.{is_bit}

-- the same instance, the same scan path and the same place in it
abbrev pub same_key : ℕ × ℕ × ℕ → ℕ × ℕ × ℕ → Bool
same_key a b = (a.0 == b.0 && a.1 == b.1) && a.2 == b.2

-- the name that is noted of a bit
abbrev pub noted : {S : Type 0} → HashMap (ℕ × ℕ × ℕ) (Bor (List ℕ)) S → BitId → Option (List ℕ)
noted map bit = option_map (λ name. name.now) (get same_key map (bit.instance, bit.path, bit.index))

-- of each bit the first name is noted
pub record AreFirst (names : List NamedBit) {S : Type 0} (map : HashMap (ℕ × ℕ × ℕ) (Bor (List ℕ)) S) : Type 0 where
  pub first : (bit : BitId) → noted map bit ≡ option_map (λ n. n.name) (find (λ n. is_bit n.bit bit) names)
