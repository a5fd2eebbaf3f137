-- The place of the last token, token by token.
use Rattle.std.proofs.Common.{◌≡◌, ℕ, List, [], ◌∷◌, refl}
use Rattle.token_forms.specs.Tokens.{Token}
use Rattle.verilog_writer.specs.Inserted.{last_start}

-- where the last of some tokens begins, or else a place
abbrev pub last_or : ℕ → List Token → ℕ
last_or at [] = at
last_or at (t ∷ ts) = last_or t.start ts

pub last_is : (ts : List Token) → last_start ts ≡ last_or 0 ts
last_is [] = refl
last_is (t ∷ []) = refl
last_is (t ∷ u ∷ us) = last_is (u ∷ us)
