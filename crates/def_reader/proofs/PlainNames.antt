-- Names that are plain as they are written.
use Rattle.std.proofs.Common.{◌≡◌, ℕ, Bool, true, false, cond, not, eqb, List, [], ◌∷◌, refl, ap}
use Rattle.std.specs.List.{list_any}
use Rattle.base_types.specs.Names.{plain_name}
use Rattle.base_types.proofs.TruthValues.{or_first, or_second}

with_first : (b : ℕ) (t : Bool) (bs rest : List ℕ) → t ≡ false → rest ≡ bs → cond (not t) (b ∷ rest) rest ≡ b ∷ bs
with_first b true bs rest e h = absurd cc
with_first b false bs rest e h = ap (λ (l : List ℕ). b ∷ l) h

-- without a backslash a name is its own plain name
pub as_written : (bs : List ℕ) → list_any (λ b. eqb b 92) bs ≡ false → plain_name bs ≡ bs
as_written [] e = refl
as_written (b ∷ bs) e = with_first b (eqb b 92) bs (plain_name bs) (or_first _ _ e) (as_written bs (or_second _ _ e))
