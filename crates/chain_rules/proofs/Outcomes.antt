-- What a test has to show where it answers yes or no.
use Rattle.std.proofs.Common.{◌↔◌, true, false, IsTrue, refl}
use Rattle.std.proofs.lemmas.Bool.{false≢true}

pub says_no : {P : Type 0} → (P → ⊥) → IsTrue false ↔ P
says_no f = (λ h. absurd (false≢true h), λ p. absurd (f p))

pub says_yes : {P : Type 0} → P → IsTrue true ↔ P
says_yes p = (λ _. p, λ _. refl)
