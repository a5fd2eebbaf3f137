-- Parts in which some slots are filled anew; `texts` gives the tokens of a new text.
use Rattle.std.proofs.Common.{◌≡◌, ℕ, List, [], ◌∷◌, ◌++◌}
use Rattle.splice.specs.declared.Edit.{Edit}
use Rattle.token_forms.specs.Parts.{Part, Fixed, Slot}

-- the first edit is that of an expression
pub record IsEdit (texts : List ℕ → List (List ℕ)) (ps : List Part) (e : Edit) (qs : List Part) (More : List Part → List Part → Type 0) : Type 0 where
  pub before : List Part
  pub opening : ℕ
  pub inner : List (List ℕ)
  pub closing : ℕ
  pub behind : List Part
  pub later : List Part
  pub is : ps ≡ before ++ Slot opening e.span inner closing ∷ behind
  pub edited : qs ≡ before ++ Slot opening e.span (texts e.text) closing ∷ later
  pub more : More behind later

-- the edits are of expressions, in their order, and qs are the parts with these replaced
abbrev pub AreEdits : (List ℕ → List (List ℕ)) → List Edit → List Part → List Part → Type 0
AreEdits texts [] ps qs = qs ≡ ps
AreEdits texts (e ∷ es) ps qs = IsEdit texts ps e qs (AreEdits texts es)
