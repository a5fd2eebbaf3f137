-- Forms that ask for no places.
use Rattle.std.specs.Prelude.{◌≡◌, List}
use Rattle.token_forms.specs.Tokens.{Token}
use Rattle.token_forms.specs.Parts.{token_texts}
use Rattle.token_forms.specs.Forms.{Form}

-- tokens of the same words spell the same value
pub record IsByWords {X : Type 0} (form : Form X) : Type 0 where
  pub same : (x : X) (ts us : List Token) → token_texts ts ≡ token_texts us → form.spells x ts → form.spells x us
