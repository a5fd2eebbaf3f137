-- Laws of the definitions, which know nothing of the code.
use Rattle.std.specs.Prelude.{◌≡◌, ◌↔◌, ℕ, List}
use Rattle.token_forms.specs.Tokens.{Token}
use Rattle.token_forms.specs.Forms.{Form, AreMany, ◌◂◌}
use Rattle.token_forms.specs.Laws.{Stands}
use Rattle.stil_syntax.specs.declared.item.Item.{Item}
use Rattle.stil_syntax.specs.declared.shape.Shape.TheVariants.{Scan}
use Rattle.stil_syntax.specs.Names.{name}
use Rattle.stil_syntax.specs.Grammar.{call_end}
use Rattle.stil_syntax.specs.Shapes.{scan_shape, behind_labels}

-- what stands behind the name of a scan call is a Scan with these items exactly where the tokens, all of them, spell them
abbrev pub ItemsLaw : Type 0
ItemsLaw = (ts : List Token) (items : List Item) → (scan_shape (call_end.reads ts) ≡ Scan items) ↔ call_end.spells items ts

-- a name and a colon
abbrev pub label : Form (List ℕ)
label = name ◂ ":"

-- labels stand in front of the rest, and in front of the rest none
pub record HasLabels (ts rest : List Token) : Type 0 where
  pub names : List (List ℕ)
  pub stand : Stands (AreMany label.spells names) ts rest
  pub last : (x : List ℕ) (other : List Token) → Stands (label.spells x) rest other → ⊥

-- what is left behind the labels is so
abbrev pub LabelsLaw : Type 0
LabelsLaw = (ts : List Token) → HasLabels ts (behind_labels ts)
