-- What the forms of the reader spell is what the plain words of Statements say.
use Rattle.std.specs.Prelude.{true, false, List}
use Rattle.token_forms.specs.Tokens.{Token}
use Rattle.def_syntax.specs.Options.{options}
use Rattle.def_syntax.specs.OptionForms.{component_form, design_pin_form}
use Rattle.def_syntax.specs.Grammar.{net_option}
use Rattle.def_syntax.specs.Statements.{AreOptions, IsNetOption, IsComponentText, IsPinText}

-- what a form spells is what the words say, and only that
pub record SaysSame {X : Type 0} (spells Says : X → List Token → Type 0) : Type 0 where
  pub there : (x : X) (s : List Token) → spells x s → Says x s
  pub back : (x : X) (s : List Token) → Says x s → spells x s

-- of a statement of COMPONENTS
abbrev pub ComponentLaw : Type 0
ComponentLaw = SaysSame component_form.spells IsComponentText

-- of a statement of PINS
abbrev pub PinLaw : Type 0
PinLaw = SaysSame design_pin_form.spells IsPinText

-- of the options of a statement of NETS
abbrev pub NetOptionsLaw : Type 0
NetOptionsLaw = SaysSame (options (net_option true) (net_option false)).spells (AreOptions IsNetOption)
