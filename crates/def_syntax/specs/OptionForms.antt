-- The forms along which the reader steps through the statements that have options, each option closed or not. Meaning: Statements;
-- that both agree is options_law.
use Rattle.std.specs.Prelude.{Bool, true, false, List}
use Rattle.token_forms.specs.Tokens.{Token}
use Rattle.token_forms.specs.Forms.{Form, key, ◌&◌, made, made_if, ◌▸◌, ◌◂◌, ◌or◌, at}
use Rattle.def_syntax.specs.Words.{in_components, in_pins, name}
use Rattle.def_syntax.specs.Placements.{placement}
use Rattle.def_syntax.specs.Options.{unread, with_options}
use Rattle.def_syntax.specs.Pieces.{fresh_component, put_component, component_of, fresh_pin, put_pin, pin_of}
use Rattle.def_syntax.specs.declared.component.ComponentOption.{ComponentOption}
use Rattle.def_syntax.specs.declared.component.ComponentOption.TheVariants as component_options
use Rattle.def_syntax.specs.declared.component.Component.{Component}
use Rattle.def_syntax.specs.declared.pin.PinOption.{PinOption}
use Rattle.def_syntax.specs.declared.pin.PinOption.TheVariants as pin_options
use Rattle.def_syntax.specs.declared.pin.DesignPin.{DesignPin}

-- a form whose tokens are said in other words
abbrev pub said : {X : Type 0} → (X → List Token → Type 0) → Form X → Form X
said says form = record form { spells = says }

-- + PLACED ..    + FIXED ..    + COVER ..    + UNPLACED    + tokens
unfoldable pub component_option : Bool → Form ComponentOption
component_option closed =
    "+" ▸ (made component_options.Placed placement
    or made (λ nothing. component_options.Unplaced) (key "UNPLACED")
    or made (λ word. component_options.Other) (unread closed in_components))

-- - name cell option .. ;
unfoldable pub component_form : Form Component
component_form = made component_of (with_options (made fresh_component ("-" ▸ (name & name))) put_component (component_option true) (component_option false) ◂ ";")

-- + NET net    + PLACED ..    + FIXED ..    + COVER ..    + tokens
unfoldable pub pin_option : Bool → Form PinOption
pin_option closed =
    "+" ▸ (made pin_options.Placed placement
    or made (λ p. pin_options.Net (record { text = p.0; span = p.1 })) ("NET" ▸ at name)
    or made (λ word. pin_options.Other) (unread closed in_pins))

-- - name option .. ;    with + NET net exactly once
unfoldable pub design_pin_form : Form DesignPin
design_pin_form = made_if pin_of (with_options (made fresh_pin ("-" ▸ name)) put_pin (pin_option true) (pin_option false) ◂ ";")
