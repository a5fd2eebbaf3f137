-- The statements that have options, by their tokens and in plain words (LEF/DEF 5.8, COMPONENTS, PINS and NETS, in this profile).
-- OptionForms says the same as forms, along which the reader steps; that both agree is options_law.
use Rattle.std.specs.Prelude.{◌≡◌, ℕ, Bool, true, false, ◌&&◌, not, ◌==◌, if◌then◌else◌, List, [], ◌∷◌, ◌++◌, drop, Option, Some, None, codes}
use Rattle.std.specs.List.{list_all}
use Rattle.std.specs.Str.{bytes_eq}
use Rattle.token_forms.specs.Tokens.{Token, place_of}
use Rattle.token_forms.specs.Classes.{Only, But, is_in, begins}
use Rattle.token_forms.specs.Forms.{key, ◌▸◌, at}
use Rattle.def_syntax.specs.Words.{marks, in_components, in_pins, name}
use Rattle.def_syntax.specs.Options.{open_behind, first_word}
use Rattle.def_syntax.specs.Placements.{placement}
use Rattle.def_syntax.specs.declared.placement.Placement.{Placement}
use Rattle.def_syntax.specs.declared.component.ComponentOption.{ComponentOption}
use Rattle.def_syntax.specs.declared.component.ComponentOption.TheVariants as component_options
use Rattle.def_syntax.specs.declared.component.Component.{Component}
use Rattle.def_syntax.specs.declared.pin.PinOption.{PinOption}
use Rattle.def_syntax.specs.declared.pin.PinOption.TheVariants as pin_options
use Rattle.def_syntax.specs.declared.pin.NetWord.{NetWord}
use Rattle.def_syntax.specs.declared.pin.DesignPin.{DesignPin}
use Rattle.def_syntax.specs.declared.net_parts.NetOption.{NetOption}

-- tokens cut before each `+` outside brackets, where so many are open in front: what stands before the first cut, and the pieces
unfoldable pub cut_at : ℕ → List Token → List Token × List (List Token)
cut_at depth [] = ([], [])
cut_at depth (t ∷ ts) =
    let behind = cut_at (open_behind depth t.text) ts in
    if bytes_eq t.text (codes "+") && depth == 0 then ([], (t ∷ behind.0) ∷ behind.1) else (t ∷ behind.0, behind.1)

-- the token is no semicolon
abbrev pub is_within : Token → Bool
is_within t = not (bytes_eq t.text (codes ";"))

-- each piece is the option of a value
abbrev pub AreEach : {X : Type 0} → (X → List Token → Type 0) → List X → List (List Token) → Type 0
AreEach IsOption [] [] = Unit {0}
AreEach IsOption [] (s ∷ ss) = ⊥
AreEach IsOption (x ∷ xs) [] = ⊥
AreEach IsOption (x ∷ xs) (s ∷ ss) = IsOption x s × AreEach IsOption xs ss

-- the tokens are the options of these values: they begin with a `+`, if there are any, and each `+` outside brackets begins one
pub record AreOptions {X : Type 0} (IsOption : X → List Token → Type 0) (xs : List X) (ts : List Token) : Type 0 where
  pub front : (cut_at 0 ts).0 ≡ []
  pub within : list_all is_within ts ≡ true
  pub each : AreEach IsOption xs (cut_at 0 ts).1

-- an option of a component behind its `+`: a placement, UNPLACED alone, or tokens that begin with none of the words of these
abbrev pub IsComponentOption : ComponentOption → List Token → Type 0
IsComponentOption (component_options.Placed place) s = placement.spells place (drop 1 s)
IsComponentOption component_options.Unplaced s = (key "UNPLACED").spells tt (drop 1 s)
IsComponentOption component_options.Other s = begins (Only in_components ∷ []) (drop 1 s) ≡ false

-- an option of a design pin: NET and a net, a placement, or tokens that begin with none of the words of these
abbrev pub IsPinOption : PinOption → List Token → Type 0
IsPinOption (pin_options.Net net) s = ("NET" ▸ at name).spells (net.text, net.span) (drop 1 s)
IsPinOption (pin_options.Placed place) s = placement.spells place (drop 1 s)
IsPinOption pin_options.Other s = begins (Only in_pins ∷ []) (drop 1 s) ≡ false

-- an option of a net: any tokens, of which the first is told, and the place
abbrev pub IsNetOption : NetOption → List Token → Type 0
IsNetOption option s = (option.word ≡ first_word (drop 1 s)) × (option.span ≡ place_of s)

-- the first option that speaks of a component's place decides it; UNPLACED says that there is none
abbrev pub component_place : List ComponentOption → Option Placement
component_place [] = None
component_place (component_options.Placed place ∷ xs) = Some place
component_place (component_options.Unplaced ∷ xs) = None
component_place (component_options.Other ∷ xs) = component_place xs

-- the first placement of a design pin
abbrev pub pin_place : List PinOption → Option Placement
pin_place [] = None
pin_place (pin_options.Net net ∷ xs) = pin_place xs
pin_place (pin_options.Placed place ∷ xs) = Some place
pin_place (pin_options.Other ∷ xs) = pin_place xs

-- the nets that a design pin names
abbrev pub nets_in : List PinOption → List NetWord
nets_in [] = []
nets_in (pin_options.Net net ∷ xs) = net ∷ nets_in xs
nets_in (pin_options.Placed place ∷ xs) = nets_in xs
nets_in (pin_options.Other ∷ xs) = nets_in xs

-- a name: any token but the marks ( ) + ;
abbrev pub is_name : Token → Bool
is_name t = is_in (But marks) t.text

-- - name cell option .. ;
pub record IsComponentText (c : Component) (s : List Token) : Type 0 where
  pub dash : Token
  pub name : Token
  pub cell : Token
  pub behind : List Token
  pub end : Token
  pub is : s ≡ dash ∷ name ∷ cell ∷ (behind ++ end ∷ [])
  pub begins : dash.text ≡ codes "-"
  pub names : (is_name name ≡ true) × (is_name cell ≡ true)
  pub ends : end.text ≡ codes ";"
  pub values : List ComponentOption
  pub options : AreOptions IsComponentOption values behind
  pub value : c ≡ record { name = name.text; cell = cell.text; place = component_place values }

-- - name option .. ;    with one NET
pub record IsPinText (p : DesignPin) (s : List Token) : Type 0 where
  pub dash : Token
  pub name : Token
  pub behind : List Token
  pub end : Token
  pub is : s ≡ dash ∷ name ∷ (behind ++ end ∷ [])
  pub begins : dash.text ≡ codes "-"
  pub named : is_name name ≡ true
  pub ends : end.text ≡ codes ";"
  pub values : List PinOption
  pub options : AreOptions IsPinOption values behind
  pub net : NetWord
  pub one_net : nets_in values ≡ net ∷ []
  pub value : p ≡ record { name = name.text; net = net.text; net_span = net.span; place = pin_place values }
