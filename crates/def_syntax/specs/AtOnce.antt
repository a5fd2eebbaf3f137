-- What a text without a fault of form is read as in one pass, with its components or without them.
use Rattle.std.specs.Prelude.{ℕ, Bool, true, false, ◌&&◌, not, if◌then◌else◌, List, [], ◌∷◌, Option, Some, None, is_some, codes}
use Rattle.token_forms.specs.Tokens.{Token}
use Rattle.token_forms.specs.Parsing.{◌>>=◌}
use Rattle.def_syntax.specs.Frames.{is_end}
use Rattle.def_syntax.specs.Designs.{statements_of}
use Rattle.def_syntax.specs.Reading.{fresh_found, read_turn, design_of}
use Rattle.def_syntax.specs.declared.frame.SectionKind.{SectionKind}
use Rattle.def_syntax.specs.declared.frame.SectionKind.TheVariants.{Components, Pins, Nets, ScanChains}
use Rattle.def_syntax.specs.declared.design.DesignText.{DesignText}
use Rattle.def_syntax.specs.declared.found.Opened.{Opened}
use Rattle.def_syntax.specs.declared.found.Found.{Found}

-- the text's statements but for those of its components
abbrev pub without_components : DesignText → DesignText
without_components t = record t { components = [] }

-- a statement within a section of a kind is that of a component
abbrev pub is_component_in : SectionKind → List Token → Bool
is_component_in Components s = not (is_end (codes "COMPONENTS") s)
is_component_in Pins s = false
is_component_in Nets s = false
is_component_in ScanChains s = false

-- a statement is, where this section is open or none
abbrev pub is_component : Option Opened → List Token → Bool
is_component None s = false
is_component (Some o) s = is_component_in o.kind s

-- what is read so far and a statement behind it, where no section stays open, and components are read only where they are wanted
abbrev pub wanted_turn : Bool → List ℕ → Found → List Token → Option Found
wanted_turn components text found s = if not components && is_component found.section s then Some found else read_turn text None found s

-- the statements up to END DESIGN, where it stands and all are read
unfoldable pub read_wanted : Bool → List ℕ → Found → List (List Token) → Option Found
read_wanted components text found [] = None
read_wanted components text found (s ∷ ss) =
    if is_end (codes "DESIGN") s then Some found else (wanted_turn components text found s >>= λ next. read_wanted components text next ss)

-- what is read, with its UNITS, where no section is open
abbrev pub closed_design : Found → Option DesignText
closed_design found = if is_some found.section then None else design_of found

-- what a text is read as
unfoldable pub read_at_once : Bool → List ℕ → Option DesignText
read_at_once components text = read_wanted components text fresh_found (statements_of text) >>= closed_design
