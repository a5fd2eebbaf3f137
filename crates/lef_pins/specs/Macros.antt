-- The macros of a LEF by their names.
use Rattle.std.specs.Prelude.{ℕ, if◌then◌else◌, List, [], ◌∷◌, Option}
use Rattle.std.specs.Map.{lookup}
use Rattle.std.specs.Str.{bytes_eq}
use Rattle.lef_pins.specs.declared.macros.Macro.{Macro}

-- each macro with its name
abbrev pub NamedMacros : Type 0
NamedMacros = List (List ℕ × Macro)

-- the macro of a name
abbrev pub macro_at : List ℕ → NamedMacros → Option Macro
macro_at name macros = lookup (bytes_eq name) macros

-- macros by name, and one more: a name that stands again has the later one
abbrev pub with_macro : NamedMacros → List ℕ → Macro → NamedMacros
with_macro [] name m = (name, m) ∷ []
with_macro (e ∷ es) name m = if bytes_eq name e.0 then (e.0, m) ∷ es else e ∷ with_macro es name m
