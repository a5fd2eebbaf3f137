-- Which ports are asked for, and in which order.
use Rattle.std.specs.Prelude.{ℕ, if◌then◌else◌, List, [], ◌∷◌, map, Option, option_map}
use Rattle.std.specs.List.{filter_map, list_any}
use Rattle.std.specs.Str.{bytes_eq}
use Rattle.traced_paths.specs.declared.asks.Ask.{Ask}

-- the ports that a chain names, as far as it names some, and the line of its statement
pub record Asked : Type 0 where
  pub input : Option (List ℕ)
  pub output : Option (List ℕ)
  pub line : ℕ

-- what is asked for by lent names
abbrev pub told : Ask → Asked
told a = record { input = option_map (λ name. name.now) a.input; output = option_map (λ name. name.now) a.output; line = a.line }

-- each name where it stands first
unfoldable pub once_behind : List (List ℕ) → List (List ℕ) → List (List ℕ)
once_behind before [] = []
once_behind before (name ∷ names) =
    if list_any (bytes_eq name) before then once_behind before names else name ∷ once_behind (name ∷ before) names

-- the outputs that are asked for, in order, each once
abbrev pub outputs_of : List Asked → List (List ℕ)
outputs_of asked = once_behind [] (filter_map (λ a. a.output) asked)
