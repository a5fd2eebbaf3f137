-- The options of a net, and those of their words that stay.
use Rattle.std.specs.Prelude.{◌≡◌, ℕ, Bool, false, if◌then◌else◌, List, [], ◌∷◌}
use Rattle.std.specs.List.{flat_map, list_any}
use Rattle.token_forms.specs.Tokens.{Token}
use Rattle.token_forms.specs.Parts.{token_texts}
use Rattle.def_syntax.specs.Grammar.{net_option, net_parts}
use Rattle.def_syntax.specs.declared.net_parts.NetOption.{NetOption}
use Rattle.def_syntax.specs.declared.net_parts.NetParts.{NetParts}
use Rattle.def_layout.specs.Nets.{begins_wiring, other_words, has_wiring}
use Rattle.def_layout.specs.NetForms.{AreIn}

-- the tokens spell the options, each its own
abbrev pub AreOptions : List NetOption → List (List Token) → Type 0
AreOptions [] [] = Unit {0}
AreOptions [] (o ∷ os) = ⊥
AreOptions (x ∷ xs) [] = ⊥
AreOptions (x ∷ xs) (o ∷ os) = (net_option false).spells x o × AreOptions xs os

-- behind its + an option's first word is one of wiring
abbrev pub is_wiring : List Token → Bool
is_wiring [] = false
is_wiring (t ∷ ts) = begins_wiring (token_texts ts)

-- its words, where it isn't wiring
abbrev pub unless_wiring : List Token → List (List ℕ)
unless_wiring o = if is_wiring o then [] else token_texts o

-- of a statement with these options, the words that stay are those of the options that aren't wiring
pub record KeepsOptions (x : NetParts) (ts : List Token) : Type 0 where
  pub tokens : List (List Token)
  pub options : AreOptions x.options tokens
  pub stay : other_words 0 false (token_texts ts) ≡ flat_map unless_wiring tokens
  pub wiring : has_wiring 0 (token_texts ts) ≡ list_any is_wiring tokens

-- so it is for each net that stands in a text
abbrev pub NetOptionsLaw : Type 0
NetOptionsLaw = (text : List ℕ) (x : NetParts) (ts : List Token) → AreIn text ts → net_parts.spells x ts → KeepsOptions x ts
