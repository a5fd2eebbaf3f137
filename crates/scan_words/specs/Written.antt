-- The written form of the words: a command, then options, each as `--name value` or as `--name=value`, and further
-- words, in any order.
use Rattle.std.specs.Prelude.{◌≡◌, true, ◌⊎◌, List, [], ◌∷◌, ◌++◌, codes, Some}
use Rattle.scan_words.specs.declared.order.Order.{Order}
use Rattle.scan_words.specs.declared.verb.Verb.{Verb}
use Rattle.scan_words.specs.Form.{Text, Part, is_name, is_value, values_of}
use Rattle.scan_words.specs.Verbs.{option_names, takes_further, verb_name}
use Rattle.scan_words.specs.Orders.{order_by}

-- `--name`
abbrev pub dashed : Text → Text
dashed name = 45 ∷ 45 ∷ name

-- `--name=value`
abbrev pub attached : Text → Text → Text
attached name value = dashed name ++ 61 ∷ value

-- an option of the command with its value, as two words or as one, or a further word where the command takes them;
-- these words stand before the rest
abbrev pub IsSpelled : Verb → Part → List Text → List Text → Type 0
IsSpelled verb part words rest =
    ((is_name (option_names verb) part.0 ≡ true) × (words ≡ dashed part.0 ∷ part.1 ∷ rest))
    ⊎ ((is_name (option_names verb) part.0 ≡ true) × (words ≡ attached part.0 part.1 ∷ rest))
    ⊎ ((part.0 ≡ codes "further") × (takes_further verb ≡ true) × (words ≡ part.1 ∷ rest))

-- the words are these parts, one behind the other, and no value and no further word is empty or begins with a hyphen
abbrev pub AreSpelled : Verb → List Part → List Text → Type 0
AreSpelled verb [] words = words ≡ []
AreSpelled verb (p ∷ ps) words = (rest : List Text) × (is_value p.1 ≡ true) × IsSpelled verb p words rest × AreSpelled verb ps rest

-- the words say this order: the command's word, then the parts, in which each option has one value
pub record Says (words : List Text) (order : Order) : Type 0 where
  pub behind : List Text
  pub parts : List Part
  pub command : words ≡ verb_name order.verb ∷ behind
  pub spelled : AreSpelled order.verb parts behind
  pub values : order_by order.verb (λ name. values_of name parts) ≡ Some order
