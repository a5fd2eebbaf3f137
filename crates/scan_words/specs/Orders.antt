-- The order that words say.
use Rattle.std.specs.Prelude.{ℕ, Bool, true, false, not, ◌==◌, List, [], ◌∷◌, length, codes, Option, Some, None}
use Rattle.scan_words.specs.declared.order.Order.{Order}
use Rattle.scan_words.specs.declared.table.OptionForm.{OptionForm}
use Rattle.scan_words.specs.declared.verb.Verb.{Verb}
use Rattle.scan_words.specs.Form.{◌>>=◌, Text, only_if, parts_from, values_of}
use Rattle.scan_words.specs.Table.{Values, each_value, are_apart}
use Rattle.scan_words.specs.Verbs.{options_of, option_names, takes_further, verb_of}

-- as many further words as the command takes: none, or one or more
abbrev pub is_count : Bool → ℕ → Bool
is_count true n = not (n == 0)
is_count false n = n == 0

-- the values that a table asks for: of each option in its order, the files and the pins pairwise different
abbrev pub values_by : Values → List OptionForm → Option (List Text)
values_by values table = do
  given ← each_value values table
  apart ← only_if (are_apart values table)
  Some given

-- the order of these values, by their names
unfoldable pub order_by : Verb → Values → Option Order
order_by verb values = do
  given ← values_by values (options_of verb)
  count ← only_if (is_count (takes_further verb) (length (values (codes "further"))))
  Some (record { verb = verb; values = given; further = values (codes "further") })

-- the order that the words behind a command say
unfoldable pub verb_order : Verb → List Text → Option Order
verb_order verb words = do
  parts ← parts_from (option_names verb) (takes_further verb) None words
  order_by verb (λ name. values_of name parts)

-- the order that the words of a written form say
unfoldable pub order_in : List Text → Option Order
order_in [] = None
order_in (command ∷ words) = verb_of command >>= λ verb. verb_order verb words
