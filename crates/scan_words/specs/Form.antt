-- The words of a command.
use Rattle.std.specs.Prelude.{ℕ, Bool, true, false, ◌&&◌, not, ◌==◌, if◌then◌else◌, List, [], ◌∷◌, codes, Option, Some, None, option_and_then}
use Rattle.std.specs.List.{list_any}
use Rattle.std.specs.Option.{option_map_or}
use Rattle.std.specs.Str.{bytes_eq}
use Rattle.clap.specs.Lexer.{long_of}
use Rattle.scan_words.specs.declared.form.WordKind.{WordKind}
use Rattle.scan_words.specs.declared.form.WordKind.TheVariants as kinds

-- what a value leads to, if there is one
infixl 10 ◌>>=◌
abbrev pub ◌>>=◌ : {A B : Type 0} → Option A → (A → Option B) → Option B
o >>= f = option_and_then f o

-- a value, if the test holds
abbrev pub only_if : Bool → Option (Unit {0})
only_if true = Some tt
only_if false = None

-- the bytes of a word
abbrev pub Text : Type 0
Text = List ℕ

-- a text that isn't empty and doesn't begin with a hyphen
abbrev pub is_value : Text → Bool
is_value [] = false
is_value (b ∷ bs) = not (b == 45)

-- the word is one of the options' names
abbrev pub is_name : List Text → Text → Bool
is_name names name = list_any (λ n. bytes_eq n name) names

-- what a word is: a value, an option that waits for its value, an option with its value, or neither
abbrev pub long_kind : List Text → Option (Text × Option Text) → WordKind
long_kind names None = kinds.Wrong
long_kind names (Some (name, None)) = if is_name names name then kinds.Alone else kinds.Wrong
long_kind names (Some (name, Some value)) = if is_name names name && is_value value then kinds.Attached else kinds.Wrong

-- what a word is where an option or a further word may stand
unfoldable pub word_kind : List Text → Text → WordKind
word_kind names word = if is_value word then kinds.Plain else long_kind names (long_of word)

-- a part of the words: an option with its value, or a further word, which stands under the name `further`
abbrev pub Part : Type 0
Part = Text × Text

-- one more part in front
abbrev pub with_part : Part → Option (List Part) → Option (List Part)
with_part part None = None
with_part part (Some parts) = Some (part ∷ parts)

-- the words as parts, where an option may wait for its value; further words stand only where the command takes them
abbrev pub word_parts : Bool → Text → WordKind → Option (Text × Option Text) → (Option Text → Option (List Part)) → Option (List Part)
word_parts takes word kinds.Plain long behind = if takes then with_part (codes "further", word) (behind None) else None
word_parts takes word kinds.Alone (Some (name, value)) behind = behind (Some name)
word_parts takes word kinds.Attached (Some (name, Some value)) behind = with_part (name, value) (behind None)
word_parts takes word _ long behind = None

-- the parts of the words behind the command word, in order, an option's name waiting for its value
unfoldable pub parts_from : List Text → Bool → Option Text → List Text → Option (List Part)
parts_from names takes None [] = Some []
parts_from names takes (Some name) [] = None
parts_from names takes None (w ∷ ws) = word_parts takes w (word_kind names w) (long_of w) (λ want. parts_from names takes want ws)
parts_from names takes (Some name) (w ∷ ws) = if is_value w then with_part (name, w) (parts_from names takes None ws) else None

-- the values that stand with a name, in their order
abbrev pub values_of : Text → List Part → List Text
values_of name [] = []
values_of name (p ∷ ps) = if bytes_eq p.0 name then p.1 ∷ values_of name ps else values_of name ps

-- whether a word may stand, and whether an option waits for its value behind it
abbrev pub kind_turn : Bool → WordKind → Option Bool
kind_turn takes kinds.Plain = if takes then Some false else None
kind_turn takes kinds.Alone = Some true
kind_turn takes kinds.Attached = Some false
kind_turn takes kinds.Wrong = None

-- whether a value is awaited behind a word, None where the word may not stand
unfoldable pub turn : List Text → Bool → Bool → Text → Option Bool
turn names takes false word = kind_turn takes (word_kind names word)
turn names takes true word = if is_value word then Some false else None

-- whether the words have parts
unfoldable pub have_parts : List Text → Bool → Bool → List Text → Bool
have_parts names takes waits [] = not waits
have_parts names takes waits (w ∷ ws) = option_map_or (λ next. have_parts names takes next ws) (turn names takes waits w) false
