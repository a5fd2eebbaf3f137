-- The words and numbers of DEF (LEF/DEF 5.8).
use Rattle.std.specs.Prelude.{ℕ, Bool, true, ◌&&◌, nat_lt, List, [], ◌∷◌, length, codes}
use Rattle.std.specs.List.{list_all}
use Rattle.base_types.specs.declared.span.Span.{Span}
use Rattle.def_tokens.specs.Numbers.{is_digit, is_integer}
use Rattle.token_forms.specs.Classes.{Only, But}
use Rattle.token_forms.specs.Forms.{Form, text, made, at, Passing}

-- digits, one at least
abbrev pub is_number : List ℕ → Bool
is_number bs = list_all is_digit bs && nat_lt 0 (length bs)

-- any token will do
abbrev pub any : List ℕ → Bool
any text = true

-- the tokens that are no names
abbrev pub marks : List (List ℕ)
marks = codes "(" ∷ codes ")" ∷ codes "+" ∷ codes ";" ∷ []

-- the words that begin a placement
abbrev pub placings : List (List ℕ)
placings = codes "PLACED" ∷ codes "FIXED" ∷ codes "COVER" ∷ []

-- the words of the eight orientations
abbrev pub orientations : List (List ℕ)
orientations = codes "N" ∷ codes "W" ∷ codes "S" ∷ codes "E" ∷ codes "FN" ∷ codes "FW" ∷ codes "FS" ∷ codes "FE" ∷ []

-- the first words of the options of a component that are read
abbrev pub in_components : List (List ℕ)
in_components = codes "PLACED" ∷ codes "FIXED" ∷ codes "COVER" ∷ codes "UNPLACED" ∷ []

-- the first words of the options of a design pin that are read
abbrev pub in_pins : List (List ℕ)
in_pins = codes "PLACED" ∷ codes "FIXED" ∷ codes "COVER" ∷ codes "NET" ∷ []

-- no option of a net is read
abbrev pub in_nets : List (List ℕ)
in_nets = []

-- a token that isn't a mark
abbrev pub name : Form (List ℕ)
name = text (But marks) any

-- where a name stands
abbrev pub name_place : Form Span
name_place = made (λ p. p.1) (at name)

-- a name that is an integer
abbrev pub integer : Form (List ℕ)
integer = text (But marks) is_integer

-- a name of digits alone
abbrev pub number : Form (List ℕ)
number = text (But marks) is_number

-- PLACED    FIXED    COVER
abbrev pub placing : Form (List ℕ)
placing = text (Only placings) any

-- a net's name, by which it isn't passed
abbrev pub net_name : Form (List ℕ)
net_name = text (But (codes "MUSTJOIN" ∷ marks)) any

-- a component's name, where PIN is none
abbrev pub cell_name : Form (List ℕ)
cell_name = text (But (codes "PIN" ∷ marks)) any

-- anything but a semicolon
abbrev pub in_statement : Passing
in_statement = record { outside = But (codes ";" ∷ []); opens = []; closes = []; inside = Only [] }
