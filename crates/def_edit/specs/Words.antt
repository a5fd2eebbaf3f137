-- Names of a design as they are written in a text of DEF (LEF/DEF 5.8).
use Rattle.std.specs.Prelude.{ℕ, ◌-◌, Bool, false, ◌&&◌, ◌||◌, not, nat_le, ◌==◌, if◌then◌else◌, List, [], ◌∷◌, ◌++◌, length, codes, slice_index, option_map, unwrap_or}
use Rattle.std.specs.List.{find, flat_map}
use Rattle.std.specs.Str.{bytes_eq}
use Rattle.base_types.specs.Names.{plain_name}
use Rattle.def_tokens.specs.DefTokens.{is_blank}
use Rattle.def_layout.specs.SectionForms.{is_name}
use Rattle.def_reader.specs.declared.design.Component.{Component}

-- a backslash before each byte; one alone for the empty name
abbrev pub escaped : List ℕ → List ℕ
escaped [] = 92 ∷ []
escaped (b ∷ bs) = flat_map (λ c. 92 ∷ c ∷ []) (b ∷ bs)

-- a word for a plain name: the name itself, where it is one name of DEF, else one that is read as it
abbrev pub word_for : List ℕ → List ℕ
word_for name = if is_name name then name else escaped name

-- a component as COMPONENTS writes it: the word of the first one of this plain name; another word where none has it
abbrev pub component_word : List Component → List ℕ → List ℕ → List ℕ
component_word components name other = unwrap_or (option_map (λ c. c.text) (find (λ c. bytes_eq c.name name) components)) other

-- a word, or another one where it would be read as more than a component: as `PIN` or `*`
abbrev pub unless_mark : List ℕ → List ℕ → List ℕ
unless_mark text word = if bytes_eq text (codes "PIN") || bytes_eq text (codes "*") then word else text

-- the component of a connection or of a chain's end as COMPONENTS writes it, where that is read as a component there; `PIN` stays
abbrev pub end_word : List Component → List ℕ → List ℕ
end_word components word = if bytes_eq word (codes "PIN") then word else unless_mark (component_word components (plain_name word) word) word

-- the word ends with a backslash
abbrev pub ends_escaping : List ℕ → Bool
ends_escaping w = nat_le 1 (length w) && slice_index w (length w - 1) == 92

-- a semicolon that ends the run in which it stands: a blank, or nothing, comes behind it
abbrev pub is_cut_off : ℕ → List ℕ → Bool
is_cut_off b [] = b == 59
is_cut_off b (c ∷ cs) = b == 59 && is_blank c

-- what stands behind would go on with the word: it begins with no blank, and with no semicolon that the word leaves a token of its own
abbrev pub goes_on_with : List ℕ → List ℕ → Bool
goes_on_with w [] = false
goes_on_with w (b ∷ bs) = not (is_blank b) && (ends_escaping w || not (is_cut_off b bs))

-- the word before these bytes, with a blank where they would go on with it
abbrev pub word_before : List ℕ → List ℕ → List ℕ
word_before w behind = w ++ (if goes_on_with w behind then codes " " else [])
