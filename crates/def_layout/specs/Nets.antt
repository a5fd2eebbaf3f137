-- A net's statement as it is written anew.
use Rattle.std.specs.Prelude.{ℕ, Bool, true, false, ◌&&◌, ◌||◌, not, ◌==◌, if◌then◌else◌, List, [], ◌∷◌, ◌++◌, map, drop, codes}
use Rattle.std.specs.List.{flat_map}
use Rattle.std.specs.Str.{bytes_eq}
use Rattle.token_forms.specs.Classes.{is_among}
use Rattle.token_forms.specs.Runs.{bytes_of}
use Rattle.def_tokens.specs.DefTokens.{has_end}
use Rattle.def_syntax.specs.Options.{open_behind}
use Rattle.def_syntax.specs.declared.net.Connection.{Connection}
use Rattle.def_syntax.specs.declared.net.Net.{Net}
use Rattle.def_layout.specs.declared.net.ConnectionLayout.{ConnectionLayout}
use Rattle.def_layout.specs.Words.{texts, joined}

-- + SYNTHESIZED, or nothing
abbrev pub synthesized_words : Bool → List (List ℕ)
synthesized_words true = codes "+" ∷ codes "SYNTHESIZED" ∷ []
synthesized_words false = []

-- ( component pin )    ( component pin + SYNTHESIZED )
abbrev pub connection_words : ConnectionLayout → List (List ℕ)
connection_words c = codes "(" ∷ c.component ∷ c.pin ∷ (synthesized_words c.synthesized ++ codes ")" ∷ [])

-- a connection that was read from a text, in its words
abbrev pub connection_in : List ℕ → Connection → ConnectionLayout
connection_in text c = record { component = bytes_of text c.component; pin = bytes_of text c.pin; synthesized = c.synthesized }

-- the first one stays: its mark says so, or there is none
abbrev pub first_stays : List Bool → Bool
first_stays [] = true
first_stays (b ∷ bs) = b

-- those of some values that stay, by their marks
unfoldable pub kept : {X : Type 0} → List Bool → List X → List X
kept marks [] = []
kept marks (x ∷ xs) = (if first_stays marks then x ∷ [] else []) ++ kept (drop 1 marks) xs

-- the words by which wiring begins behind a +
abbrev pub wiring : List (List ℕ)
wiring = codes "ROUTED" ∷ codes "FIXED" ∷ codes "COVER" ∷ codes "NOSHIELD" ∷ codes "SUBNET" ∷ codes "VPIN" ∷ []

-- one of them comes first
abbrev pub begins_wiring : List (List ℕ) → Bool
begins_wiring [] = false
begins_wiring (w ∷ ws) = is_among wiring w

-- an option begins, where so many brackets are open
abbrev pub begins_option : ℕ → List ℕ → Bool
begins_option depth w = bytes_eq w (codes "+") && depth == 0

-- a word stays: it begins an option that isn't wiring, or stands in what stays
abbrev pub stays_at : ℕ → Bool → List ℕ → List (List ℕ) → Bool
stays_at depth stays w ws = if begins_option depth w then not (begins_wiring ws) else stays

-- the words of the options that aren't wiring, behind so many open brackets, where the words before stay or don't
unfoldable pub other_words : ℕ → Bool → List (List ℕ) → List (List ℕ)
other_words depth stays [] = []
other_words depth stays (w ∷ ws) =
    (if stays_at depth stays w ws && not (bytes_eq w (codes ";")) then w ∷ [] else []) ++ other_words (open_behind depth w) (stays_at depth stays w ws) ws

-- an option is wiring
unfoldable pub has_wiring : ℕ → List (List ℕ) → Bool
has_wiring depth [] = false
has_wiring depth (w ∷ ws) = (begins_option depth w && begins_wiring ws) || has_wiring (open_behind depth w) ws

-- - name connection .. option ..    of a net that was read from a text: the connections that stay, the added ones, and the
-- options that aren't wiring
abbrev pub net_words : List ℕ → Net → List Bool → List ConnectionLayout → List (List ℕ)
net_words text net marks added =
    codes "-" ∷ net.name ∷ (flat_map connection_words (kept marks (map (connection_in text) net.connections)) ++ (flat_map connection_words added ++ other_words 0 false (texts text)))

-- a blank and a semicolon; the semicolon alone behind one that ends a word, which it was read from
abbrev pub closed : List ℕ → List ℕ
closed text = text ++ (if has_end text then codes ";" else codes " ;")

-- the net's statement
abbrev pub net_text : List ℕ → Net → List Bool → List ConnectionLayout → List ℕ
net_text text net marks added = closed (joined (net_words text net marks added))
