-- A text of DEF without what scan wiring may change: the words of its statements without the connections of scan sinks, the section SCANCHAINS
-- and the wiring of nets whose connections change, and with a blank for the nets of the design pins of free ports.
use Rattle.std.specs.Prelude.{◌≡◌, Contains, ℕ, Bool, true, false, ◌&&◌, if◌then◌else◌, List, [], ◌∷◌, ◌++◌, map, codes, Option, Some, None}
use Rattle.std.specs.List.{slice_get}
use Rattle.std.specs.Str.{bytes_eq}
use Rattle.base_types.specs.Names.{plain_name}
use Rattle.token_forms.specs.Parts.{token_texts}
use Rattle.def_syntax.specs.Designs.{statements_of}
use Rattle.def_syntax.specs.Frames.{word_of, section_named}
use Rattle.def_syntax.specs.Options.{open_behind}
use Rattle.def_syntax.specs.declared.frame.SectionKind.{SectionKind}
use Rattle.def_syntax.specs.declared.frame.SectionKind.TheVariants.{Components, Pins, Nets, ScanChains}
use Rattle.def_layout.specs.Nets.{begins_option, other_words}
use Rattle.def_reader.specs.Designs.{net_pin_of}
use Rattle.def_reader.specs.declared.design.NetPin.{NetPin}
use Rattle.def_reader.specs.declared.design.NetPin.TheVariants.{Port}
use Rattle.def_reader.specs.declared.design.Net.{Net}
use Rattle.def_edit.specs.declared.pin_moves.PinMove.{PinMove}
use Rattle.def_edit.specs.Moved.{moving_pin}
use Rattle.def_edit.specs.NetChanges.{is_touched}

-- what is erased: the scan sinks by their pins, the free ports by their names, and the nets whose connections change, by their names
pub record Erasing : Type 0 where
  pub is_sink : NetPin → Bool
  pub is_free : List ℕ → Bool
  pub is_changed : List ℕ → Bool

-- the words connect one of the pins
abbrev pub connects_sink : Erasing → List ℕ → List ℕ → Bool
connects_sink e component pin = elim (net_pin_of component pin) [ None ↦ false | Some p ↦ e.is_sink p ]

-- where a word of a net's statement stands: before a connection or the options; behind a bracket that opens; behind its component; in
-- a connection that stays; in one that is erased
pub data At : Type 0 where
  Before : At
  Open : At
  Behind : List ℕ → At
  Stays : At
  Erased : At

-- the words of connections and options
unfoldable pub erased_words : Erasing → Bool → At → List (List ℕ) → List (List ℕ)
erased_words e cut at [] = []
erased_words e cut Before (w ∷ ws) =
    if bytes_eq w (codes "(") then erased_words e cut Open ws else (if cut then other_words 0 false (w ∷ ws) ++ codes ";" ∷ [] else w ∷ ws)
erased_words e cut Open (w ∷ ws) = erased_words e cut (Behind w) ws
erased_words e cut (Behind c) (w ∷ ws) =
    if connects_sink e c w then erased_words e cut Erased ws else codes "(" ∷ c ∷ w ∷ erased_words e cut Stays ws
erased_words e cut Stays (w ∷ ws) = w ∷ erased_words e cut (if bytes_eq w (codes ")") then Before else Stays) ws
erased_words e cut Erased (w ∷ ws) = erased_words e cut (if bytes_eq w (codes ")") then Before else Erased) ws

-- a statement of NETS; MUSTJOIN stays
abbrev pub erased_net : Erasing → List (List ℕ) → List (List ℕ)
erased_net e [] = []
erased_net e (dash ∷ []) = dash ∷ []
erased_net e (dash ∷ name ∷ ws) =
    if bytes_eq name (codes "MUSTJOIN") then dash ∷ name ∷ ws else dash ∷ name ∷ erased_words e (e.is_changed (plain_name name)) Before ws

-- what stands before a word of a design pin's statement: a + that begins an option, and behind it NET
pub data Word : Type 0 where
  Plus : Word
  NetWord : Word
  Other : Word

-- what then stands before the next one
abbrev pub behind_word : ℕ → Word → List ℕ → Word
behind_word depth Plus w = if begins_option depth w then Plus else (if bytes_eq w (codes "NET") then NetWord else Other)
behind_word depth NetWord w = if begins_option depth w then Plus else Other
behind_word depth Other w = if begins_option depth w then Plus else Other

-- the word, or nothing in the place of a net
abbrev pub unless_net : Word → List ℕ → List ℕ
unless_net Plus w = w
unless_net NetWord w = []
unless_net Other w = w

-- the words of a design pin's statement with a blank for its net
unfoldable pub without_net : ℕ → Word → List (List ℕ) → List (List ℕ)
without_net depth b [] = []
without_net depth b (w ∷ ws) = unless_net b w ∷ without_net (open_behind depth w) (behind_word depth b w) ws

-- a statement of PINS
abbrev pub erased_pin : Erasing → List (List ℕ) → List (List ℕ)
erased_pin e [] = []
erased_pin e (dash ∷ []) = dash ∷ []
erased_pin e (dash ∷ name ∷ ws) = if e.is_free (plain_name name) then dash ∷ name ∷ without_net 0 Other ws else dash ∷ name ∷ ws

-- a statement within a section
abbrev pub erased_inside : Erasing → SectionKind → List (List ℕ) → List (List (List ℕ))
erased_inside e Components s = s ∷ []
erased_inside e Pins s = erased_pin e s ∷ []
erased_inside e Nets s = erased_net e s ∷ []
erased_inside e ScanChains s = []

-- one that opens or ends a section
abbrev pub erased_mark : SectionKind → List (List ℕ) → List (List (List ℕ))
erased_mark Components s = s ∷ []
erased_mark Pins s = s ∷ []
erased_mark Nets s = s ∷ []
erased_mark ScanChains s = []

-- the section that a statement opens
abbrev pub opens : List (List ℕ) → Option SectionKind
opens [] = None
opens (w ∷ ws) = section_named w

-- the statement is END and this word
abbrev pub is_end_of : List ℕ → List (List ℕ) → Bool
is_end_of word [] = false
is_end_of word (a ∷ []) = false
is_end_of word (a ∷ b ∷ []) = bytes_eq a (codes "END") && bytes_eq b word
is_end_of word (a ∷ b ∷ c ∷ ws) = false

-- the statements, within a section or outside; what stands behind END DESIGN stays
unfoldable pub erased_from : Erasing → Option SectionKind → List (List (List ℕ)) → List (List (List ℕ))
erased_from e kind [] = []
erased_from e None (s ∷ ss) =
    if is_end_of (codes "DESIGN") s then s ∷ ss
    else elim (opens s) [ None ↦ s ∷ erased_from e None ss | Some kind ↦ erased_mark kind s ++ erased_from e (Some kind) ss ]
erased_from e (Some kind) (s ∷ ss) =
    if is_end_of (word_of kind) s then erased_mark kind s ++ erased_from e None ss else erased_inside e kind s ++ erased_from e (Some kind) ss

-- the words of the statements of a text, erased
abbrev pub erased_def : Erasing → List ℕ → List (List (List ℕ))
erased_def e text = erased_from e None (map token_texts (statements_of text))

-- both texts are the same once erased
abbrev pub AreErasedAlike : Erasing → List ℕ → List ℕ → Type 0
AreErasedAlike e text other = erased_def e other ≡ erased_def e text

-- each pin that moves is erased, the nets that it leaves and comes to count as changed, and each port that moves as free
pub record ErasesMoves (e : Erasing) (nets : List Net) (moves : List PinMove) : Type 0 where
  pub sinks : (m : PinMove) (pin : NetPin) → Contains moves m → moving_pin nets m ≡ Some pin → e.is_sink pin ≡ true
  pub ports : (m : PinMove) (name : List ℕ) → Contains moves m → moving_pin nets m ≡ Some (Port name) → e.is_free name ≡ true
  pub changed : (k : ℕ) (net : Net) → slice_get nets k ≡ Some net → is_touched moves k ≡ true → e.is_changed net.name ≡ true
