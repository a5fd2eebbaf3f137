-- Statements of the same words are read alike, wherever they stand; and what a text with changes is and denotes.
use Rattle.std.specs.Prelude.{◌≡◌, ℕ, ◌≤◌, List, map, Option, Some, None}
use Rattle.std.specs.List.{flat_map, AllByRecursion as Each}
use Rattle.base_types.specs.Names.{plain_name}
use Rattle.cell_table.specs.Cells.{Cells}
use Rattle.token_forms.specs.Tokens.{Token}
use Rattle.token_forms.specs.Parts.{token_texts}
use Rattle.def_tokens.specs.DefStatements.{def_statements}
use Rattle.def_syntax.specs.Grammar.{units, component, design_pin, net, chain}
use Rattle.def_syntax.specs.Frames.{opened_by, is_end, is_head}
use Rattle.def_syntax.specs.Designs.{statements_of, IsDesignText}
use Rattle.def_syntax.specs.declared.design.DesignText.{DesignText}
use Rattle.def_syntax.specs.declared.pin.DesignPin.{DesignPin}
use Rattle.def_syntax.specs.declared.net.NetStatement.{NetStatement}
use Rattle.def_layout.specs.declared.chains.ElementLayout.{ElementLayout}
use Rattle.def_layout.specs.declared.chains.PartitionLayout.{PartitionLayout}
use Rattle.def_layout.specs.declared.chains.ChainLayout.{ChainLayout}
use Rattle.def_layout.specs.Words.{texts}
use Rattle.def_layout.specs.NetForms.{AreIn}
use Rattle.def_layout.specs.SectionForms.{read_chain}
use Rattle.def_reader.specs.Designs.{design_of}
use Rattle.def_reader.specs.Faults.{StandsAgain, section_rows, connection_rows}
use Rattle.def_reader.specs.Denoted.{DenotesDesign}
use Rattle.def_edit.specs.Alike.ByWords.{IsByWords}
use Rattle.def_edit.specs.Alike.Changes.{Changes, net_in, changed_each, IsFit, changed_words}
use Rattle.def_edit.specs.Alike.Fields.{nowhere, fields, nets_in, changed_nets, nets_of_words, changed_fields}

-- a design pin without the place of its net
abbrev pub pin_value : DesignPin → DesignPin
pin_value p = record { name = p.name; net = p.net; net_span = nowhere; place = p.place }

-- tokens of the same words spell a design pin of the same value
pub record IsSamePin (x : DesignPin) (ts : List Token) : Type 0 where
  pub value : DesignPin
  pub spelled : design_pin.spells value ts
  pub same : pin_value value ≡ pin_value x

-- tokens of the same words spell a net whose words are the same
pub record IsSameNet (text : List ℕ) (x : NetStatement) (other : List ℕ) (ts : List Token) : Type 0 where
  pub value : NetStatement
  pub spelled : net.spells value ts
  pub same : net_in other value ≡ net_in text x

-- what statements are hangs on their words alone
pub record SameWordsLaw : Type 0 where
  pub units : IsByWords units
  pub components : IsByWords component
  pub chains : IsByWords chain
  pub pins : (ts us : List Token) → token_texts ts ≡ token_texts us → (x : DesignPin) → design_pin.spells x ts → IsSamePin x us
  pub nets : (text other : List ℕ) (ts us : List Token) → AreIn text ts → AreIn other us → token_texts ts ≡ token_texts us → (x : NetStatement) → net.spells x ts → IsSameNet text x other us

-- so is how tokens are cut into statements, and which of these open and end a section
pub record FrameLaw : Type 0 where
  pub cut : (ts us : List Token) → token_texts ts ≡ token_texts us → map token_texts (def_statements ts) ≡ map token_texts (def_statements us)
  pub opened : (ts us : List Token) → token_texts ts ≡ token_texts us → opened_by ts ≡ opened_by us
  pub ends : (word : List ℕ) (ts us : List Token) → token_texts ts ≡ token_texts us → is_end word ts ≡ is_end word us
  pub heads : (ts us : List Token) → token_texts ts ≡ token_texts us → is_head ts ≡ is_head us

-- the design pins of a text, without the places of their nets
abbrev pub pins_in : DesignText → List DesignPin
pins_in t = map (λ p. pin_value p.statement) t.pins

-- a design pin with another word for its net
abbrev pub with_word : DesignPin → List ℕ → DesignPin
with_word p w = record { name = p.name; net = w; net_span = p.net_span; place = p.place }

-- the other text has the statements of the text with the changes, at its own places
pub record IsChanged (text : List ℕ) (t : DesignText) (c : Changes) (other : List ℕ) (u : DesignText) : Type 0 where
  pub units : u.units.statement ≡ t.units.statement
  pub components : map (λ x. x.statement) u.components ≡ map (λ x. x.statement) t.components
  pub pins : pins_in u ≡ changed_each with_word (pins_in t) c.pins
  pub nets : nets_in other u ≡ changed_nets text t c
  pub chains : map (λ x. x.statement) u.chains ≡ map read_chain c.chains
  pub sections : map (λ s. s.kind) u.sections ≡ map (λ s. s.kind) t.sections

-- what a text is whose statements have the words of another with changes
pub record IsAlike (text : List ℕ) (t : DesignText) (c : Changes) (written : List ℕ) : Type 0 where
  pub value : DesignText
  pub is : IsDesignText written value
  pub changed : IsChanged text t c written value

-- no section of a kind stands twice
abbrev pub AreOnce : DesignText → Type 0
AreOnce t = (line : ℕ) → StandsAgain (section_rows t.sections) line → ⊥

-- the text has the words of another with changes: one statement behind the other
abbrev pub HasChanges : (text : List ℕ) (t : DesignText) → Changes → IsDesignText text t → List ℕ → Type 0
HasChanges text t c r written = texts written ≡ flat_map (λ ws. ws) (changed_words text t c r)

-- such a text's statements have these words
abbrev pub CutLaw : Type 0
CutLaw =
    (text : List ℕ) (t : DesignText) (r : IsDesignText text t) (c : Changes) (written : List ℕ) → AreOnce t → IsFit t c → HasChanges text t c r written
    → map token_texts (statements_of written) ≡ changed_words text t c r

-- and are those of the text with the changes
abbrev pub AlikeLaw : Type 0
AlikeLaw =
    (text : List ℕ) (t : DesignText) (r : IsDesignText text t) (c : Changes) (written : List ℕ) → AreOnce t → IsFit t c → map token_texts (statements_of written) ≡ changed_words text t c r
    → IsAlike text t c written

-- the number of bits is 262144 at most
abbrev pub HasFewBits : ElementLayout → Type 0
HasFewBits e = e.bits ≤ 262144

-- so is a number that may be absent
abbrev pub IsFew : Option ℕ → Type 0
IsFew None = Unit {0}
IsFew (Some n) = n ≤ 262144

-- MAXBITS is, where it stands
abbrev pub HasFewMost : Option PartitionLayout → Type 0
HasFewMost None = Unit {0}
HasFewMost (Some p) = IsFew p.max_bits

-- the numbers of a chain are within their limits
pub record IsWithin (c : ChainLayout) : Type 0 where
  pub most : HasFewMost c.partition
  pub floating : Each HasFewBits c.floating
  pub ordered : Each (Each HasFewBits) c.ordered

-- the changes leave the names of the chains, their numbers are within their limits, and no pin comes to stand twice
pub record AreSound (text : List ℕ) (t : DesignText) (c : Changes) : Type 0 where
  pub within : Each IsWithin c.chains
  pub named : map (λ x. plain_name x.name) c.chains ≡ map (λ x. plain_name x.statement.name) t.chains
  pub once : (line : ℕ) → StandsAgain (connection_rows (nets_of_words (changed_nets text t c))) line → ⊥

-- the design that a text with changes denotes
pub record DenotesChanged (text : List ℕ) (cells : Cells) (t : DesignText) (c : Changes) (written : List ℕ) (u : DesignText) : Type 0 where
  pub denoted : DenotesDesign written cells (design_of written cells u)
  pub is : fields (design_of written cells u) ≡ changed_fields text cells t c

-- a text whose statements are those of a text that denotes a design, with sound changes, denotes the design with the changes
abbrev pub DesignLaw : Type 0
DesignLaw =
    (text : List ℕ) (cells : Cells) (d : _) (h : DenotesDesign text cells d) (c : Changes) (written : List ℕ) (u : DesignText) → IsDesignText written u → IsChanged text h.statements c written u → AreSound text h.statements c
    → DenotesChanged text cells h.statements c written u
