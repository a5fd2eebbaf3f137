-- What changes in a text of DEF, and the words of its statements with the changes.
use Rattle.std.specs.Prelude.{◌≡◌, ℕ, Bool, true, false, ◌&&◌, ◌==◌, if◌then◌else◌, List, [], ◌∷◌, ◌++◌, length, map, codes, Option, Some, None, option_map}
use Rattle.std.specs.List.{flat_map, list_all}
use Rattle.token_forms.specs.Tokens.{Token}
use Rattle.token_forms.specs.Parts.{token_texts}
use Rattle.token_forms.specs.Classes.{But, is_in}
use Rattle.def_syntax.specs.Words.{marks}
use Rattle.def_syntax.specs.Frames.{Block, Outside, Section}
use Rattle.def_syntax.specs.Designs.{IsDesignText}
use Rattle.def_syntax.specs.declared.frame.SectionKind.{SectionKind}
use Rattle.def_syntax.specs.declared.frame.SectionKind.TheVariants.{Components, Pins, Nets, ScanChains}
use Rattle.def_syntax.specs.declared.design.Located.{Located}
use Rattle.def_syntax.specs.declared.design.DesignText.{DesignText}
use Rattle.def_syntax.specs.declared.pin.DesignPin.{DesignPin}
use Rattle.def_syntax.specs.declared.net.NetStatement.{NetStatement}
use Rattle.def_syntax.specs.declared.net.NetStatement.TheVariants as net_statements
use Rattle.def_layout.specs.declared.net.ConnectionLayout.{ConnectionLayout}
use Rattle.def_layout.specs.declared.chains.ChainLayout.{ChainLayout}
use Rattle.def_layout.specs.Nets.{connection_words, connection_in, kept, other_words}
use Rattle.def_layout.specs.Sections.{head_words}
use Rattle.def_layout.specs.SectionForms.{chain_words, is_written_well}

-- how a net's statement is written anew: which of its connections stay, and those that are added
pub record NetChange : Type 0 where
  pub stays : List Bool
  pub added : List ConnectionLayout

-- what changes in a text: of each statement of PINS the new word of its net, of each statement of NETS what it becomes, and all
-- chains
pub record Changes : Type 0 where
  pub pins : List (Option (List ℕ))
  pub nets : List (Option NetChange)
  pub chains : List ChainLayout

-- a net by the words of its statement
pub record NetWords : Type 0 where
  pub name : List ℕ
  pub connections : List ConnectionLayout

-- the net that a statement is; MUSTJOIN is none
abbrev pub net_in : List ℕ → NetStatement → Option NetWords
net_in text (net_statements.Net x) = Some (record { name = x.name; connections = map (connection_in text) x.connections })
net_in text net_statements.MustJoin = None

-- the connections of a net that is changed
abbrev pub changed_connections : NetChange → List ConnectionLayout → List ConnectionLayout
changed_connections c connections = kept c.stays connections ++ c.added

-- a net that is changed; MUSTJOIN stays
abbrev pub changed_net : Option NetWords → NetChange → Option NetWords
changed_net n c = option_map (λ x. record { name = x.name; connections = changed_connections c x.connections }) n

-- each member, with its change where there is one
abbrev pub changed_each : {X C : Type 0} → (X → C → X) → List X → List (Option C) → List X
changed_each f [] cs = []
changed_each f (x ∷ xs) [] = x ∷ xs
changed_each f (x ∷ xs) (None ∷ cs) = x ∷ changed_each f xs cs
changed_each f (x ∷ xs) (Some c ∷ cs) = f x c ∷ changed_each f xs cs

-- of each statement the words, by its value and its change; those that it has, where it has no change
abbrev pub each_words : {X C : Type 0} → (List Token → X → C → List (List ℕ)) → List (List Token) → List (Located X) → List (Option C) → List (List (List ℕ))
each_words f [] xs cs = []
each_words f (s ∷ ss) [] cs = map token_texts (s ∷ ss)
each_words f (s ∷ ss) (x ∷ xs) [] = map token_texts (s ∷ ss)
each_words f (s ∷ ss) (x ∷ xs) (None ∷ cs) = token_texts s ∷ each_words f ss xs cs
each_words f (s ∷ ss) (x ∷ xs) (Some c ∷ cs) = f s x.statement c ∷ each_words f ss xs cs

-- the words of tokens, where the one that begins at a place has another
abbrev pub words_with : ℕ → List ℕ → List Token → List (List ℕ)
words_with at w ts = map (λ t. if t.start == at then w else t.text) ts

-- the words of a design pin's statement with another net
abbrev pub pin_statement_words : List Token → DesignPin → List ℕ → List (List ℕ)
pin_statement_words s x w = words_with x.net_span.start w s

-- the words of a net's statement that is written anew: its name, the connections that stay, the added ones, and the options that
-- aren't wiring; MUSTJOIN stays
abbrev pub net_statement_words : List ℕ → List Token → NetStatement → NetChange → List (List ℕ)
net_statement_words text s (net_statements.Net x) c =
    codes "-" ∷ x.name ∷ (flat_map connection_words (changed_connections c (map (connection_in text) x.connections)) ++ (other_words 0 false (token_texts s) ++ codes ";" ∷ []))
net_statement_words text s net_statements.MustJoin c = token_texts s

-- the words of a section's first statement
abbrev pub first_words : Changes → SectionKind → List Token → List (List ℕ)
first_words c Components s = token_texts s
first_words c Pins s = token_texts s
first_words c Nets s = token_texts s
first_words c ScanChains s = head_words c.chains

-- the words of the statements within a section
abbrev pub inner_words : List ℕ → DesignText → Changes → SectionKind → List (List Token) → List (List (List ℕ))
inner_words text t c Components ss = map token_texts ss
inner_words text t c Pins ss = each_words pin_statement_words ss t.pins c.pins
inner_words text t c Nets ss = each_words (net_statement_words text) ss t.nets c.nets
inner_words text t c ScanChains ss = map chain_words c.chains

-- the words of the statements of a block
abbrev pub block_words : List ℕ → DesignText → Changes → Block → List (List (List ℕ))
block_words text t c (Outside s) = token_texts s ∷ []
block_words text t c (Section kind first inner last) = first_words c kind first ∷ (inner_words text t c kind inner ++ token_texts last ∷ [])

-- the words of the statements of a text with the changes: of its blocks, and END DESIGN and what stands behind it, which stay
abbrev pub changed_words : (text : List ℕ) (t : DesignText) → Changes → IsDesignText text t → List (List (List ℕ))
changed_words text t c r = flat_map (block_words text t c) r.blocks ++ map token_texts (r.closed.end ∷ r.closed.behind)

-- the word is a name of DEF
abbrev pub names_word : List ℕ → Bool
names_word w = is_in (But marks) w

-- so are both words of a connection
abbrev pub names_both : ConnectionLayout → Bool
names_both c = names_word c.component && names_word c.pin

-- where something changes, the change passes a test
abbrev pub if_some : {C : Type 0} → (C → Bool) → Option C → Bool
if_some test None = true
if_some test (Some c) = test c

-- the changes are those of the text's statements, one for one, and words that come are names
pub record IsFit (t : DesignText) (c : Changes) : Type 0 where
  pub pins : length c.pins ≡ length t.pins
  pub nets : length c.nets ≡ length t.nets
  pub chains : length c.chains ≡ length t.chains
  pub words : list_all (if_some names_word) c.pins ≡ true
  pub added : list_all (if_some (λ n. list_all names_both n.added)) c.nets ≡ true
  pub well : list_all is_written_well c.chains ≡ true
