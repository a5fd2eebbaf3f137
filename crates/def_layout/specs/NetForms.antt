-- What is asked and answered where a net's statement is written anew.
use Rattle.std.specs.Prelude.{◌≡◌, ℕ, Bool, true, ◌&&◌, List, [], ◌∷◌, ◌++◌, map, codes, Result, Ok, Err}
use Rattle.std.specs.List.{list_all, AllByRecursion as Each}
use Rattle.token_forms.specs.Tokens.{Token}
use Rattle.token_forms.specs.Parts.{token_texts}
use Rattle.token_forms.specs.Runs.{bytes_of}
use Rattle.def_tokens.specs.DefStatements.{def_statements}
use Rattle.def_syntax.specs.Pieces.{some_list}
use Rattle.base_types.specs.declared.stop.Stop.{Stop}
use Rattle.base_types.specs.declared.stop.Stop.TheVariants as stops
use Rattle.def_tokens.specs.DefTokens.{tokens_in}
use Rattle.def_syntax.specs.Grammar.{net}
use Rattle.def_syntax.specs.declared.net.Net.{Net}
use Rattle.def_syntax.specs.declared.net.NetStatement.TheVariants as net_statements
use Rattle.def_layout.specs.declared.net.ConnectionLayout.{ConnectionLayout}
use Rattle.def_layout.specs.declared.net.NetLayout.{NetLayout}
use Rattle.def_layout.specs.Words.{texts, HasWords}
use Rattle.def_layout.specs.SectionForms.{is_name}
use Rattle.def_layout.specs.Nets.{connection_in, kept, has_wiring, net_words, net_text}

-- the text's tokens, all of them, are the statement of this net
abbrev pub IsNetOf : List ℕ → Net → Type 0
IsNetOf text n = net.spells (net_statements.Net n) (tokens_in text)

-- the net's statement, and whether one of its options is wiring
pub record IsLayout (text : List ℕ) (marks : List Bool) (added : List ConnectionLayout) (layout : NetLayout) : Type 0 where
  pub net : Net
  pub read : IsNetOf text net
  pub text_is : layout.text ≡ net_text text net marks added
  pub cut : layout.is_cut ≡ has_wiring 0 (texts text)

-- so is what is answered; or the text isn't the statement of a net; which want of memory may hide
abbrev pub IsNetLayout : List ℕ → List Bool → List ConnectionLayout → Result NetLayout Stop → Type 0
IsNetLayout text marks added (Ok layout) = IsLayout text marks added layout
IsNetLayout text marks added (Err stops.NoForm) = (n : Net) → IsNetOf text n → ⊥
IsNetLayout text marks added (Err stops.NoMemory) = Unit {0}

-- a token's bytes are those of the text at its place
abbrev pub IsIn : List ℕ → Token → Type 0
IsIn text t = t.text ≡ bytes_of text (record { start = t.start; end = t.end })

-- so are those of each token
abbrev pub AreIn : List ℕ → List Token → Type 0
AreIn text ts = Each (IsIn text) ts

-- the tokens of a text are the one statement of a net with this name and connections of these words
pub record IsNet (name : List ℕ) (cs : List ConnectionLayout) (text : List ℕ) (ts : List Token) : Type 0 where
  pub value : Net
  pub spelled : net.spells (net_statements.Net value) ts
  pub named : value.name ≡ name
  pub connections : map (connection_in text) value.connections ≡ cs
  pub alone : (rest : List Token) → def_statements (ts ++ rest) ≡ ts ∷ def_statements rest

-- the words of the connection are names
abbrev pub names_connection : ConnectionLayout → Bool
names_connection c = is_name c.component && is_name c.pin

-- the connections of a net that is written
abbrev pub new_connections : List ℕ → Net → List Bool → List ConnectionLayout → List ConnectionLayout
new_connections text n marks added = kept marks (map (connection_in text) n.connections) ++ added

-- the words of a net that is written
abbrev pub new_words : List ℕ → Net → List Bool → List ConnectionLayout → List (List ℕ)
new_words text n marks added = net_words text n marks added ++ codes ";" ∷ []

-- what is written has these words wherever it stands before a blank or the end, and tokens of these words, in any text, are the
-- statement of the net with the connections that stay and the added ones; where the net has a connection and names are added
abbrev pub IsReadBack : List ℕ → List Bool → List ConnectionLayout → NetLayout → Type 0
IsReadBack text marks added layout =
    (n : Net) → IsNetOf text n → some_list n.connections ≡ true → list_all names_connection added ≡ true
    → HasWords layout.text (new_words text n marks added) × ((whole : List ℕ) (ts : List Token) → AreIn whole ts → token_texts ts ≡ new_words text n marks added → IsNet n.name (new_connections text n marks added) whole ts)
