-- A statement's bytes, cut out of a text.
use Rattle.std.specs.Prelude.{◌≡◌, ℕ, true, List, ◌++◌, map, codes}
use Rattle.token_forms.specs.Tokens.{Token, place_of}
use Rattle.token_forms.specs.Parts.{token_texts}
use Rattle.token_forms.specs.Runs.{bytes_of}
use Rattle.def_tokens.specs.DefTokens.{tokens_in}
use Rattle.def_tokens.specs.DefStatements.{ends_with}
use Rattle.def_syntax.specs.Grammar.{net}
use Rattle.def_syntax.specs.declared.net.Net.{Net}
use Rattle.def_syntax.specs.declared.net.NetStatement.TheVariants as net_statements
use Rattle.def_layout.specs.Words.{texts}
use Rattle.def_layout.specs.Nets.{connection_in}
use Rattle.def_layout.specs.NetForms.{IsNetOf}

-- the tokens stand in the text, one behind the other
pub record StandIn (text : List ℕ) (ts : List Token) : Type 0 where
  pub front : List Token
  pub behind : List Token
  pub is : tokens_in text ≡ front ++ (ts ++ behind)

-- the bytes of a text from the first of some tokens to the last one
abbrev pub slice : List ℕ → List Token → List ℕ
slice text ts = bytes_of text (place_of ts)

-- the bytes of tokens that end with a semicolon have these tokens alone
abbrev pub SliceLaw : Type 0
SliceLaw = (text : List ℕ) (ts : List Token) → StandIn text ts → ends_with (codes ";") ts ≡ true → texts (slice text ts) ≡ token_texts ts

-- the bytes of a net's statement are by themselves the statement of a net with this name and connections of the same words
pub record IsSliceOf (text : List ℕ) (ts : List Token) (x : Net) : Type 0 where
  pub value : Net
  pub read : IsNetOf (slice text ts) value
  pub named : value.name ≡ x.name
  pub connections : map (connection_in (slice text ts)) value.connections ≡ map (connection_in text) x.connections

-- so they are
abbrev pub NetSliceLaw : Type 0
NetSliceLaw = (text : List ℕ) (ts : List Token) (x : Net) → StandIn text ts → net.spells (net_statements.Net x) ts → IsSliceOf text ts x
