-- How the names in a list of cells are taken one by one.
use Rattle.std.specs.Prelude.{ℕ, suc, ◌≡◌, List, ◌++◌, length, codes, Option, Some, None, if◌then◌else◌, drop}
use Rattle.std.specs.List.{flat_map}
use Rattle.chain_trace.specs.declared.path.BitId.{BitId}
use Rattle.token_forms.specs.Tokens.{Token, front_of}
use Rattle.stil_tokens.specs.StilTokens.{tokens_in}
use Rattle.stil_syntax.specs.Names.{name_at}
use Rattle.stil_blocks.specs.Statements.{begins_word}
use Rattle.head_text.specs.Written.{name_texts_within}
use Rattle.head_writer.specs.declared.names.NamedBit.{NamedBit}
use Rattle.head_writer.specs.NewChains.{with_names}

-- the bytes of a name at the front of tokens, and the tokens behind it
abbrev pub name_text : List Token → Option (List ℕ × List Token) → Option (List ℕ × List Token)
name_text ts None = None
name_text ts (Some n) = Some (flat_map (λ t. t.text) (front_of ts n.1), n.1)

-- a name that stands at the front
abbrev pub text_at : List Token → Option (List ℕ × List Token)
text_at ts = name_text ts (name_at ts)

-- tokens without a ! at the front
abbrev pub behind_mark : List Token → List Token
behind_mark ts = if begins_word (codes "!") ts then drop 1 ts else ts

-- all names of some bytes
abbrev pub names_in : List ℕ → List (List ℕ)
names_in cells = let ts = tokens_in cells in name_texts_within (length ts) ts

-- bits that are named, with those that the names in no more than so many tokens are for
abbrev pub named_on : List NamedBit → List BitId → ℕ → List Token → List NamedBit
named_on named bits n ts = named ++ with_names bits (name_texts_within n ts)

-- nothing more is named
abbrev pub IsAllNamed : List NamedBit → List NamedBit → List BitId → List Token → Type 0
IsAllNamed old new bits ts = (n : ℕ) → new ≡ named_on old bits (suc n) ts

-- what is named and what is left say together the same as before
abbrev pub GoesOn : List NamedBit → List NamedBit → List BitId → List BitId → List Token → List Token → Type 0
GoesOn old new bits left ts rest = (n : ℕ) → named_on new left n rest ≡ named_on old bits (suc n) ts
