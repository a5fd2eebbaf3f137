-- Words of statements with changes, by computing.
use Rattle.std.proofs.Common.{◌≡◌, ◌+◌, ℕ, List, [], ◌∷◌, map, codes, Some, None, true, false, refl}
use Prim.Native.String.{String}
use Rattle.token_forms.specs.Tokens.{Token}
use Rattle.def_syntax.specs.declared.pin.DesignPin.{DesignPin}
use Rattle.def_syntax.specs.declared.net.Net.{Net}
use Rattle.def_syntax.specs.declared.net.NetStatement.TheVariants as net_statements
use Rattle.def_layout.specs.Nets.{kept, other_words}
use Rattle.def_edit.specs.Alike.Changes.{NetChange, net_in, changed_net, changed_each, pin_statement_words, net_statement_words}

-- a token of ten bytes at ten times its number
tokens : ℕ → List String → List Token
tokens at [] = []
tokens at (w ∷ ws) = record { text = codes w; start = at; end = at + 9 } ∷ tokens (at + 10) ws

abbrev words : List String → List (List ℕ)
words ws = map codes ws

-- the word of the net alone is another, and not one of the same bytes
abbrev output_pin : DesignPin
output_pin = record { name = codes "qb"; net = codes "qb"; net_span = record { start = 40; end = 49 }; place = None }

other_net : pin_statement_words (tokens 0 ("-" ∷ "qb" ∷ "+" ∷ "NET" ∷ "qb" ∷ "+" ∷ "USE" ∷ "SCAN" ∷ ";" ∷ [])) output_pin (codes "qc") ≡ words ("-" ∷ "qb" ∷ "+" ∷ "NET" ∷ "qc" ∷ "+" ∷ "USE" ∷ "SCAN" ∷ ";" ∷ [])
unfolding tokens
other_net = refl

abbrev net_text : List ℕ
net_text = codes "- qa ( a Q ) ( PIN so + SYNTHESIZED ) + ROUTED M1 ( 0 0 ) + USE SCAN ;"

abbrev net_tokens : List Token
net_tokens = tokens 0 ("-" ∷ "qa" ∷ "(" ∷ "a" ∷ "Q" ∷ ")" ∷ "(" ∷ "PIN" ∷ "so" ∷ "+" ∷ "SYNTHESIZED" ∷ ")" ∷ "+" ∷ "ROUTED" ∷ "M1" ∷ "(" ∷ "0" ∷ "0" ∷ ")" ∷ "+" ∷ "USE" ∷ "SCAN" ∷ ";" ∷ [])

abbrev two_pins : Net
two_pins =
    record {
      name = codes "qa";
      connections = record { component = record { start = 7; end = 8 }; pin = record { start = 9; end = 10 }; start = 5; synthesized = false }
          ∷ record { component = record { start = 15; end = 18 }; pin = record { start = 19; end = 21 }; start = 13; synthesized = true } ∷ [];
    }

-- the first pin leaves, and another one comes
abbrev one_comes : NetChange
one_comes = record { stays = false ∷ []; added = record { component = codes "c"; pin = codes "SI"; synthesized = false } ∷ [] }

-- wiring goes, and all else stays in its order
changed : net_statement_words net_text net_tokens (net_statements.Net two_pins) one_comes
    ≡ words ("-" ∷ "qa" ∷ "(" ∷ "PIN" ∷ "so" ∷ "+" ∷ "SYNTHESIZED" ∷ ")" ∷ "(" ∷ "c" ∷ "SI" ∷ ")" ∷ "+" ∷ "USE" ∷ "SCAN" ∷ ";" ∷ [])
unfolding tokens kept other_words
changed = refl

-- a statement MUSTJOIN stays as it was
must_join : net_statement_words net_text (tokens 0 ("-" ∷ "MUSTJOIN" ∷ "(" ∷ "a" ∷ "Q" ∷ ")" ∷ ";" ∷ [])) net_statements.MustJoin one_comes ≡ words ("-" ∷ "MUSTJOIN" ∷ "(" ∷ "a" ∷ "Q" ∷ ")" ∷ ";" ∷ [])
unfolding tokens
must_join = refl

-- the net that is read of the changed statement
read_back : changed_each changed_net (None ∷ net_in net_text (net_statements.Net two_pins) ∷ []) (Some one_comes ∷ Some one_comes ∷ [])
    ≡ None
    ∷ Some (record {
      name = codes "qa";
      connections = record { component = codes "PIN"; pin = codes "so"; synthesized = true } ∷ record { component = codes "c"; pin = codes "SI"; synthesized = false } ∷ [];
    }) ∷ []
unfolding kept
read_back = refl
