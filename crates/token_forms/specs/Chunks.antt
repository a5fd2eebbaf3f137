-- A statement's tokens, taken from the front of those of a text, whatever ends a statement: a state and a step over each
-- token say where.
use Rattle.std.specs.Prelude.{ℕ, List, [], ◌∷◌}
use Rattle.token_forms.specs.Tokens.{Token}
use Rattle.token_forms.specs.declared.source.Step.{Step}
use Rattle.token_forms.specs.declared.source.Step.TheVariants.{GoesOn, Closes, Stops}
use Rattle.token_forms.specs.declared.source.Ended.{Ended}
use Rattle.token_forms.specs.declared.source.Ended.TheVariants.{Closed, Stopped, Text}

-- the statement's tokens, what ended them, and the tokens behind; a token that stops it is in neither
pub record Chunk : Type 0 where
  pub ended : Ended
  pub taken : List Token
  pub left : List Token

-- a chunk with one more token in front
abbrev pub put_before : Token → Chunk → Chunk
put_before t chunk = record { ended = chunk.ended; taken = t ∷ chunk.taken; left = chunk.left }

-- the chunk of a token and those behind it, of which another follows where the token goes on
abbrev pub chunk_at : Step → Token → List Token → Chunk → Chunk
chunk_at GoesOn t ts more = put_before t more
chunk_at Closes t ts more = record { ended = Closed; taken = t ∷ []; left = ts }
chunk_at Stops t ts more = record { ended = Stopped; taken = []; left = ts }

-- the tokens up to the first at which a statement ends, and what is left behind it
abbrev pub chunk_of : {S : Type 0} → (S → List ℕ → Step × S) → S → List Token → Chunk
chunk_of step s [] = record { ended = Text; taken = []; left = [] }
chunk_of step s (t ∷ ts) = chunk_at (step s t.text).0 t ts (chunk_of step (step s t.text).1 ts)
