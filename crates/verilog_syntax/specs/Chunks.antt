-- A module's tokens, taken statement by statement: what the next statement takes, what ends it, and what is still to be
-- read behind it.
use Rattle.std.specs.Prelude.{ℕ, ◌+◌, Bool, true, false, if◌then◌else◌, List, [], ◌∷◌, ◌++◌, take, drop, codes, Result, Ok}
use Rattle.std.specs.List.{list_any}
use Rattle.std.specs.Str.{bytes_eq}
use Rattle.token_forms.specs.Tokens.{Token}
use Rattle.token_forms.specs.Statements.{is_semicolon, statements_of}
use Rattle.base_types.specs.declared.fault.Fault.{Fault}
use Rattle.verilog_syntax.specs.declared.reading.Placed.{Placed}
use Rattle.token_forms.specs.Chunks.{Chunk, put_before}
use Rattle.token_forms.specs.declared.source.Step.{Step}
use Rattle.token_forms.specs.declared.source.Step.TheVariants.{GoesOn, Closes, Stops}
use Rattle.token_forms.specs.declared.source.Ended.{Ended}
use Rattle.token_forms.specs.declared.source.Ended.TheVariants.{Closed, Stopped, Text}
use Rattle.verilog_syntax.specs.Reading.{result_and_then, ends_module, body_len, read_others, read_end}

-- what a token does to the statement that it is met in: endmodule is in none
abbrev pub step_at : List ℕ → Step
step_at text = if bytes_eq text (codes "endmodule") then Stops else (if bytes_eq text (59 ∷ []) then Closes else GoesOn)

-- the tokens of the next statement, and what ended them
abbrev pub chunk_of : List Token → Chunk
chunk_of [] = record { ended = Text; taken = []; left = [] }
chunk_of (t ∷ ts) =
    if ends_module t then record { ended = Stopped; taken = []; left = ts }
    else (if is_semicolon t then record { ended = Closed; taken = t ∷ []; left = ts } else put_before t (chunk_of ts))

-- an `endmodule` is still to come
abbrev pub is_closed : List Token → Bool
is_closed ts = list_any ends_module ts

-- whether endmodule ends a module of which a statement ended so
abbrev pub is_closed_behind : Ended → List Token → Bool
is_closed_behind Closed ts = is_closed ts
is_closed_behind Stopped ts = true
is_closed_behind Text ts = false

-- no statement follows one that ended so
abbrev pub IsLast : Ended → Type 0
IsLast Closed = ⊥
IsLast Stopped = Unit {0}
IsLast Text = Unit {0}

-- the statements behind one that ended so
abbrev pub statements_behind : Ended → List Token → List (List Token)
statements_behind Closed ts = statements_of (take (body_len ts) ts)
statements_behind Stopped ts = []
statements_behind Text ts = []

-- the tokens behind the module
abbrev pub behind_module : Ended → List Token → List Token
behind_module Closed ts = drop (body_len ts + 1) ts
behind_module Stopped ts = ts
behind_module Text ts = ts

-- statements, and nothing behind their module
unfoldable pub read_last : List ℕ → List (List Token) → List Token → Result (List Placed) Fault
read_last text ss behind = result_and_then (λ others. result_and_then (λ done. Ok others) (read_end text behind)) (read_others text ss)

-- what stands behind a statement that ended so
abbrev pub read_behind : List ℕ → Ended → List Token → Result (List Placed) Fault
read_behind text ended ts = read_last text (statements_behind ended ts) (behind_module ended ts)

-- the statement that some tokens are; none where there are none
abbrev pub one_of : List Token → List (List Token)
one_of [] = []
one_of (t ∷ ts) = (t ∷ ts) ∷ []

-- behind the statements that were read before
abbrev pub with_front : List Placed → Result (List Placed) Fault → Result (List Placed) Fault
with_front front read = result_and_then (λ others. Ok (front ++ others)) read
