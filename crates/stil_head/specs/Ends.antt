-- Where the head of a STIL text ends (IEEE 1450-1999, clause 6).
use Rattle.std.specs.Prelude.{ℕ, true, List, length, take}
use Rattle.std.specs.Option.{unwrap_or}
use Rattle.stil_parts.specs.declared.gap.Comment.TheVariants.{Outside}
use Rattle.stil_parts.specs.Heads.{head_end}

-- the place at which the head of a text ends: where the first Pattern begins, or where the text ends
abbrev pub end_at : List ℕ → ℕ
end_at bytes = unwrap_or (head_end true Outside 0 bytes) (length bytes)

-- the bytes of the head
abbrev pub head_text : List ℕ → List ℕ
head_text bytes = take (end_at bytes) bytes
