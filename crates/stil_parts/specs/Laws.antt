-- Laws of what a text denotes, which know nothing of the code.
use Rattle.std.specs.Prelude.{◌≡◌, ℕ, false, ◌||◌, nat_lt, List, [], ◌∷◌, length, None, is_some}
use Rattle.std.specs.List.{flat_map}
use Rattle.stil_parts.specs.declared.gap.Place.TheVariants.{Pattern}
use Rattle.stil_parts.specs.declared.gap.Point.{Point}
use Rattle.stil_parts.specs.Gaps.{gap_at}
use Rattle.stil_tokens.specs.StilTokens.{tokens_in}
use Rattle.stil_parts.specs.Ending.{statement_end}
use Rattle.stil_parts.specs.Coming.{Event, Byte, Opened, Statement, Judge, largest, next_turn, to_come}

-- in a Pattern the bytes show something where a gap begins, where their tokens hold a whole statement, or where they are
-- more than a part may have; and nowhere else
abbrev pub ShownLaw : Type 0
ShownLaw = (judge : Judge) (p : Point) (line : ℕ) (kept : List ℕ) → p.place ≡ Pattern line
    → is_some (next_turn judge false p kept) ≡ (nat_lt 0 (gap_at p.place p.comment kept).len || (is_some (statement_end 0 (tokens_in kept)) || nat_lt largest (length kept)))

-- the bytes that an event stands for
abbrev pub bytes_of : Event → List ℕ
bytes_of (Byte b) = b ∷ []
bytes_of (Opened text p) = []
bytes_of (Statement text p) = text

-- where a text isn't refused, none of its bytes is lost
abbrev pub BytesLaw : Type 0
BytesLaw = (judge : Judge) (p : Point) (text : List ℕ) → (to_come judge p 0 text).fault ≡ None → flat_map bytes_of (to_come judge p 0 text).events ≡ text
