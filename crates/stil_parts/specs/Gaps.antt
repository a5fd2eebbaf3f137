-- What belongs to no statement, at the front of a text: blanks, empty statements, comments, and the brace that closes a
-- Pattern (IEEE 1450-1999, clause 6).
use Rattle.std.specs.Prelude.{ℕ, Bool, false, ◌&&◌, ◌||◌, ◌==◌, if◌then◌else◌, List, [], ◌∷◌}
use Rattle.stil_parts.specs.declared.gap.Place.{Place}
use Rattle.stil_parts.specs.declared.gap.Place.TheVariants.{Top, Pattern}
use Rattle.stil_parts.specs.declared.gap.Comment.{Comment}
use Rattle.stil_parts.specs.declared.gap.Comment.TheVariants.{Outside, Line, Block}
use Rattle.stil_parts.specs.declared.gap.Gap.{Gap}
use Rattle.stil_tokens.specs.StilTokens.{is_blank}

-- so many bytes, and what the place behind them stands in
abbrev pub gap_of : ℕ → Place → Comment → Gap
gap_of len place comment = record { len = len; place = place; comment = comment }

-- in a comment to the line's end
unfoldable pub line_gap : Place → List ℕ → Gap
line_gap place [] = gap_of 0 place Line
line_gap place (b ∷ bs) = gap_of 1 place (if b == 10 then Outside else Line)

-- in a comment in /*
unfoldable pub block_gap : Place → Bool → List ℕ → Gap
block_gap place star [] = gap_of 0 place (Block star)
block_gap place star (b ∷ bs) = gap_of 1 place (if star && b == 47 then Outside else Block (b == 42))

-- behind a slash
unfoldable pub slash_gap : Place → List ℕ → Gap
slash_gap place [] = gap_of 0 place Outside
slash_gap place (b ∷ bs) = if b == 47 then gap_of 2 place Line else (if b == 42 then gap_of 2 place (Block false) else gap_of 0 place Outside)

-- at a closing brace where a statement would begin
abbrev pub close_gap : Place → Gap
close_gap Top = gap_of 0 Top Outside
close_gap (Pattern line) = gap_of 1 Top Outside

-- outside a comment
unfoldable pub outside_gap : Place → List ℕ → Gap
outside_gap place [] = gap_of 0 place Outside
outside_gap place (b ∷ bs) =
    if is_blank b || b == 59 then gap_of 1 place Outside
    else (if b == 47 then slash_gap place bs
    else (if b == 125 then close_gap place
    else gap_of 0 place Outside))

-- the gap that the first bytes show: one byte, or the two that begin a comment; 0 bytes where they show none
unfoldable pub gap_at : Place → Comment → List ℕ → Gap
gap_at place Outside bs = outside_gap place bs
gap_at place Line bs = line_gap place bs
gap_at place (Block star) bs = block_gap place star bs
