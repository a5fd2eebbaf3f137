-- What a text denotes from a point on, whatever its size: the same as in Coming of the parts, without the limits.
use Rattle.std.specs.Prelude.{◌≡◌, ◌⊎◌, ℕ, zero, suc, ◌-◌, nat_lt, if◌then◌else◌, true, List, [], ◌∷◌, take, map, Option, Some, None}
use Rattle.base_types.specs.declared.kind.Kind.TheVariants.{PatternSyntax, StatementSize, PatternSize}
use Rattle.stil_types.specs.declared.head.StilHead.{StilHead}
use Rattle.stil_parts.specs.declared.gap.Gap.{Gap}
use Rattle.stil_parts.specs.declared.gap.Point.{Point}
use Rattle.stil_parts.specs.declared.part.PartFault.{PartFault}
use Rattle.stil_parts.specs.declared.part.Part.{Part}
use Rattle.stil_parts.specs.Gaps.{gap_at}
use Rattle.stil_parts.specs.Parts.{part_at, part_len}
use Rattle.stil_parts.specs.Coming.{Byte, Judge, Coming, Turn, Refused, Taken, before, stopped, fault_at, ending, moved, judged, part_events, point_behind}
use Rattle.stil_calls.specs.declared.judging.Judging.{Judging}
use Rattle.stil_calls.specs.Parts.{judge_by}
use Rattle.stil_reader.specs.Sayings.{Told, told}

-- a gap comes next
abbrev pub free_gap : Point → List ℕ → Gap → Turn
free_gap p bs g = Taken g.len (map Byte (take g.len bs)) (moved p (take g.len bs) g.place g.comment)

-- a part comes next, by the judge; or the text ends in one
abbrev pub free_part : Judge → Point → List ℕ → Option Part → Turn
free_part judge p bs None = Refused (fault_at PatternSyntax p.line)
free_part judge p bs (Some part) =
    let n = part_len part in
    let text = take n bs in
    judged (judge p part text) n (part_events p part text) (point_behind p part text)

-- what the bytes at a point, one at least, come to first
unfoldable pub free_turn : Judge → Point → List ℕ → Turn
free_turn judge p bs =
    let g = gap_at p.place p.comment bs in
    if nat_lt 0 g.len then free_gap p bs g else free_part judge p bs (part_at true p.place bs)

-- what a text denotes from a point on, after so many bytes that were taken before
unfoldable pub comes : Judge → Point → ℕ → List ℕ → Coming
comes judge p inside [] = ending p.place
comes judge p (suc inside) (b ∷ bs) = comes judge p inside bs
comes judge p zero (b ∷ bs) = elim (free_turn judge p (b ∷ bs)) [ Refused f ↦ stopped f | Taken n es q ↦ before es (comes judge q (n - 1) bs) ]

-- a statement or the whole text has too many bytes
abbrev pub IsSizeFault : Option PartFault → Type 0
IsSizeFault None = ⊥
IsSizeFault (Some f) = (f.kind ≡ StatementSize) ⊎ (f.kind ≡ PatternSize)

-- what a text says behind a head, whatever its size, its parts being judged beside the head
abbrev pub says_free : Judging → StilHead → Point → List ℕ → Told
says_free judging head p bytes = told head (comes (judge_by judging head) p 0 bytes)
