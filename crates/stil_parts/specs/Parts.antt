-- The part of a text that is handed out at once: a statement, or what stands of a Pattern up to the brace that opens it.
use Rattle.std.specs.Prelude.{ℕ, Bool, false, if◌then◌else◌, List, Option, Some, None}
use Rattle.stil_parts.specs.declared.gap.Place.{Place}
use Rattle.stil_parts.specs.declared.gap.Place.TheVariants.{Top, Pattern}
use Rattle.stil_parts.specs.declared.word.Word.{Word}
use Rattle.stil_parts.specs.declared.word.Word.TheVariants.{Start, Known}
use Rattle.stil_parts.specs.declared.scan.Scan.{Scan}
use Rattle.stil_parts.specs.declared.scan.Mode.TheVariants.{Free}
use Rattle.stil_parts.specs.declared.scan.Found.{Found}
use Rattle.stil_parts.specs.declared.part.Part.{Part}
use Rattle.stil_parts.specs.declared.part.Part.TheVariants.{Passes, Opens, Whole}
use Rattle.stil_parts.specs.Scanner.{end_of}

-- a scan at the beginning of a part
abbrev pub begin : Word → Scan
begin word = record { mode = Free; depth = 0; word = word }

-- the word of a part at a place: in a Pattern none is the word Pattern
abbrev pub word_at : Place → Word
word_at Top = Start
word_at (Pattern line) = Known false

-- a scan at the beginning of a part at a place
abbrev pub begin_at : Place → Scan
begin_at place = begin (word_at place)

-- what was found at a place
abbrev pub part_of : Place → Found → Part
part_of Top f = if f.opens then Opens f.len else Passes f.len
part_of (Pattern line) f = Whole f.len

-- the part of what was found, if something was
abbrev pub parted : Place → Option Found → Option Part
parted place None = None
parted place (Some f) = Some (part_of place f)

-- the part that the bytes hold from their front; last tells whether the text goes no further
unfoldable pub part_at : Bool → Place → List ℕ → Option Part
part_at last place bs = parted place (end_of last (begin_at place) bs)

-- how many bytes a part has
abbrev pub part_len : Part → ℕ
part_len (Passes n) = n
part_len (Opens n) = n
part_len (Whole n) = n
