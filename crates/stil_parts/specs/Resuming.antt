-- What a scan has come to in a part that isn't whole, so that no byte is scanned twice.
use Rattle.std.specs.Prelude.{◌≡◌, ℕ, ◌<◌, ◌≤◌, Bool, true, false, List, length, take, Some, None}
use Rattle.stil_parts.specs.declared.gap.Place.{Place}
use Rattle.stil_parts.specs.declared.scan.Scan.{Scan}
use Rattle.stil_parts.specs.declared.part.Search.{Search}
use Rattle.stil_parts.specs.declared.part.Search.TheVariants as searches
use Rattle.stil_parts.specs.Scanner.{end_of, run}
use Rattle.stil_parts.specs.Parts.{begin_at, part_at, part_len}

-- the first n bytes show no end, and a scan of them comes to t
pub record Reaches (s : Scan) (bytes : List ℕ) (n : ℕ) (t : Scan) : Type 0 where
  pub within : n ≤ length bytes
  pub none : end_of false s (take n bytes) ≡ None
  pub ran : run s (take n bytes) ≡ t
  pub shallow : t.depth ≤ n

-- a scan of a part's first n bytes has come to t
abbrev pub Resumes : Place → List ℕ → ℕ → Scan → Type 0
Resumes place bytes n t = Reaches (begin_at place) bytes n t

-- what no part was found in can be resumed, where the text may go on
abbrev pub CanResume : Bool → Place → List ℕ → Scan → Type 0
CanResume true place bytes t = Unit {0}
CanResume false place bytes t = Resumes place bytes (length bytes) t

-- the part that the bytes hold, or what a scan has come to where they hold none that is whole
abbrev pub Searched : Bool → Place → List ℕ → Search → Type 0
Searched last place bytes (searches.Part part) = (part_at last place bytes ≡ Some part) × (part_len part ≤ length bytes) × (0 < part_len part)
Searched last place bytes (searches.Open t) = (part_at last place bytes ≡ None) × CanResume last place bytes t
