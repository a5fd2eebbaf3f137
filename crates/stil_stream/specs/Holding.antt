-- What the fields of a stream keep.
use Rattle.std.specs.Prelude.{◌≡◌, ℕ, ◌≤◌, Bool, true, List, length, take, drop}
use Rattle.stil_parts.specs.declared.gap.Point.{Point}
use Rattle.stil_parts.specs.declared.scan.Scan.{Scan}
use Rattle.stil_parts.specs.Coming.{largest, IsEarly}
use Rattle.stil_parts.specs.Resuming.{Resumes}
use Rattle.stil_stream.specs.declared.walk.Walk.{Walk}
use Rattle.stil_reader.specs.Sayings.{beginning}
use Rattle.stil_stream.specs.Streams.{largest_kept}
use Rattle.stil_stream.specs.Walks.{IsWalked}

-- of these bytes a stream keeps those from a place on, which are few; scans of them have come as far as they say
pub record IsHeld (buffer : List ℕ) (at : ℕ) (hungry in_head : Bool) (p : Point) (walk : Walk) (done : ℕ) (scan : Scan) : Type 0 where
  pub within : at ≤ length buffer
  pub early : IsEarly p
  pub bounded : length (drop at buffer) ≤ largest_kept
  pub small : hungry ≡ true → length (drop at buffer) ≤ largest
  pub begins : in_head ≡ true → p ≡ beginning
  pub walked : in_head ≡ true → IsWalked (take largest (drop at buffer)) walk
  pub resumes : Resumes p.place (drop at buffer) done scan
