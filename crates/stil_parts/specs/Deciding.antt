-- What the bytes at a point come to: the contract that a whole text and a text in pieces share.
use Rattle.std.specs.Prelude.{◌≡◌, ℕ, ◌+◌, ◌<◌, ◌≤◌, Bool, true, false, List, [], ◌∷◌, ◌++◌, length, take, drop, map, Option, Some, None, is_some}
use Rattle.stil_parts.specs.declared.gap.Place.TheVariants.{Top}
use Rattle.stil_parts.specs.declared.gap.Point.{Point}
use Rattle.stil_parts.specs.declared.part.PartFault.{PartFault}
use Rattle.stil_parts.specs.declared.choice.Decision.{Decision}
use Rattle.stil_parts.specs.declared.choice.Decision.TheVariants as decisions
use Rattle.stil_parts.specs.Coming.{Event, Byte, Judge, Coming, before, stopped, part_events, point_behind, next_turn, to_come, IsEarly}
use Rattle.stil_parts.specs.declared.part.Part.{Part}
use Rattle.stil_parts.specs.Parts.{part_len}
use Rattle.stil_parts.specs.Resuming.{Resumes}

-- what may follow the bytes: anything, or nothing where the text goes no further
abbrev pub Follows : Bool → List ℕ → Type 0
Follows true more = more ≡ []
Follows false more = Unit {0}

-- where the text may go on, the bytes show something
abbrev pub Shown : Judge → Bool → Point → List ℕ → Type 0
Shown judge true p bytes = Unit {0}
Shown judge false p bytes = is_some (next_turn judge false p bytes) ≡ true

-- the first n bytes come to these events and to a new point behind them, whatever follows
pub record Takes (judge : Judge) (last : Bool) (p : Point) (bytes : List ℕ) (n : ℕ) (es : List Event) (q : Point) : Type 0 where
  pub some : 0 < n
  pub within : n ≤ length bytes
  pub early : IsEarly q
  pub given : q.given ≡ p.given + n
  pub shown : Shown judge last p bytes
  pub comes : (more : List ℕ) → Follows last more → to_come judge p 0 (bytes ++ more) ≡ before es (to_come judge q 0 (drop n bytes ++ more))

-- what the judge finds, or else what comes
abbrev pub verdict : Option PartFault → Coming → Coming
verdict None c = c
verdict (Some f) c = stopped f

-- the first bytes are a part, whatever follows: what the judge finds in it comes, or else what it says and what comes behind
pub record IsPart (judge : Judge) (last : Bool) (p : Point) (bytes : List ℕ) (part : Part) (q : Point) : Type 0 where
  pub some : 0 < part_len part
  pub within : part_len part ≤ length bytes
  pub early : IsEarly q
  pub point : q ≡ point_behind p part (take (part_len part) bytes)
  pub shown : Shown judge last p bytes
  pub comes : (more : List ℕ) → Follows last more
      → to_come judge p 0 (bytes ++ more) ≡ verdict (judge p part (take (part_len part) bytes)) (before (part_events p part (take (part_len part) bytes)) (to_come judge q 0 (drop (part_len part) bytes ++ more)))

-- a fault comes next, whatever follows
pub record IsStopped (judge : Judge) (last : Bool) (p : Point) (bytes : List ℕ) (f : PartFault) : Type 0 where
  pub shown : Shown judge last p bytes
  pub comes : (more : List ℕ) → Follows last more → to_come judge p 0 (bytes ++ more) ≡ stopped f

-- the text goes on, and the bytes show nothing
pub record IsWanting (judge : Judge) (last : Bool) (p : Point) (bytes : List ℕ) : Type 0 where
  pub unended : last ≡ false
  pub none : next_turn judge false p bytes ≡ None

-- the text ends here, outside a Pattern
pub record IsAtEnd (last : Bool) (p : Point) (bytes : List ℕ) : Type 0 where
  pub ended : last ≡ true
  pub nothing_left : bytes ≡ []
  pub at_top : p.place ≡ Top

-- what was decided is what comes by a judge
abbrev pub DecidesBy : Judge → Bool → Point → List ℕ → Decision → Type 0
DecidesBy judge last p bytes (decisions.Want scan) = IsWanting judge last p bytes × Resumes p.place bytes (length bytes) scan
DecidesBy judge last p bytes (decisions.Gap len q) = Takes judge last p bytes len (map Byte (take len bytes)) q
DecidesBy judge last p bytes (decisions.Part part q) = IsPart judge last p bytes part q
DecidesBy judge last p bytes (decisions.Stop fault) = IsStopped judge last p bytes fault
DecidesBy judge last p bytes decisions.End = IsAtEnd last p bytes

-- by any judge
abbrev pub Decides : Bool → Point → List ℕ → Decision → Type 0
Decides last p bytes decision = (judge : Judge) → DecidesBy judge last p bytes decision
