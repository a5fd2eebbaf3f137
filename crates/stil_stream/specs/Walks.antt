-- How far the search for the head's end has come, so that no byte of it is read twice.
use Rattle.std.specs.Prelude.{◌≡◌, ℕ, ◌+◌, ◌<◌, ◌≤◌, Bool, false, List, ◌++◌, length, take, drop, Option, Some, None}
use Rattle.stil_parts.specs.declared.gap.Place.TheVariants.{Top}
use Rattle.stil_parts.specs.declared.gap.Comment.{Comment}
use Rattle.stil_parts.specs.declared.gap.Comment.TheVariants.{Outside}
use Rattle.stil_parts.specs.declared.head.HeadTurn.TheVariants as turns
use Rattle.stil_parts.specs.Heads.{head_turn, head_end}
use Rattle.stil_parts.specs.Resuming.{Resumes}
use Rattle.stil_stream.specs.declared.walk.Walk.{Walk}
use Rattle.stil_stream.specs.declared.walk.Front.{Front}
use Rattle.stil_stream.specs.declared.walk.Front.TheVariants as fronts
use Rattle.stil_stream.specs.declared.walk.Walked.{Walked}
use Rattle.stil_stream.specs.declared.walk.Walked.TheVariants as walks

-- what is known holds
abbrev pub holds : Option Bool → Bool
holds None = false
holds (Some is) = is

-- so many bytes later
abbrev pub plus : ℕ → Option ℕ → Option ℕ
plus n None = None
plus n (Some m) = Some (n + m)

-- whatever follows, the head ends where it ends behind the first n bytes
pub record IsPassed (bytes : List ℕ) (n : ℕ) (comment : Comment) : Type 0 where
  pub within : n ≤ length bytes
  pub same : (last : Bool) (more : List ℕ) → head_end last Outside 0 (bytes ++ more) ≡ plus n (head_end last comment 0 (drop n bytes ++ more))

-- the bytes that a walk has seen begin the bytes; its first ones are passed, and a scan has seen the others
pub record IsWalked (bytes : List ℕ) (w : Walk) : Type 0 where
  pub within : w.passed + w.done ≤ length bytes
  pub passed : IsPassed (take (w.passed + w.done) bytes) w.passed w.comment
  pub resumes : Resumes Top (drop w.passed bytes) w.done w.scan

-- the first n bytes are passed, whatever follows
pub record IsPassing (comment : Comment) (bytes : List ℕ) (n : ℕ) (behind : Comment) : Type 0 where
  pub some : 0 < n
  pub within : n ≤ length bytes
  pub passes : (last : Bool) (more : List ℕ) → head_turn last comment (bytes ++ more) ≡ Some (turns.Passed n behind)

-- what stands at the front of the bytes
abbrev pub IsFront : Bool → Comment → List ℕ → Front → Type 0
IsFront last comment bytes (fronts.Passed n behind) = IsPassing comment bytes n behind
IsFront last comment bytes fronts.Here = head_turn last comment bytes ≡ Some turns.Here
IsFront last comment bytes (fronts.Open scan) = (head_turn last comment bytes ≡ None) × Resumes Top bytes (length bytes) scan

-- the head ends behind so many bytes, or nothing is shown of its end
abbrev pub WalkedOn : Bool → List ℕ → Walked → Type 0
WalkedOn last bytes (walks.End n) = (head_end last Outside 0 bytes ≡ Some n) × (n ≤ length bytes)
WalkedOn last bytes (walks.Open w) = (last ≡ false) × (head_end false Outside 0 bytes ≡ None) × IsWalked bytes w
