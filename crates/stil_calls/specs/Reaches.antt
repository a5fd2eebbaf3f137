-- How far the last L or H reaches, in numbers that don't go beyond the greatest.
use Rattle.std.specs.Prelude.{◌≡◌, ◌≤◌, ℕ, ◌-◌, ◌^◌, min, max, List}
use Rattle.stil_calls.specs.declared.repeats.Repeat.{Repeat}
use Rattle.stil_calls.specs.Repeats.{reach_from}

-- what is known while repeats are read: how many characters stand before those that are left, and how far the last L or H
-- before them reaches
pub record Reaching (before reach : ℕ) (left all : List Repeat) : Type 0 where
  pub stand : ℕ
  pub before_is : before ≡ min stand (2 ^ 64 - 1)
  pub within : reach ≤ before
  pub same : min (max reach (reach_from stand left)) (2 ^ 64 - 1) ≡ min (reach_from 0 all) (2 ^ 64 - 1)
