use Rattle.std.proofs.Common.{◌≡◌, ℕ, ◌<◌, ◌≤◌, length}
use Rattle.std.specs.Prelude.{◌⊎◌}
use Rattle.fail_map.specs.Blocks.{call_of_round, round_calls}
use Rattle.fail_map.specs.Carried.{IsTried}
use Rattle.fail_map.specs.Numbered.{line_at, mapped_at}
use Rattle.fail_map.proofs.mapping.find_lines.Given as goal

abbrev pub invariant-loop-at : goal.invariant-loop-at
invariant-loop-at l = record {
  long : length l.mapped ≡ length l.lines;
  others : (k : ℕ) → k < l.stretch.first ⊎ l.at ≤ k → mapped_at l.mapped k ≡ mapped_at l.initial.mapped k;
  found : (k : ℕ) → l.stretch.first ≤ k → k < l.at → IsTried l.map.0 l.map.1 (call_of_round (round_calls l.b) l.stretch.before (line_at l.lines k)) (line_at l.lines k) (mapped_at l.initial.mapped k) (mapped_at l.mapped k);
}
