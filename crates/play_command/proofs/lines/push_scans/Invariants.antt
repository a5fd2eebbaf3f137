use Rattle.std.proofs.Common.{◌≡◌, ◌+◌, ◌≤◌, ◌++◌, suc, length, drop}
use Rattle.play_command.specs.Plays.{scan_lines}
use Rattle.play_command.proofs.lines.push_scans.Given as goal

abbrev pub invariant-loop-passed : goal.invariant-loop-passed
invariant-loop-passed l = record {
  count : l.scans ≡ l.before + l.passed-index;
  few : l.scans ≤ length l.lines.items;
  grown : length l.fn.lines.items ≤ length l.lines.items;
  value : l.lines.items ++ scan_lines (suc l.scans) (drop l.passed-index l.verdicts) ≡ l.fn.lines.items ++ scan_lines (suc l.before) l.verdicts;
}
