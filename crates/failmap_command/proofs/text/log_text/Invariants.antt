use Rattle.std.proofs.Common.{◌≡◌, take}
use Rattle.fail_map.specs.Logs.{log_text}
use Rattle.failmap_command.proofs.text.log_text.Given as goal

abbrev pub invariant-loop-line : goal.invariant-loop-line
invariant-loop-line l = l.text.items ≡ log_text (take l.line-index l.log)
