use Rattle.std.proofs.Common.{◌≡◌, ◌++◌, drop}
use Rattle.scan_job.specs.Commands.Reorder.{names_text}
use Rattle.scan_job.proofs.commands.reorder.push_names.Given as goal

abbrev pub invariant-loop-name : goal.invariant-loop-name
invariant-loop-name l = l.text.items ++ names_text (drop l.name-index l.names) ≡ l.fn.text.items ++ names_text l.names
