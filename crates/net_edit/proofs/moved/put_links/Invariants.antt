use Rattle.std.proofs.Common.{◌≡◌, ◌++◌, drop}
use Rattle.path_links.specs.Edits.{links, links_from}
use Rattle.net_edit.proofs.moved.put_links.Given as goal

abbrev pub invariant-loop-step : goal.invariant-loop-step
invariant-loop-step l = l.all.items ++ links_from l.source (drop l.step-index l.path.steps) l.path.output ≡ l.fn.all.items ++ links l.path
