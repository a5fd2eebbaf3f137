use Rattle.stil_head.proofs.unsupported.scan_names.Given as goal
use Rattle.std.proofs.Common.{◌≡◌, ◌||◌, drop, List, ℕ}
use Rattle.stil_head.specs.Unsupported.{scan_names, is_name_of}

abbrev pub invariant-loop-callee : goal.invariant-loop-callee
invariant-loop-callee l = (q : List ℕ) → (is_name_of l.names q || is_name_of (scan_names (drop l.callee-index l.callees)) q) ≡ is_name_of (scan_names l.callees) q
