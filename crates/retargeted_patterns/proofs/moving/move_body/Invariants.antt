use Rattle.std.proofs.Common.{◌≡◌, ◌++◌, drop}
use Rattle.stil_writer.specs.Loops.{calls_moved}
use Rattle.retarget.specs.Moved.{moved_call}
use Rattle.retargeted_patterns.specs.Figures.{plus, body_figures}
use Rattle.retargeted_patterns.proofs.moving.move_body.Given as goal

abbrev pub invariant-loop-statement : goal.invariant-loop-statement
invariant-loop-statement l = record {
  calls : l.moved.calls ++ calls_moved (moved_call l.map.0 l.map.1) (drop l.statement-index l.body) ≡ calls_moved (moved_call l.map.0 l.map.1) l.body;
  figures : plus l.moved.figures (body_figures l.map.0 l.map.1 (drop l.statement-index l.body)) ≡ body_figures l.map.0 l.map.1 l.body;
}
