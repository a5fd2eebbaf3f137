use Rattle.std.proofs.Common.{List, [], ◌∷◌, ◌++◌, ap, sym, ◌∙◌, ℕ}
use Rattle.std.specs.Prelude.{Option, None}
use Rattle.plan_paths.proofs.Owned.{row_more}
use Rattle.plan_paths.proofs.owners.unmarked_row.Goals as goal

pub loop-preserved : goal.loop-preserved
loop-preserved c = λ path. c.in_ok-push.ensures.items ∙ ap (λ (row : List (Option ℕ)). row ++ None ∷ []) (c.loop.invariant path) ∙ sym (row_more path c.loop.counter)
