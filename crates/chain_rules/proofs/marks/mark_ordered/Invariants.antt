use Rattle.std.proofs.Common.{◌≡◌, List, [], ◌∷◌, ◌++◌, length, take}
use Rattle.chain_rules.specs.declared.spec.ElementSpec.{ElementSpec}
use Rattle.chain_rules.specs.Stretches.{path_at}
use Rattle.chain_rules.specs.Runs.{stretch, AreMarks}
use Rattle.chain_rules.proofs.marks.mark_ordered.Given as goal

abbrev pub invariant-loop-element : goal.invariant-loop-element
invariant-loop-element l =
    (before : List (List ElementSpec)) → length before ≡ l.groups → AreMarks (path_at l.index l.run.path) (stretch l.run) before l.initial.marks → AreMarks (path_at l.index l.run.path) (stretch l.run) (before ++ take l.element-index l.elements ∷ []) l.marks
