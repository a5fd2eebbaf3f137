use Rattle.std.proofs.Common.{◌≡◌, ◌+◌, List, [], ◌∷◌, ◌++◌, length, take, map}
use Rattle.chain_rules.specs.declared.spec.ElementSpec.{ElementSpec}
use Rattle.chain_rules.specs.Stretches.{path_at}
use Rattle.chain_rules.specs.Runs.{stretch, AreMarks}
use Rattle.chain_rules.proofs.marks.mark_floating.Given as goal

abbrev pub invariant-loop-element : goal.invariant-loop-element
invariant-loop-element l =
    (l.group ≡ l.groups + l.element-index) × ((before : List (List ElementSpec)) → length before ≡ l.groups → AreMarks (path_at l.index l.run.path) (stretch l.run) before l.initial.marks → AreMarks (path_at l.index l.run.path) (stretch l.run) (before ++ map (λ e. e ∷ []) (take l.element-index l.elements)) l.marks)
