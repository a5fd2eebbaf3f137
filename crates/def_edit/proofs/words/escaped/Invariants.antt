use Rattle.std.proofs.Common.{◌≡◌, ◌∷◌, [], take}
use Rattle.std.specs.List.{flat_map}
use Rattle.def_edit.proofs.words.escaped.Given as goal

abbrev pub invariant-loop-b : goal.invariant-loop-b
invariant-loop-b l = l.word.items ≡ flat_map (λ c. 92 ∷ c ∷ []) (take l.b-index l.name)
