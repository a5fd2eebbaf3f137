use Rattle.std.proofs.Common.{◌≡◌, ◌++◌, map, drop}
use Rattle.def_edit.specs.NewChains.{chain_layouts}
use Rattle.def_edit.specs.Layouts.{laid_chain}
use Rattle.def_edit.proofs.layouts.chains_words.Given as goal

abbrev pub invariant-loop-place : goal.invariant-loop-place
invariant-loop-place l = map laid_chain l.words.items ++ chain_layouts l.components (drop l.place l.chains) (drop l.place l.news) ≡ chain_layouts l.components l.chains l.news
