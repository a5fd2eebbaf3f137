use Rattle.std.proofs.Common.{ap, ◌∙◌, Bor, List, ℕ}
use Rattle.std.proofs.lemmas.List.{take_all}
use Rattle.rewire_command.specs.Names.{now_of}
use Rattle.rewire_command.specs.Faults.{has}
use Rattle.rewire_command.proofs.NameLists.{added_name}
use Rattle.rewire_command.proofs.names.set_of.Goals as goal

pub loop-name-preserved : goal.loop-name-preserved
loop-name-preserved c = λ q. added_name c.args.names.now c.loop-name.name-index _ q.now _ _ c.loop-name-test.true (c.in_ok-insert.ensures.updates.0 q) (c.loop-name.invariant q)

pub returns : goal.returns
returns c = record { value = λ q. c.loop-name.invariant q ∙ ap (λ (l : List (Bor (List ℕ))). has (now_of l) q.now) (take_all c.loop-name.name-index c.args.names.now c.loop-name-test.false) }
