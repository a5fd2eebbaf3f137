use Rattle.std.proofs.Common.{List, ℕ, ◌++◌, ◌∷◌, [], get_or, take, ap, sym, ◌∙◌, append_assoc}
use Rattle.verilog_names.specs.Declarations.{has}
use Rattle.verilog_checks.proofs.NameLists.{now_of, now_last, added}
use Rattle.verilog_checks.proofs.name_lists.add_names.Goals as goal

pub loop-name-preserved : goal.loop-name-preserved
loop-name-preserved c = λ before h q.
    let xs = c.args.names.now in
    let i = c.loop-name.name-index in
    added (before ++ now_of (take i xs)) (get_or xs i _).now q.now _ _ (c.in_ok-insert.ensures.updates.0 q) (c.loop-name.invariant before h q)
    ∙ ap (λ (l : List (List ℕ)). has l q.now) (append_assoc before (now_of (take i xs)) ((get_or xs i _).now ∷ []) ∙ ap (λ (l : List (List ℕ)). before ++ l) (sym (now_last xs i _ c.loop-name-test.true)))
