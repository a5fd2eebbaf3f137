use Rattle.std.proofs.Common.{◌≡◌, ℕ, List, ◌∷◌, [], ◌++◌, get_or, sym, ◌∙◌, arith}
use Rattle.std.proofs.lemmas.List.{get_or_default}
use Rattle.netlist_core.specs.Netlists.{plain_of}
use Rattle.plan_paths.specs.NewPaths.{absent_path, path_in}
use Rattle.chain_balance.specs.Balance.{is_in}
use Rattle.reorder_command.proofs.OutputNames.{names_in, names_out}
use Rattle.reorder_command.proofs.balanced.output_names.Goals.{then-set-path+in_ok-copy+in_ok-push, else-set-path}
use Rattle.reorder_command.proofs.balanced.output_names.Goals as goal

pub loop-path-preserved : goal.loop-path-preserved
loop-path-preserved c =
    let n = c.loop-path.path in
    let paths = c.args.paths.now in
    let name : ℕ → List ℕ = λ k. plain_of c.args.netlist.now.nets (path_in paths k).output in
    elim c.if-set-path.branch [
      | then-set-path+in_ok-copy+in_ok-push w ↦
          let at : get_or paths n w.index-paths-path.result ≡ path_in paths n = get_or_default paths n w.index-paths-path.result absent_path (omega arith) in
          let nets = c.as_slice-nets.ensures.value in
          let is : w.in_ok-copy.field-0 ≡ name n = w.in_ok-copy.ensures.value ∙ w.plain_of.ensures.value ∙ (λ i. plain_of (nets i) (at i).output) in
          w.names-is ∙ w.in_ok-push.ensures.ok ∙ (λ i. c.loop-path.invariant i ++ is i ∷ []) ∙ sym (names_in name (is_in c.args.set.now) n w.if-set-path.true)
      | else-set-path w ↦ w.names-is ∙ c.loop-path.invariant ∙ sym (names_out name (is_in c.args.set.now) n w.if-set-path.false)
    ]
