-- Statements that come one after the other fit the chains that the head declares.
use Rattle.std.proofs.Common.{Option, Some, None, IfSome, ◌∙◌, subst}
use Rattle.stil_types.specs.declared.head.StilHead.{StilHead}
use Rattle.stil_types.specs.declared.statement.PatternStatement.{PatternStatement}
use Rattle.stil_reader.specs.Cursors.{Ahead, IsReadable}
use Rattle.stil_tester.specs.declared.chains.Chains.{Chains}
use Rattle.scan_verify.specs.Patterns.{IsReady}
use Rattle.declared_chains.specs.Files.{Fits}
use Rattle.verify_command.specs.Steps.{TakesStatement, TakesNext, GoOn}
use Rattle.verify_command.proofs.Comparing.{ready}

module _ (chains : Chains) (first more : Ahead) (on : GoOn first more) (more' : Ahead) where
  pub ready_next : Fits first.head chains → (o : Option PatternStatement) → TakesNext more o more' → IfSome o (IsReady chains)
  ready_next fits None t = tt
  ready_next fits (Some s) t = ready first.head chains fits s (subst (λ (h : StilHead). IsReadable h s) on.head t.readable)

  pub go_on : (s : PatternStatement) → TakesStatement more s more' → GoOn first more'
  go_on s t = record { head = t.head ∙ on.head; sound = t.sound }
