use Rattle.std.proofs.Common.{ap, ◌∙◌}
use Rattle.clap.specs.Words.{App, app_of, with_subcommand}
use Rattle.scan_words.specs.Verbs.{verbs}
use Rattle.scan_words.proofs.CommandLoop.{one_verb}
use Rattle.scan_words.proofs.parse.program.Goals as goal

pub loop-verb-preserved : goal.loop-verb-preserved
loop-verb-preserved c =
    let next = c.in_ok-command.ensures.shape c.in_ok-verb_command.ensures.local
    ∙ ap (λ (a : App). with_subcommand (app_of c.loop-verb.command) a.top) c.in_ok-verb_command.ensures.app in
    one_verb (app_of c.loop-verb.command) _ verbs c.verbs-verb-items.result.now c.loop-verb.verb-index _ c.verbs-verb-items.ensures c.loop-verb-test.true next c.loop-verb.invariant
