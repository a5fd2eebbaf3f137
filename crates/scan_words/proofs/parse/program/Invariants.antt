use Rattle.std.proofs.Common.{◌≡◌, drop}
use Rattle.clap.specs.Words.{app_of}
use Rattle.scan_words.specs.Verbs.{verbs}
use Rattle.scan_words.specs.Command.{program, with_verbs}
use Rattle.scan_words.proofs.parse.program.Given as goal

abbrev pub invariant-loop-verb : goal.invariant-loop-verb
invariant-loop-verb l = with_verbs (app_of l.command) (drop l.verb-index verbs) ≡ program
