use Rattle.std.proofs.Common.{◌≡◌}
use Rattle.std.proofs.lemmas.Result.{err_from_is_err_and}
use Rattle.token_forms.specs.declared.source.Ended.TheVariants.{Stopped}
use Rattle.verilog_syntax.proofs.ChunkReads.{close_goes, close_stops, last_closed}
use Rattle.verilog_syntax.proofs.reading.read_close.Goals as goal
use Rattle.verilog_syntax.proofs.reading.read_close.Goals.{in-Text, in_default}

pub returns-in_err-read_end-clause-value : goal.returns-in_err-read_end-clause-value
returns-in_err-read_end-clause-value c =
    let p = err_from_is_err_and c.from_residual.result c.from_residual.ensures.1 in
    let ended : c.args.ended ≡ Stopped = elim c.match-matches.branch [ in-Text w ↦ absurd cc | in_default w ↦ last_closed c.args.ended c.requires.last w.in_default.not-Text ] in
    λ closed. rw (p.1, p.2, ended) (close_stops c.args.source.now.source c.args.statements _ c.in_err-read_end.field-0.0 c.in_err-read_end.ensures.value)

pub returns-clause-value : goal.returns-clause-value
returns-clause-value c =
    let ended : c.args.ended ≡ Stopped = elim c.match-matches.branch [ in-Text w ↦ absurd cc | in_default w ↦ last_closed c.args.ended c.requires.last w.in_default.not-Text ] in
    λ closed. rw ended (close_goes c.args.source.now.source c.args.statements _ c.in_ok-read_end.field-0 c.in_ok-read_end.ensures.value)
