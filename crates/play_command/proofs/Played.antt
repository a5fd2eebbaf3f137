-- What is left when a statement was played.
use Rattle.std.proofs.Common.{◌≡◌, ℕ, ◌+◌, suc, List, [], ◌∷◌, ◌++◌, length, ap, ◌∙◌}
use Rattle.std.specs.Prelude.{Bool}
use Rattle.stil_types.specs.declared.statement.PatternStatement.{PatternStatement}
use Rattle.stil_reader.specs.Sayings.{Stated}
use Rattle.stil_tester.specs.declared.symbol.Symbol.{Symbol}
use Rattle.stil_tester.specs.Runs.{Play, all_events, play_of, verdicts_of}
use Rattle.play_command.specs.declared.device.DeviceKind.{DeviceKind}
use Rattle.play_command.specs.Plays.{behaviour, scan_lines}
use Rattle.play_command.specs.Progress.{Progress, after_saying}
use Rattle.play_command.proofs.Lengths.{device_stays}

module _ (p : Progress) (s : PatternStatement) where
  abbrev play : Play DeviceKind
  play = play_of behaviour p.chains (s ∷ []) p.device p.cells

  pub played : (device : DeviceKind) (cells : List Symbol) (verdicts : List Bool) (scans : ℕ) (lines : List ℕ)
      → device ≡ play.device → cells ≡ play.results.cells → verdicts ≡ verdicts_of play.results.scans
      → scans ≡ p.scans + length verdicts → lines ≡ p.lines ++ scan_lines (suc p.scans) verdicts
      → record { head = p.head; chains = p.chains; device = device; cells = cells; scans = scans; lines = lines } ≡ after_saying (Stated s) p
  played device cells verdicts scans lines device_is cells_are verdicts_are scans_are lines_are =
      let stays : device ≡ p.device = device_is ∙ device_stays p.chains (all_events (s ∷ [])) p.device p.cells in
      let count = scans_are ∙ ap (λ (vs : List Bool). p.scans + length vs) verdicts_are in
      let text = lines_are ∙ ap (λ (vs : List Bool). p.lines ++ scan_lines (suc p.scans) vs) verdicts_are in
      λ i. record { head = p.head; chains = p.chains; device = stays i; cells = cells_are i; scans = count i; lines = text i }
