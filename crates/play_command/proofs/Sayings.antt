-- Statements that are played one after the other say what the whole text of `play` says.
use Rattle.std.proofs.Common.{◌≡◌, ℕ, ◌+◌, suc, List, [], ◌∷◌, ◌++◌, length, take, drop, refl, sym, ap, ap₂, ◌∙◌, append_assoc}
use Rattle.std.specs.Prelude.{Bool}
use Rattle.std.proofs.Math.Seq.{drop-append_seam, take-append_seam}
use Rattle.std.proofs.lemmas.List.{map-append}
use Rattle.stil_types.specs.declared.statement.PatternStatement.{PatternStatement}
use Rattle.stil_reader.specs.Sayings.{Saying, Head, GapByte, Named, Stated}
use Rattle.stil_tester.specs.declared.symbol.Symbol.{Symbol}
use Rattle.stil_tester.specs.declared.chains.Chains.{Chains}
use Rattle.stil_tester.specs.declared.results.ScanResult.{ScanResult}
use Rattle.stil_tester.specs.Runs.{events_of, all_events, Play, play_events, play_of, verdicts_of}
use Rattle.stil_tester.proofs.Plays.{joined, play_events-append, one_played}
use Rattle.play_command.specs.declared.device.DeviceKind.{DeviceKind}
use Rattle.stil_reader.specs.Patterns.{statements_in}
use Rattle.play_command.specs.Plays.{behaviour, scans_in, pattern_line, scan_lines, pattern_lines, cells_line}
use Rattle.play_command.specs.Progress.{Progress, after_saying, after_sayings, at_first, finished, opened, ProgressLaw}
use Rattle.play_command.proofs.Lengths.{device_stays, verdicts_count}

-- the text that a play ends with
abbrev ending : ℕ → List Saying → Play DeviceKind → List ℕ
ending scans says play = pattern_lines scans says (verdicts_of play.results.scans) ++ cells_line play.results.cells

-- the play of what is still to be said
abbrev to_play : Progress → List Saying → Play DeviceKind
to_play p says = play_of behaviour p.chains (statements_in says) p.device p.cells

-- where the verdicts of a statement stand in front
front_lines : (scans n : ℕ) (says : List Saying) (these those all : List Bool) → all ≡ these ++ those → length these ≡ n
    → scan_lines (suc scans) (take n all) ++ pattern_lines (scans + n) says (drop n all) ≡ scan_lines (suc scans) these ++ pattern_lines (scans + length these) says those
front_lines scans n says these those all e count =
    let front : take n all ≡ these = ap₂ (λ (k : ℕ) (xs : List Bool). take k xs) (sym count) e ∙ take-append_seam these those in
    let rest : drop n all ≡ those = ap₂ (λ (k : ℕ) (xs : List Bool). drop k xs) (sym count) e ∙ drop-append_seam these those in
    ap₂ (λ (xs ys : List ℕ). xs ++ ys) (ap (scan_lines (suc scans)) front) (ap₂ (λ (k : ℕ) (xs : List Bool). pattern_lines (scans + k) says xs) (sym count) rest)

-- a statement is played, and then the others
two_plays : (chains : Chains) (s : PatternStatement) (ss : List PatternStatement) (device : DeviceKind) (cells : List Symbol)
    → (let first = play_of behaviour chains (s ∷ []) device cells in play_of behaviour chains (s ∷ ss) device cells ≡ joined first (play_of behaviour chains ss device first.results.cells))
two_plays chains s ss device cells =
    let first = play_events behaviour chains (events_of s) device cells in
    let stays = device_stays chains (events_of s) device cells in
    play_events-append behaviour chains (events_of s) (all_events ss) device cells
    ∙ ap (λ (d : DeviceKind). joined first (play_of behaviour chains ss d first.results.cells)) stays
    ∙ ap (λ (p : Play DeviceKind). joined p (play_of behaviour chains ss device p.results.cells)) (one_played behaviour chains s device cells)

one_count : (chains : Chains) (s : PatternStatement) (device : DeviceKind) (cells : List Symbol)
    → length (verdicts_of (play_of behaviour chains (s ∷ []) device cells).results.scans) ≡ scans_in (events_of s)
one_count chains s device cells =
    ap (λ (p : Play DeviceKind). length (verdicts_of p.results.scans)) (sym (one_played behaviour chains s device cells)) ∙ verdicts_count chains (events_of s) device cells

pub said : (says : List Saying) (p : Progress) → finished (after_sayings says p) ≡ p.lines ++ ending p.scans says (to_play p says)
said [] p = refl
said (Head text ∷ says) p = said says p
said (GapByte byte ∷ says) p = said says p
said (Named name ∷ says) p =
    said says (opened name p) ∙ append_assoc p.lines (pattern_line name) (ending 0 says (to_play p says))
    ∙ ap (λ (xs : List ℕ). p.lines ++ xs) (sym (append_assoc (pattern_line name) (pattern_lines 0 says (verdicts_of (to_play p says).results.scans)) (cells_line (to_play p says).results.cells)))
said (Stated s ∷ says) p =
    let first = play_of behaviour p.chains (s ∷ []) p.device p.cells in
    let rest = play_of behaviour p.chains (statements_in says) p.device first.results.cells in
    let these = verdicts_of first.results.scans in
    let those = verdicts_of rest.results.scans in
    let line = scan_lines (suc p.scans) these in
    let more = pattern_lines (p.scans + length these) says those in
    let cells = cells_line rest.results.cells in
    let whole = two_plays p.chains s (statements_in says) p.device p.cells in
    let n = scans_in (events_of s) in
    let lines =
    front_lines p.scans n says these those (verdicts_of (first.results.scans ++ rest.results.scans))
    (map-append (λ (scan : ScanResult). scan.passed) first.results.scans rest.results.scans) (one_count p.chains s p.device p.cells) in
    said says (after_saying (Stated s) p)
    ∙ append_assoc p.lines line (more ++ cells)
    ∙ ap (λ (xs : List ℕ). p.lines ++ xs) (sym (append_assoc line more cells) ∙ ap (λ (xs : List ℕ). xs ++ cells) (sym lines) ∙ ap (ending p.scans (Stated s ∷ says)) (sym whole))

pub progress : ProgressLaw
progress head chains device says = said says (at_first head chains device)
