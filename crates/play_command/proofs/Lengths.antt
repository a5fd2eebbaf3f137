-- A device of the tester stays what it is, and a play shows a verdict for each scan call that is run.
use Rattle.std.proofs.Common.{◌≡◌, suc, List, [], ◌∷◌, length, refl, ap, ◌∙◌}
use Rattle.std.proofs.lemmas.List.{length-map}
use Rattle.stil_tester.specs.declared.symbol.Symbol.{Symbol}
use Rattle.stil_tester.specs.declared.chains.Chains.{Chains}
use Rattle.stil_tester.specs.declared.results.ScanResult.{ScanResult}
use Rattle.stil_tester.specs.Shifting.{scan_call}
use Rattle.stil_tester.specs.Runs.{Event, Tells, Shifts, device_after, play_events, verdicts_of}
use Rattle.play_command.specs.declared.device.DeviceKind.{DeviceKind}
use Rattle.play_command.specs.Plays.{behaviour, change_of, scans_in}

pub device_stays : (chains : Chains) (es : List Event) (device : DeviceKind) (cells : List Symbol) → device_after behaviour chains es device cells ≡ device
device_stays chains [] device cells = refl
device_stays chains (Tells telling ∷ es) device cells = device_stays chains es device (change_of device cells)
device_stays chains (Shifts call ∷ es) device cells = device_stays chains es device (scan_call chains cells call).loaded

scans_count : (chains : Chains) (es : List Event) (device : DeviceKind) (cells : List Symbol) → length (play_events behaviour chains es device cells).results.scans ≡ scans_in es
scans_count chains [] device cells = refl
scans_count chains (Tells telling ∷ es) device cells = scans_count chains es device (change_of device cells)
scans_count chains (Shifts call ∷ es) device cells = ap suc (scans_count chains es device (scan_call chains cells call).loaded)

pub verdicts_count : (chains : Chains) (es : List Event) (device : DeviceKind) (cells : List Symbol) → length (verdicts_of (play_events behaviour chains es device cells).results.scans) ≡ scans_in es
verdicts_count chains es device cells = length-map (play_events behaviour chains es device cells).results.scans (λ (scan : ScanResult). scan.passed) ∙ scans_count chains es device cells
