-- What `play` says: a line for each Pattern and for each time that a scan call is run, and the cells at the end.
use Rattle.std.specs.Prelude.{◌≡◌, ℕ, ◌+◌, suc, Bool, true, false, List, [], ◌∷◌, ◌++◌, length, map, take, drop, replicate, codes, decimal, refl}
use Rattle.base_types.specs.Names.{plain_name}
use Rattle.stil_reader.specs.Sayings.{Saying, Head, GapByte, Named, Stated}
use Rattle.stil_reader.specs.Patterns.{statements_in}
use Rattle.stil_tester.specs.declared.symbol.Symbol.{Symbol}
use Rattle.stil_tester.specs.declared.symbol.Symbol.TheVariants.{Zero, One, Unknown}
use Rattle.stil_tester.specs.declared.chains.Chains.{Chains}
use Rattle.stil_tester.specs.Devices.{held, mixed, length-mixed}
use Rattle.stil_tester.specs.Runs.{Event, Tells, Shifts, Behaviour, events_of, play_of, verdicts_of}
use Rattle.play_command.specs.declared.device.DeviceKind.{DeviceKind}
use Rattle.play_command.specs.declared.device.DeviceKind.TheVariants.{Hold, Mix}

-- what a device does to the cells: `hold` changes nothing, `mix` gives each the flipped value of the next
abbrev pub change_of : DeviceKind → List Symbol → List Symbol
change_of Hold = held
change_of Mix = mixed

-- the number of cells stays
pub length-changed : (kind : DeviceKind) (cells : List Symbol) → length (change_of kind cells) ≡ length cells
length-changed Hold cells = refl
length-changed Mix cells = length-mixed cells

-- such a device stays what it is, and always answers true
abbrev pub behaviour : Behaviour DeviceKind
behaviour = record { next = λ kind telling cells. kind; answer = λ kind telling cells. record { cells = change_of kind cells; passed = true } }

-- how many scan calls are run
abbrev pub scans_in : List Event → ℕ
scans_in [] = 0
scans_in (Tells telling ∷ events) = scans_in events
scans_in (Shifts call ∷ events) = suc (scans_in events)

-- `pattern NAME`, by the plain name
abbrev pub pattern_line : List ℕ → List ℕ
pattern_line name = codes "pattern " ++ plain_name name ++ 10 ∷ []

-- the word of a verdict
abbrev pub verdict_word : Bool → List ℕ
verdict_word true = codes "pass"
verdict_word false = codes "fail"

-- `scan K pass` or `scan K fail`
abbrev pub scan_line : ℕ → Bool → List ℕ
scan_line number passed = codes "scan " ++ decimal number ++ 32 ∷ verdict_word passed ++ 10 ∷ []

-- a line for each verdict, the first of which has this number
abbrev pub scan_lines : ℕ → List Bool → List ℕ
scan_lines number [] = []
scan_lines number (passed ∷ verdicts) = scan_line number passed ++ scan_lines (suc number) verdicts

-- the lines of what a text says, by the verdicts of all scan calls, of which so many were run in the Pattern that is open
abbrev pub pattern_lines : ℕ → List Saying → List Bool → List ℕ
pattern_lines scans [] verdicts = []
pattern_lines scans (Head text ∷ says) verdicts = pattern_lines scans says verdicts
pattern_lines scans (GapByte byte ∷ says) verdicts = pattern_lines scans says verdicts
pattern_lines scans (Named name ∷ says) verdicts = pattern_line name ++ pattern_lines 0 says verdicts
pattern_lines scans (Stated statement ∷ says) verdicts =
    let n = scans_in (events_of statement) in
    scan_lines (suc scans) (take n verdicts) ++ pattern_lines (scans + n) says (drop n verdicts)

-- `0`, `1` or `N`
abbrev pub cell_character : Symbol → ℕ
cell_character Zero = 48
cell_character One = 49
cell_character Unknown = 78

-- `cells` and a character for each, by their numbers
abbrev pub cells_line : List Symbol → List ℕ
cells_line cells = codes "cells " ++ map cell_character cells ++ 10 ∷ []

-- what `play` says of the statements of a text, which a device plays on these chains from cells that are all 0
abbrev pub play_text : DeviceKind → Chains → List Saying → List ℕ
play_text device chains says =
    let play = play_of behaviour chains (statements_in says) device (replicate chains.cells Zero) in
    pattern_lines 0 says (verdicts_of play.results.scans) ++ cells_line play.results.cells
