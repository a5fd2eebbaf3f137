-- The words at the top of a head in two parts.
use Rattle.std.specs.Prelude.{ℕ, List, [], ◌∷◌, codes}

-- of signals, structures, timing and patterns
abbrev pub first_words : List (List ℕ)
first_words =
    codes "Header" ∷ codes "Signals" ∷ codes "SignalGroups" ∷ codes "ScanStructures" ∷ codes "Spec" ∷ codes "Selector" ∷ codes "Timing"
    ∷ codes "PatternBurst" ∷ codes "PatternExec" ∷ []

-- of what patterns call, and others
abbrev pub further_words : List (List ℕ)
further_words =
    codes "Procedures" ∷ codes "MacroDefs" ∷ codes "UserKeywords" ∷ codes "UserFunctions" ∷ codes "DCLevels" ∷ codes "DCSets"
    ∷ codes "Environment" ∷ codes "Variables" ∷ codes "Ann" ∷ codes "Pattern" ∷ []
