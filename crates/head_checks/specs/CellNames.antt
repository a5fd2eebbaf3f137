-- Which cell a name of ScanCells names (IEEE 1450-1999, ScanChain, in this profile).
use Rattle.std.specs.Prelude.{ℕ, Bool, true, false, ◌&&◌, ◌||◌, not, ◌==◌, if◌then◌else◌, List, [], ◌∷◌, ◌++◌, length, drop, map, filter}
use Rattle.std.specs.List.{list_any, starts_with}
use Rattle.stil_tokens.specs.StilTokens.{is_blank}

-- a point counts as a slash
abbrev pub slashed : ℕ → ℕ
slashed b = if b == 46 then 47 else b

-- backslashes and blanks don't count
abbrev pub is_counted : ℕ → Bool
is_counted b = not (b == 92 || is_blank b)

-- the bytes of a name as they count
abbrev pub counted : List ℕ → List ℕ
counted name = map slashed (filter is_counted name)

-- behind the instance's name may stand a slash and a part without one
abbrev pub is_last_part : List ℕ → Bool
is_last_part [] = true
is_last_part (b ∷ bs) = b == 47 && not (list_any (λ c. c == 47) bs)

-- the bytes are these, and then such a part or nothing
abbrev pub is_named : List ℕ → List ℕ → Bool
is_named instance name = starts_with ◌==◌ name instance && is_last_part (drop (length instance) name)

-- the module's name, a slash and the instance's name
abbrev pub within : List ℕ → List ℕ → List ℕ
within outer instance = outer ++ 47 ∷ instance

-- the name names a cell of the instance, with the module's name in front or without
abbrev pub names_cell : List ℕ → List ℕ → List ℕ → Bool
names_cell outer instance name =
    is_named (counted instance) (counted name) || is_named (within (counted outer) (counted instance)) (counted name)

-- at each place a name names a cell of the instance that stands there
abbrev pub name_each : List ℕ → List (List ℕ) → List (List ℕ) → Bool
name_each outer [] [] = true
name_each outer [] (name ∷ names) = false
name_each outer (instance ∷ instances) [] = false
name_each outer (instance ∷ instances) (name ∷ names) = names_cell outer instance name && name_each outer instances names
