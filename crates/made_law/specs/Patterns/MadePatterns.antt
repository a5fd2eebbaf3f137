-- What the made STIL says behind its head: one Pattern of sixteen loads, each with a capture behind it (IEEE 1450-1999, Pattern).
use Rattle.std.specs.Prelude.{ℕ, zero, suc, ◌+◌, ◌*◌, List, [], ◌∷◌, ◌++◌, map, codes, Option, Some, None}
use Rattle.std.specs.List.{flat_map, range_with_len}
use Rattle.stil_types.specs.declared.statement.ScanCall.{ScanCall}
use Rattle.stil_types.specs.declared.statement.PatternStatement.{PatternStatement}
use Rattle.stil_types.specs.declared.statement.PatternStatement.TheVariants.{Scan, Other}
use Rattle.stil_reader.specs.declared.stil.Stil.{Stil}
use Rattle.design_maker.specs.Pieces.{pieces}
use Rattle.design_maker.specs.Chains.{chain_length}
use Rattle.design_maker.specs.MadeStil.{load_character, compare_character, load, compare}
use Rattle.made_law.specs.Patterns.MadeHead.{BlockPlace, chain_numbers, made_head}

-- what call r loads into chain k
abbrev pub load_string : ℕ → ℕ → ℕ → List ℕ
load_string n r k = pieces (load_character r k) (chain_length n k)

-- what call r compares at chain k: the first compares nothing
abbrev pub compare_string : ℕ → ℕ → ℕ → Option (List ℕ)
compare_string n zero k = None
compare_string n (suc r) k = Some (pieces (compare_character (suc r) k) (chain_length n k))

-- call r shifts as often as the longest chain has units
abbrev pub made_call : ℕ → ℕ → ScanCall
made_call n r =
    record { shifts = chain_length n 0; loads = map (λ k. Some (load_string n r k)) chain_numbers; compares = map (compare_string n r) chain_numbers }

-- what stands in call r for chain k
abbrev pub given : ℕ → ℕ → ℕ → List ℕ
given n zero k = load n zero k
given n (suc r) k = load n (suc r) k ++ compare n (suc r) k

-- the bytes of call r
abbrev pub call_bytes : ℕ → ℕ → List ℕ
call_bytes n r = codes "Call load_unload {" ++ (pieces (given n r) 8 ++ codes " }")

-- the bytes of a capture
abbrev pub capture_bytes : List ℕ
capture_bytes = codes "Call capture;"

-- call r and its capture: the first call stands on line 34, and each of both on a line of its own
abbrev pub made_pair : ℕ → ℕ → List PatternStatement
made_pair n r = Scan 0 (call_bytes n r) (made_call n r) (34 + 2 * r) ∷ Other 0 capture_bytes ∷ []

-- the sixteen calls
abbrev pub made_statements : ℕ → List PatternStatement
made_statements n = flat_map (made_pair n) (range_with_len 0 16)

-- the patterns of n units
abbrev pub made_stil : (ℕ → BlockPlace) → ℕ → Stil
made_stil at n = record { head = made_head at n; patterns = codes "p" ∷ []; statements = made_statements n }
