-- A scan call on one chain alone, in closed form: the words of the private functions of src/chain_call.rt.
use Rattle.std.specs.Prelude.{ℕ, ◌+◌, ◌-◌, ◌&&◌, zero, suc, Bool, true, List, [], ◌∷◌, ◌++◌, length, take, reverse, slice_index_or, slice_set, Option, None, Some}
use Rattle.stil_types.specs.declared.statement.ScanCall.{ScanCall}
use Rattle.stil_types.specs.Calls.{string_length, compare_character}
use Rattle.stil_tester.specs.declared.symbol.Symbol.{Symbol}
use Rattle.stil_tester.specs.declared.symbol.Symbol.TheVariants.{Unknown}
use Rattle.stil_tester.specs.declared.chains.ChainBits.{ChainBits}
use Rattle.stil_tester.specs.Symbols.{flip_if, meets, symbol_of, expect_of, padded_load, differ}
use Rattle.stil_tester.specs.Shifting.{cell_at, held_by, moved_on, no_bits, with_symbols}

-- what the bits of a chain hold after symbols were shifted in, one after the other
abbrev pub moved_all : List Bool → List Symbol → List Symbol → List Symbol
moved_all ps [] held = held
moved_all ps (x ∷ xs) held = moved_all ps xs (moved_on ps x held)

-- what comes out of a chain in shift k, where these symbols are shifted in
abbrev pub coming_out : ChainBits → List Symbol → List Symbol → ℕ → Symbol
coming_out chain symbols held k = flip_if chain.out_parity (slice_index_or (moved_all chain.parity (take k symbols) held) (length chain.cells - 1) Unknown)

-- whether what comes out of a chain in shift k is as expected
abbrev pub met_at : ChainBits → List Symbol → ℕ → Option (List ℕ) → Option (List ℕ) → ℕ → Bool
met_at chain cells shifts load compare k = meets (expect_of (compare_character compare k)) (coming_out chain (padded_load shifts load) (held_by chain cells) k)

-- so at each number below a bound
abbrev pub all_below : ℕ → (ℕ → Bool) → Bool
all_below zero test = true
all_below (suc n) test = all_below n test && test n

-- the same wherever a character of the compare stands
abbrev pub chain_met : ChainBits → List Symbol → ℕ → Option (List ℕ) → Option (List ℕ) → Bool
chain_met chain cells shifts load compare = all_below (string_length compare) (met_at chain cells shifts load compare)

-- the same for the chain of a number and its strings
abbrev pub met_on : List ChainBits → List Symbol → ScanCall → ℕ → Bool
met_on chains cells call c = chain_met (slice_index_or chains c no_bits) cells call.shifts (slice_index_or call.loads c None) (slice_index_or call.compares c None)

-- the cells where each bit from a place on takes its character of a load, flipped by the parities up to it
abbrev pub filled : List ℕ → List Bool → Bool → List ℕ → ℕ → List Symbol → List Symbol
filled [] ps parity text place cells = cells
filled (n ∷ ns) [] parity text place cells = cells
filled (n ∷ ns) (p ∷ ps) parity text place cells =
    filled ns ps (differ parity p) text (place + 1) (slice_set cells n (flip_if (differ parity p) (symbol_of (slice_index_or (reverse text) place 78))))

-- the cells where each bit from a place on is flipped by the parities up to it
abbrev pub flipped_along : List ℕ → List Bool → Bool → List Symbol → List Symbol
flipped_along [] ps parity cells = cells
flipped_along (n ∷ ns) [] parity cells = cells
flipped_along (n ∷ ns) (p ∷ ps) parity cells = flipped_along ns ps (differ parity p) (slice_set cells n (flip_if (differ parity p) (cell_at cells n)))

-- what the bits of a chain hold after symbols were shifted in, where nothing is flipped on the way
abbrev pub pushed : ChainBits → List Symbol → List Symbol → List Symbol
pushed chain symbols cells = take (length chain.cells) (reverse symbols ++ held_by chain cells)

-- the cells after the shifts of one chain alone
abbrev pub after_chain : ChainBits → ℕ → Option (List ℕ) → List Symbol → List Symbol
after_chain chain shifts load cells = with_symbols chain.cells (moved_all chain.parity (padded_load shifts load) (held_by chain cells)) cells

-- the cells after the shifts of each chain, one chain after the other
abbrev pub after_each : List ChainBits → ℕ → List (Option (List ℕ)) → List Symbol → List Symbol
after_each [] shifts loads cells = cells
after_each (chain ∷ chains) shifts [] cells = cells
after_each (chain ∷ chains) shifts (load ∷ loads) cells = after_each chains shifts loads (after_chain chain shifts load cells)
