-- All chains at once: each cell stands at one place.
use Rattle.std.proofs.Common.{◌≡◌, ℕ, ◌+◌, ◌<◌, ◌≤◌, List, [], ◌∷◌, length, take, arith, suc, zero, get_or, ⊎_elim}
use Rattle.std.proofs.lemmas.Bool.{cases_lt}
use Rattle.std.proofs.lemmas.List.{length-append}
use Rattle.std.proofs.lemmas.List.Concat.{get_or-flat_map}
use Rattle.stil_tester.specs.declared.chains.ChainBits.{ChainBits}
use Rattle.stil_tester.specs.declared.chains.Chains.{Chains}
use Rattle.stil_tester.specs.Shifting.{numbers_of, IsChain, AreChains, no_bits}
use Rattle.stil_tester.proofs.WellFormed.{once_of}
use Rattle.stil_tester.proofs.WholeCalls.{found_in}
use Rattle.retarget.specs.Places.{StandsAt}
use Rattle.retarget.proofs.Numbers.{apart}

-- where the bits of a chain begin among all of them
abbrev pub start_of : List ChainBits → ℕ → ℕ
start_of chains c = length (numbers_of (take c chains))

pub number_at : (chains : List ChainBits) (c i : ℕ) → c < length chains → i < length (get_or chains c no_bits).cells → get_or (numbers_of chains) (start_of chains c + i) 0 ≡ get_or (get_or chains c no_bits).cells i 0
number_at chains c i l m = get_or-flat_map (λ (chain : ChainBits). chain.cells) chains c i no_bits 0 l m

pub number_within : (chains : List ChainBits) (c i : ℕ) → c < length chains → i < length (get_or chains c no_bits).cells → start_of chains c + i < length (numbers_of chains)
number_within [] c i l m = absurd (omega arith)
number_within (chain ∷ chains) zero i l m = omega (arith, length-append chain.cells (numbers_of chains))
number_within (chain ∷ chains) (suc c) i l m =
    omega (arith, length-append chain.cells (numbers_of chains), length-append chain.cells (numbers_of (take c chains)), number_within chains c i (omega arith) m)

-- each cell stands at some place
pub standing : (chains : Chains) → AreChains chains → (cell : ℕ) → cell < chains.cells → (c : ℕ) × (i : ℕ) × StandsAt chains cell c i
standing chains good cell l =
    let at : (c : ℕ) × (i : ℕ) × (c < length chains.chains) × (i < length (get_or chains.chains c no_bits).cells) × (get_or (get_or chains.chains c no_bits).cells i 0 ≡ cell)
    = found_in cell chains.chains (omega (arith, good.once cell l)) in
    (at.0, at.1, record { is_chain = at.2; is_place = at.3; is_there = at.4 })

-- the cells of the chains are apart
pub all_apart : (chains : Chains) → AreChains chains → (i j : ℕ) → i < j → j < length (numbers_of chains.chains) → get_or (numbers_of chains.chains) i 0 ≡ get_or (numbers_of chains.chains) j 0 → ⊥
all_apart chains good = apart (numbers_of chains.chains) (once_of chains good)

pub chain_is : (chains : Chains) → AreChains chains → (c : ℕ) → c < length chains.chains → IsChain (get_or chains.chains c no_bits)
chain_is chains good c l = good.each c no_bits l
